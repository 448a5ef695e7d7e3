-- The invariant: the first refusal of the reads that are left is that of all.
use mathlib.Core.Path.{refl, sym, ap, ◌∙◌}
use Prim.Native.Nat.{◌+◌}
use native.Mathlib.Omega.{arith}
use Rattle.std.proofs.lemmas.Result.{err_from_is_err_and}
use Rattle.refusal.proofs.Numbers.{number_positive}
use Rattle.refusal.specs.Number.{number}
use Rattle.definition.specs.Tree.{access_visit}
use Rattle.permission.specs.Codes.{access_kind, maybe_access}
use Rattle.tree.proofs.Visits.{checked-accepted}
use Rattle.tree.proofs.Inits.{reads_all, reads-skipped, reads-passed, reads-refused, reads_end}
use Rattle.tree.proofs.reads.first_refused_read.Goals as goal
use Rattle.tree.proofs.reads.first_refused_read.Goals.{in-Some+in_ok-check_access, in_default}

pub returns-in_err-check_access : goal.returns-in_err-check_access
returns-in_err-check_access c =
    let e = err_from_is_err_and c.from_residual.result c.from_residual.ensures.1 in
    rw (e.1, e.2) (let l = c.loop-k in
    let a = c.args in
    let inside = a.inside.now in
    let r = c.in_err-check_access.field-0.0 in
    λ nodes holds.
    reads-refused a.node a.from inside nodes l.k (omega arith) _ c.init_access.ensures (access_kind c.in-Some.kind) (number r) (ap maybe_access c.in-Some.is)
    (c.in_err-check_access.ensures nodes holds) (λ z. absurd (omega (arith, number_positive r, z)))
    ∙ l.invariant nodes holds
    ∙ reads_all a.node a.from inside nodes)

pub loop-k-preserved : goal.loop-k-preserved
loop-k-preserved c = let l = c.loop-k in
    let a = c.args in
    let inside = a.inside.now in
    λ nodes holds.
    elim c.match-init_access.branch [
      | in-Some+in_ok-check_access w ↦
          reads-passed a.node a.from inside nodes l.k (omega arith) _ c.init_access.ensures (access_kind w.in-Some.kind) _ (ap maybe_access w.in-Some.is) refl
          (checked-accepted (access_visit (access_kind w.in-Some.kind) a.node (a.from + l.k) 1) nodes _ (w.in_ok-check_access.ensures nodes holds))
      | in_default w ↦ reads-skipped a.node a.from inside nodes l.k (omega arith) _ c.init_access.ensures (ap maybe_access w.in_default.is)
    ]
    ∙ l.invariant nodes holds

pub returns : goal.returns
returns c = let l = c.loop-k in
    let a = c.args in
    let inside = a.inside.now in
    λ nodes holds. sym (reads_end a.node a.from inside nodes l.k (omega arith)) ∙ l.invariant nodes holds ∙ reads_all a.node a.from inside nodes
