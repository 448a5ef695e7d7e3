-- By cases: no provenance, with or without bytes; never made; refused; a new node.
use Rattle.std.proofs.Common.{rules, ◌≡◌, length}
use mathlib.Core.Option.{none}
use mathlib.Core.Path.{refl, sym, ap, ◌∙◌}
use native.Mathlib.Omega.{arith}
use Rattle.definition.specs.Memory.{refused_with, gives_pointer, names_never_made}
use Rattle.refusal.specs.Number.{number}
use Rattle.refusal.proofs.Numbers.{number_positive}
use Rattle.std.specs.Prelude.{None}
use Rattle.std.specs.Prelude as std
use Rattle.pointer.specs.Pointer.{provenance_of, thin_pointer_of}
use Rattle.pointer.specs.declared.Provenance.{Provenance}
use Rattle.answer.specs.declared.Answer.TheVariants.{Refused, Pointer}
use Rattle.parts.proofs.Lent.{trees-of}
use Rattle.retag.specs.Settings.{settings_of}
use Rattle.retag.specs.Retag.{answered}
use Rattle.retag.proofs.Requests.{nowhere, nowhere-refused, retagged, retagged-refused, retagged-child}
use Rattle.retag.proofs.Children.{tested-kept, read_after, refused-by-tests}
use Rattle.retag.proofs.Grown.{count_small}
use Rattle.retag.proofs.Codes.{inside-length}
use Rattle.retag.proofs.Tests.{first-4, of_parent}
use Rattle.retag.proofs.reborrow_inside.Goals as goal

pub returns-then-is_empty : goal.returns-then-is_empty
returns-then-is_empty c = λ s frame mask h a.
    let empty : length c.args.inside.now ≡ 0 = search rules in
    let w = settings_of c.args.settings mask in
    let p = thin_pointer_of c.args.p in
    retagged w frame p s (gives_pointer none, s) (nowhere w frame p s (ap provenance_of c.in_default.is) (sym (inside-length c.args.settings mask a.inside) ∙ empty))
    (Pointer None) refl (λ words. refl) h.trees

pub returns-in_default : goal.returns-in_default
returns-in_default c = λ s frame mask h a.
    let filled : length c.args.inside.now ≡ 0 → ⊥ = search rules in
    let w = settings_of c.args.settings mask in
    let p = thin_pointer_of c.args.p in
    retagged w frame p s (refused_with 7, s) (nowhere-refused w frame p s (ap provenance_of c.in_default.is) (λ z. filled (inside-length c.args.settings mask a.inside ∙ z)))
    (Refused 7) refl (λ words. refl) h.trees

pub returns-in_err-parent : goal.returns-in_err-parent
returns-in_err-parent c = λ s frame mask h a.
    let told = c.in_err-parent.ensures.never_made in
    let e : answered c.from_residual.result ≡ Refused (number c.in_err-parent.field-0.0) = search rules in
    rw (e, told.0)
    (retagged-refused (settings_of c.args.settings mask) frame c.args.p c.in-Some.is s 4
    (refused-by-tests c.args.settings mask frame c.args.entries s a c.args.p 4 (first-4 _ _ _ (thin_pointer_of c.args.p) s.memory (ap (λ (q : std.Option Provenance). names_never_made s.memory (provenance_of q)) c.in-Some.is ∙ told.1 s.memory (trees-of h).records)) (λ z. omega arith))
    (λ z. omega arith) h.trees)

pub retag_refusal-requires : goal.retag_refusal-requires
retag_refusal-requires c =
    let (m, h) = c.requires.holds_marked in
    let told = of_parent c.in-Some.is c.in_ok-parent.parent c.in_ok-parent.ensures.found in
    (m, (_, (trees-of h, told.2 m (trees-of h).records, told.1)))

pub returns-in_err-retag_refusal : goal.returns-in_err-retag_refusal
returns-in_err-retag_refusal c = λ s frame mask h a.
    let told = of_parent c.in-Some.is c.in_ok-parent.parent c.in_ok-parent.ensures.found in
    let l = told.2 s.memory (trees-of h).records in
    let x = c.in_err-retag_refusal.field-0.0 in
    let e : answered c.from_residual-in_err-retag_refusal.result ≡ Refused (number x) = search rules in
    rw e
    (retagged-refused (settings_of c.args.settings mask) frame c.args.p told.1 s _ (c.in_err-retag_refusal.ensures.value s frame mask _ (trees-of h) l told.1 a)
    (λ z. omega (arith, z, number_positive x))
    (record {
      allocs = h.trees.allocs;
      parents = h.trees.parents;
      protectors = h.trees.protectors;
      codes = tested-kept c.args.inside.now (c.in_err-retag_refusal.ensures.tested s.memory _ (trees-of h) l told.1) (λ z. omega (arith, z, number_positive x));
    }))

pub add_child-child-requires-clause-located : goal.add_child-child-requires-clause-located
add_child-child-requires-clause-located c =
    let (m, h) = c.requires.holds_marked in
    let told = of_parent c.in-Some.is c.in_ok-parent.parent c.in_ok-parent.ensures.found in
    let l = told.2 m (trees-of h).records in
    let t = c.in_ok-retag_refusal.ensures.tested m _ (trees-of h) l told.1 in
    (m, (l, t.passed refl, h.valid, read_after c.args.inside.now h t))

pub overflow_cast-result : goal.overflow_cast-result
overflow_cast-result c =
    let (m, h) = c.requires.holds_marked in
    let told = of_parent c.in-Some.is c.in_ok-parent.parent c.in_ok-parent.ensures.found in
    let l = told.2 m (trees-of h).records in
    let t = c.in_ok-retag_refusal.ensures.tested m _ (trees-of h) l told.1 in
    let k = t.passed refl in
    let (mask, e) = c.requires.inside_value in
    omega (arith, (c.add_child-child.ensures m mask l k h.valid (read_after c.args.inside.now h t) e).number, count_small m h.valid _ k.fits.reached.made)

pub returns : goal.returns
returns c = λ s frame mask h a.
    let told = of_parent c.in-Some.is c.in_ok-parent.parent c.in_ok-parent.ensures.found in
    let m = s.memory in
    let l = told.2 m (trees-of h).records in
    let t = c.in_ok-retag_refusal.ensures.tested m _ (trees-of h) l told.1 in
    rw (sym told.0)
    (retagged-child (settings_of c.args.settings mask) frame c.args.p told.1 s (sym (c.in_ok-retag_refusal.ensures.value s frame mask _ (trees-of h) l told.1 a))
    (c.add_child-child.ensures m mask l (t.passed refl) h.valid (read_after c.args.inside.now h t) a.inside))
