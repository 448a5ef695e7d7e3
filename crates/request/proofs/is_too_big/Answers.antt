-- By its address, and by the bytes that a store has.
use mathlib.Core.Bool.{false≢true}
use mathlib.Core.Path.{◌≡◌, sym, ◌∙◌}
use Rattle.definition.specs.Notation.{any}
use Rattle.definition.specs.Request.{is_too_big}
use Rattle.request.specs.declared.Kind.TheVariants.{Store}
use Rattle.request.proofs.Matches.{nothing_stored}
use Rattle.request.proofs.is_too_big.Goals as goal

pub returns-else-eq : goal.returns-else-eq
unfolding is_too_big any
returns-else-eq c =
    let k = c.args.q.kind in
    let other : k ≡ Store → ⊥ = λ e. false≢true (sym (rw e at (sym c.eq.ensures ∙ c.if-eq.false))) in
    rw (← c.is_too_high.ensures, c.if-is_too_high.false, nothing_stored k c.args.following.now other, c.if-eq.false)
