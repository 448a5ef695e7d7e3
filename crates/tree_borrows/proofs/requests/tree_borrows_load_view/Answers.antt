-- What `library` hands out is what the reply names (Views); a copy of it is left, or nothing is.
use mathlib.Core.Path.{ap, ◌∙◌}
use lib.ListN.{length}
use Rattle.tree_borrows.specs.Numbers.{copied_to}
use Rattle.tree_borrows.proofs.Views.{too_short, copied}
use Rattle.tree_borrows.proofs.requests.tree_borrows_load_view.Goals as goal

pub returns-then-view-out : goal.returns-then-view-out
returns-then-view-out c = let same = c.load_view-view.ensures.loaded ∙ c.loaded-answer.ensures _ in
    let out = c.args.out.now in
    (ap length same, too_short out c.load_view-view.result.now c.if-view-out.true ∙ ap (copied_to out) same)

pub returns : goal.returns
returns c = let same = c.load_view-view.ensures.loaded ∙ c.loaded-answer.ensures _ in
    let out = c.args.out.now in
    (ap length same, c.copy_words.ensures ∙ copied out c.load_view-view.result.now c.if-view-out.false ∙ ap (copied_to out) same)
