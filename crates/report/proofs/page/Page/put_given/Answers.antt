-- By the answer: only a leak and a pointer have no words.
use mathlib.Core.List.{List, []}
use mathlib.Core.Logic.{inl, inr}
use mathlib.Core.Path.{◌≡◌, sym, ap, ◌∙◌}
use Prim.Native.Nat.{ℕ}
use Rattle.definition.specs.Output.{Text, given, ended, words}
use Rattle.answer.specs.Answer.{answer_of}
use Rattle.answer.specs.declared.Answer.{Answer}
use Rattle.answer.specs.declared.Answer.TheVariants.{Pointer}
use Rattle.std.specs.Prelude.{None, Some}
use Rattle.report.proofs.Writes.{puts_as}
use Rattle.report.proofs.page.Page.put_given.Goals as goal

-- what is given by an answer
abbrev text : List ℕ → Answer → Text
text loaded a = ended (given (answer_of a []).names loaded)

pub returns-in-Leak-clause-puts : goal.returns-in-Leak-clause-puts
unfolding given
returns-in-Leak-clause-puts c = puts_as (ap (text c.args.loaded.now) (sym c.in-Leak.is)) c.put_leak.ensures.puts

pub returns-in-Pointer-Some-clause-puts : goal.returns-in-Pointer-Some-clause-puts
unfolding given
returns-in-Pointer-Some-clause-puts c =
    let i = c.in-Pointer-Some in
    let e : c.args.answer ≡ Pointer (Some i.provenance) = i.is ∙ ap Pointer (rw i.is at i.field-0-is) in
    puts_as (ap (text c.args.loaded.now) (sym e)) c.put_provenance.ensures.puts

pub returns-in-Pointer-None-clause-puts : goal.returns-in-Pointer-None-clause-puts
unfolding given
returns-in-Pointer-None-clause-puts c =
    let i = c.in-Pointer-None in
    let e : c.args.answer ≡ Pointer None = i.is ∙ ap Pointer (rw i.is at i.field-0-is) in
    puts_as (ap (text c.args.loaded.now) (sym e)) c.put_words.ensures

pub returns-in-Refused-clause-puts : goal.returns-in-Refused-clause-puts
unfolding given
returns-in-Refused-clause-puts c =
    let loaded = c.args.loaded.now in
    let words-given : text loaded c.args.answer ≡ ended (words loaded) =
    elim c.in-Refused.is [
      | inl (n, e) ↦ ap (text loaded) e
      | inr r ↦ elim r [ inl e ↦ ap (text loaded) e | inr (start, len, e) ↦ ap (text loaded) e ]
    ] in
    puts_as (sym words-given) c.put_words-in-Refused.ensures
