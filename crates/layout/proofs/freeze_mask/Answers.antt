-- By the length of the buffer: one of 4,096 bytes has room for every mask (Bounded). By the first word: it is the metadata, and the words behind it
-- are the layout's.
use Prim.Native.Nat.{ℕ}
use native.Mathlib.Omega.{arith}
use mathlib.Core.List.{List}
use mathlib.Core.Path.{sym, ap₂, ◌∙◌}
use Rattle.definition.specs.Layout.{PointerMeta, nested_mask}
use Rattle.definition.proofs.Parts.{part-rest}
use Rattle.layout.proofs.Fill.{instead, nothing}
use Rattle.layout.proofs.Words.{no_words, some_words}
use Rattle.layout.proofs.Bounded.{wrong-length, right-length}
use Rattle.layout.proofs.freeze_mask.Goals as goal

pub returns-then-mask-ne4096 : goal.returns-then-mask-ne4096
returns-then-mask-ne4096 c = wrong-length c.args.words.now c.args.mask.now c.if-mask-ne4096.true

pub returns-in_default : goal.returns-in_default
returns-in_default c = let a = c.args in
    right-length a.words.now a.mask.now _ _ c.if-mask-ne4096.false (instead (no_words a.words.now (omega arith)) (nothing a.mask.now))

pub returns : goal.returns
returns c = let a = c.args in
    rw c.ok_or.ensures.value
    (right-length a.words.now a.mask.now _ _ c.if-mask-ne4096.false
    (instead
    (some_words a.words.now (omega arith)
    ∙ ap₂ (λ (m : PointerMeta) (ws : List ℕ). nested_mask 8 m ws) (sym c.from.ensures) (sym (part-rest 1 a.words.now)))
    c.fill_layout.ensures))
