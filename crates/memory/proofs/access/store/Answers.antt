-- A refusal leaves the words; else the pasted bytes are the words of the memory that the definition leaves.
use Prim.Native.Nat.{ℕ}
use mathlib.Core.Path.{refl, ap, ◌∙◌}
use native.Mathlib.Omega.{arith}
use lib.ListN.{length}
use lib.Seq.{paste}
use Rattle.refusal.proofs.Numbers.{number_positive}
use Rattle.pointer.specs.Pointer.{thin_pointer_of}
use Rattle.tables.proofs.Sizes.{words-fit}
use Rattle.tables.proofs.Focus.{length-held}
use Rattle.tables.specs.Encoding.{words_of}
use Rattle.memory.specs.Access.{store_of}
use Rattle.memory.proofs.LoadStore.{accessed-checked, words-in, store-refused, store-accepted}
use Rattle.memory.proofs.access.store.Goals as goal

pub put_words-requires : goal.put_words-requires
put_words-requires c =
    let (m, h) = c.requires.holds_words in
    let a = c.args in
    let checked = accessed-checked (store_of (thin_pointer_of a.p) a.bytes.now a.exponent) m (c.in-Ok.ensures.accessed m a.bytes.now h.trees) refl in
    omega (arith, c.in-Ok.ensures.start_value m h.trees, words-in h.trees.records.valid checked, ap length h.words ∙ length-held 4096 words_of m (words-fit m h.trees.records.valid))

pub returns-in-Ok : goal.returns-in-Ok
returns-in-Ok c = λ m h.
    let a = c.args in
    store-accepted _ a.bytes.now a.exponent h.trees.records.valid h.words 0 refl (c.in-Ok.ensures.accessed m a.bytes.now h.trees)
    (c.put_words.ensures ∙ ap (λ (n : ℕ). paste a.words.now n a.bytes.now (length a.bytes.now)) (c.in-Ok.ensures.start_value m h.trees))

pub returns-in-Err : goal.returns-in-Err
returns-in-Err c = λ m h.
    rw c.from.ensures
    (store-refused _ c.args.bytes.now _ h.trees.records.valid h.words _ (λ z. omega (arith, z, number_positive c.in-Err.refusal)) (c.in-Err.ensures.accessed m c.args.bytes.now h.trees))
