-- An allocation's parts of the five buffers, as they are lent on and come back: reading one gives the field, and what is written
-- into one is the memory with that field changed.
use Prim.Native.Nat.{ℕ, ◌+◌, ◌≤◌, ◌<◌}
use mathlib.Core.Path.{◌≡◌, refl, sym, ◌∙◌}
use mathlib.Core.List.{List}
use borrow.Rule.Slice.PartMut.{put_mid}
use lib.ListN.{length, take, drop}
use Rattle.definition.specs.Notation.{mutate_at}
use Rattle.definition.specs.Memory.{Allocation, Memory, size, node_count, code_count, allocation_at}
use Rattle.tables.specs.Encoding.{Buffers, parents_of, protectors_of, words_of, codes_of, held}
use Rattle.tables.specs.Held.{start_of, Holds, StartsAt}
use Rattle.tables.proofs.Focus.{focus-room, focus-part, focus-same, focus-mutate}
use Rattle.tables.proofs.Sizes.{length-parents, length-protectors, codes_at}
use Rattle.tables.proofs.ReadBack.{holds-parents, holds-protectors, holds-words, holds-codes}

-- one buffer b that holds the parts f; allocation a's starts at p and has k numbers
module _ (total : ℕ) (f : Allocation → List ℕ) (m : Memory) (a : ℕ) (made : a < length m) (b : List ℕ) (h : b ≡ held total f m)
    (p k : ℕ) (starts : p ≡ start_of f m a) (long : k ≡ length (f (allocation_at m a))) where
  lent-room : p + k ≤ length b
  lent-room = rw (h, starts, long) (focus-room total f m a made)

  lent-part : take k (drop p b) ≡ f (allocation_at m a)
  lent-part = rw (h, starts, long) (focus-part total f m a made)

  given-part : (g : Allocation → Allocation) (new : List ℕ) → length new ≡ k → f (g (allocation_at m a)) ≡ new
      → put_mid p k b new ≡ held total f (mutate_at a g m)
  given-part g new l e = rw (h, starts, long) (focus-mutate total f m a made g new (l ∙ long) e)

-- each of the five
module _ {m : Memory} {b : Buffers} (h : Holds m b) {a : ℕ} (made : a < length m) where
  -- ---- a buffer whose part stays
  pub same-parents : (g : Allocation → Allocation) → parents_of (g (allocation_at m a)) ≡ parents_of (allocation_at m a) → b.parents ≡ held 1024 parents_of (mutate_at a g m)
  same-parents g e = holds-parents h ∙ sym (focus-same 1024 parents_of m a made g e)

  pub same-protectors : (g : Allocation → Allocation) → protectors_of (g (allocation_at m a)) ≡ protectors_of (allocation_at m a) → b.protectors ≡ held 1024 protectors_of (mutate_at a g m)
  same-protectors g e = holds-protectors h ∙ sym (focus-same 1024 protectors_of m a made g e)

  pub same-words : (g : Allocation → Allocation) → words_of (g (allocation_at m a)) ≡ words_of (allocation_at m a) → b.words ≡ held 4096 words_of (mutate_at a g m)
  same-words g e = holds-words h ∙ sym (focus-same 4096 words_of m a made g e)

  -- ---- parts, lent and given back
  module _ {w n c : ℕ} (s : StartsAt m a w n c) where
    pub parents-room : n + node_count (allocation_at m a) ≤ length b.parents
    parents-room = lent-room 1024 parents_of m a made b.parents (holds-parents h) n _ s.parents (sym (length-parents (allocation_at m a)))

    pub parents-part : take (node_count (allocation_at m a)) (drop n b.parents) ≡ parents_of (allocation_at m a)
    parents-part = lent-part 1024 parents_of m a made b.parents (holds-parents h) n _ s.parents (sym (length-parents (allocation_at m a)))

    pub protectors-room : n + node_count (allocation_at m a) ≤ length b.protectors
    protectors-room = lent-room 1024 protectors_of m a made b.protectors (holds-protectors h) n _ s.protectors (sym (length-protectors (allocation_at m a)))

    pub protectors-part : take (node_count (allocation_at m a)) (drop n b.protectors) ≡ protectors_of (allocation_at m a)
    protectors-part = lent-part 1024 protectors_of m a made b.protectors (holds-protectors h) n _ s.protectors (sym (length-protectors (allocation_at m a)))

    pub given-protectors : (g : Allocation → Allocation) (new : List ℕ) → length new ≡ node_count (allocation_at m a) → protectors_of (g (allocation_at m a)) ≡ new
        → put_mid n (node_count (allocation_at m a)) b.protectors new ≡ held 1024 protectors_of (mutate_at a g m)
    given-protectors = given-part 1024 protectors_of m a made b.protectors (holds-protectors h) n _ s.protectors (sym (length-protectors (allocation_at m a)))

    pub words-room : w + size (allocation_at m a) ≤ length b.words
    words-room = lent-room 4096 words_of m a made b.words (holds-words h) w _ s.words refl

    pub words-part : take (size (allocation_at m a)) (drop w b.words) ≡ (allocation_at m a).words
    words-part = lent-part 4096 words_of m a made b.words (holds-words h) w _ s.words refl

    pub codes-room : c + code_count (allocation_at m a) ≤ length b.codes
    codes-room = lent-room 32768 codes_of m a made b.codes (holds-codes h) c _ s.codes (sym (codes_at m h.valid a made))

    pub codes-part : take (code_count (allocation_at m a)) (drop c b.codes) ≡ codes_of (allocation_at m a)
    codes-part = lent-part 32768 codes_of m a made b.codes (holds-codes h) c _ s.codes (sym (codes_at m h.valid a made))

    pub given-codes : (g : Allocation → Allocation) (new : List ℕ) → length new ≡ code_count (allocation_at m a) → codes_of (g (allocation_at m a)) ≡ new
        → put_mid c (code_count (allocation_at m a)) b.codes new ≡ held 32768 codes_of (mutate_at a g m)
    given-codes = given-part 32768 codes_of m a made b.codes (holds-codes h) c _ s.codes (sym (codes_at m h.valid a made))
