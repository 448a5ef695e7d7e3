-- How many words follow, by the first four alone.
use Rattle.std.specs.Prelude.{if◌then◌else◌}
use Prim.Native.Nat.{ℕ, ◌+◌, ◌*◌, ◌%◌, ◌^◌, ◌<◌, ◌≤◌}
use mathlib.Core.Path.{◌≡◌, refl, ap, sym, ◌∙◌}
use mathlib.Core.Bool.{Bool, true, false}
use mathlib.Core.List.{List, [], ◌∷◌, ◌++◌}
use native.Mathlib.Omega.{arith}
use borrow.Author.Tests.{lt-ltb, le-ltb}
use lib.ListN.{length, take, drop, take-append-drop}
use Rattle.definition.specs.Request.{Request, request, following_length, is_safe}
use Rattle.definition.specs.Request.{Kind}
use Rattle.definition.specs.Request.Kind.{Allocate, Deallocate, Load, Store, Retag, NewCall, EndCall, Dereferenceable, SignedDereferenceable, LeakCheck, Empty, Unused}
use Rattle.definition.specs.Run.{words_of, taken_length}
use Rattle.request.specs.declared.Request as code
use Rattle.request.specs.Fields.{request_of}
use Rattle.stream.specs.Stream.{request_size, HeadOf}
use Rattle.stream.proofs.Words.{counted}

-- ---- no fourth word
either : (b : Bool) (n : ℕ) → n ≡ 0 → (if b then n else 0) ≡ 0
either true n e = e
either false n e = refl

by_kind : (k : Kind) (q : Request) → q.kind ≡ k → q.fourth ≡ 0 → following_length q ≡ 0
unfolding following_length
by_kind Allocate q e z = rw e
by_kind Deallocate q e z = rw e
by_kind Load q e z = rw e
by_kind Store q e z = rw e z
by_kind Retag q e z = rw e (either (is_safe q) (q.fourth % 2 ^ 23) (ap (λ (n : ℕ). n % 2 ^ 23) z))
by_kind NewCall q e z = rw e
by_kind EndCall q e z = rw e
by_kind Dereferenceable q e z = rw e
by_kind SignedDereferenceable q e z = rw e
by_kind LeakCheck q e z = rw e
by_kind Empty q e z = rw e
by_kind Unused q e z = rw e

no-fourth : (ws : List ℕ) → length ws < 4 → (request ws).fourth ≡ 0
unfolding request
no-fourth [] h = refl
no-fourth (a ∷ []) h = refl
no-fourth (a ∷ b ∷ []) h = refl
no-fourth (a ∷ b ∷ c ∷ []) h = refl
no-fourth (a ∷ b ∷ c ∷ d ∷ ws) h = absurd (omega arith)

pub size-short : (bytes : List ℕ) → length bytes < 16 → 16 ≡ request_size bytes
unfolding request_size
size-short bytes h =
    let k = counted bytes in
    let q : Request = request (words_of bytes) in
    let z : following_length q ≡ 0 = by_kind q.kind q refl (no-fourth (words_of bytes) (omega (arith, k.few, k.total))) in
    ap (λ (n : ℕ). 16 + 4 * taken_length n) (sym z)

-- ---- the four words
-- the fields of a request are those of its first four words
pub head-fields : (q : code.Request) (a b c d : ℕ) → request_of q [] ≡ request (a ∷ b ∷ c ∷ d ∷ []) → (rest : List ℕ) → request_of q rest ≡ request (a ∷ b ∷ c ∷ d ∷ rest)
unfolding request
head-fields q a b c d e rest = ap (with_following rest) e
  where
    with_following : List ℕ → Request → Request
    with_following ws x =
        record {
          kind = x.kind;
          allocation = x.allocation;
          node = x.node;
          has_provenance = x.has_provenance;
          exponent = x.exponent;
          extra = x.extra;
          address = x.address;
          fourth = x.fourth;
          following = ws;
        }

-- four words in front
cut-four : (ws : List ℕ) (a b c d : ℕ) (rest : List ℕ) → take 4 ws ≡ take 4 (a ∷ b ∷ c ∷ d ∷ rest) → ws ≡ a ∷ b ∷ c ∷ d ∷ drop 4 ws
cut-four ws a b c d rest e = sym (take-append-drop 4 ws) ∙ ap (λ (h : List ℕ). h ++ drop 4 ws) e

pub head_of : (q : code.Request) (a b c d : ℕ) (rest bytes : List ℕ) → words_of bytes ≡ a ∷ b ∷ c ∷ d ∷ rest → request_of q [] ≡ request (a ∷ b ∷ c ∷ d ∷ []) → HeadOf bytes q
head_of q a b c d rest bytes whole e ws front =
    let four = cut-four ws a b c d rest (front ∙ ap (take 4) whole) in
    head-fields q a b c d e (drop 4 ws) ∙ ap request (sym four)

-- how many words follow the fields is how many follow in the request
pub head-follows : (q : code.Request) (bytes : List ℕ) → HeadOf bytes q → following_length (request_of q (drop 4 (words_of bytes))) ≡ following_length (request (words_of bytes))
head-follows q bytes h = ap following_length (h (words_of bytes) refl)

module _ (bytes : List ℕ) (n : ℕ) (e : n ≡ following_length (request (words_of bytes))) where
  by-follow : 16 + 4 * taken_length n ≡ request_size bytes
  unfolding request_size
  by-follow = ap (λ (n : ℕ). 16 + 4 * taken_length n) e

  pub size-many : 4096 < n → 16 ≡ request_size bytes
  size-many h = ap (λ (t : Bool). 16 + 4 * (if t then 0 else n)) (sym (lt-ltb 4096 n h)) ∙ by-follow

  pub size_few : n ≤ 4096 → 16 + 4 * n ≡ request_size bytes
  size_few h = ap (λ (t : Bool). 16 + 4 * (if t then 0 else n)) (sym (le-ltb 4096 n h)) ∙ by-follow
