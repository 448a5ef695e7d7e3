-- General laws of lists: a part between what stands before and behind it.
use Prim.Native.Nat.{ℕ, zero, suc, ◌+◌, ◌-◌, ◌≤◌}
use mathlib.Core.Path.{◌≡◌, refl, sym, ap, ◌∙◌}
use mathlib.Core.List.{List, [], ◌∷◌, ◌++◌, append_assoc, append-nil}
use native.Mathlib.Nat.{zero-add, suc-add}
use native.Mathlib.Omega.{arith}
use borrow.Rule.Slice.PartMut.{put_mid}
use lib.ListN.{length, take, drop, replicate, take-append-drop, length-append, length-drop, length-take, length-replicate, drop_of_length-le, replicate-append-replicate}
use lib.Seq.{take-append-add, drop-append-add, take-append-le, drop-append-le, take_at, drop_at, take-length, drop-drop, paste, length-take-le}
use Rattle.definition.specs.Notation.{write_at}
use Rattle.definition.proofs.Parts.{take-zeros}
use Rattle.definition.proofs.Writes.{write-none}
use Rattle.tables.specs.Held.{inserted}

-- ---- a part x with l before and r behind
pub paste-after : (l x : List ℕ) (off : ℕ) (s : List ℕ) (n : ℕ) → paste (l ++ x) (length l + off) s n ≡ l ++ paste x off s n
paste-after l x off s n =
    let e : length l + off + n ≡ length l + (off + n) = omega arith in
    rw (e, take-append-add, drop-append-add) (simp append_assoc)

pub paste-before : (x r : List ℕ) (off : ℕ) (s : List ℕ) (n : ℕ) → off + n ≤ length x → paste (x ++ r) off s n ≡ paste x off s n ++ r
paste-before x r off s n h =
    let h' : off ≤ length x = omega arith in
    rw (take-append-le off x r h', drop-append-le (off + n) x r h) (simp append_assoc)

pub put-between : (l x r y : List ℕ) → put_mid (length l) (length x) (l ++ (x ++ r)) y ≡ l ++ (y ++ r)
put-between l x r y =
    rw (take_at l (x ++ r) (length l) refl, drop_at l (x ++ r) (length l) refl, drop_at x r (length x) refl)

-- a part put back as s: a paste of s at p
pub put_whole : (d s : List ℕ) (p n : ℕ) → n ≡ length s → put_mid p n d s ≡ paste d p s (length s)
put_whole d s p n e = rw (e, drop-drop, take-length s) (sym (append_assoc (take p d) s (drop (p + length s) d)))

-- the definition's way to write a run of elements
pub write-paste : (n : ℕ) (ys xs : List ℕ) → n + length ys ≤ length xs → write_at n ys xs ≡ paste xs n ys (length ys)
unfolding write_at
write-paste zero [] [] h = refl
write-paste zero (y ∷ ys) [] h = absurd (omega arith)
write-paste (suc n) ys [] h = absurd (omega arith)
write-paste zero [] (x ∷ xs) h = refl
write-paste zero (y ∷ ys) (x ∷ xs) h =
    rw (zero-add (suc (length ys))) (ap (λ (t : List ℕ). y ∷ t) (write-paste zero ys xs (omega arith) ∙ rw (zero-add (length ys))))
write-paste (suc n) ys (x ∷ xs) h = rw (suc-add n (length ys)) (ap (λ (t : List ℕ). x ∷ t) (write-paste n ys xs (omega arith)))

pub write-between : (n : ℕ) (l x r ys : List ℕ) → n ≡ length l → length ys ≡ length x → write_at n ys (l ++ (x ++ r)) ≡ l ++ (ys ++ r)
unfolding write_at
write-between zero [] [] r [] e k = write-none 0 r
write-between zero [] (a ∷ x) r (y ∷ ys) e k = ap (λ (t : List ℕ). y ∷ t) (write-between zero [] x r ys refl (omega arith))
write-between (suc n) (a ∷ l) x r ys e k = ap (λ (t : List ℕ). a ∷ t) (write-between n l x r ys (omega arith) k)
write-between zero [] [] r (y ∷ ys) e k = absurd (omega arith)
write-between zero [] (a ∷ x) r [] e k = absurd (omega arith)
write-between zero (a ∷ l) x r ys e k = absurd (omega arith)
write-between (suc n) [] x r ys e k = absurd (omega arith)

-- a copy to the front of a part that is no longer than it
pub whole-copy : (s d : List ℕ) (n : ℕ) → n ≤ length s → s ++ drop (length s) (take n d) ≡ s
whole-copy s d n h =
    let short : length (take n d) ≤ n = simp length-take (omega arith) in
    let none : length (take n d) ≤ length s = omega (arith, short) in
    ap (λ (t : List ℕ). s ++ t) (drop_of_length-le (take n d) none) ∙ append-nil s

-- a row of which three parts are put back one after the other: as many x as stand before ys, then ys, and x to the end
pub made-row : (row ys front put made behind : List ℕ) (from x : ℕ) → from + length ys ≤ length row
    → front ≡ replicate (length (take from row)) x → put ≡ ys
    → put_mid from (from + length ys - from) (front ++ drop from row) put ≡ made
    → behind ≡ replicate (length (take (length made - (from + length ys)) (drop (from + length ys) made))) x
    → put_mid (from + length ys) (length made - (from + length ys)) made behind ≡ write_at from ys (replicate (length row) x)
made-row row ys front put made behind from x h f p q g =
    let k : ℕ = length ys in
    let e : ℕ = from + k in
    let b : ℕ = length row - e in
    let rest : List ℕ = drop from row in
    let mid : List ℕ = take k rest in
    let tail : List ℕ = drop k rest in
    let head : List ℕ = front ++ ys in
    let whole : List ℕ = head ++ (tail ++ []) in
    let f' : front ≡ replicate from x = f ∙ ap (λ (n : ℕ). replicate n x) (length-take-le from row (omega arith)) in
    let long : from ≡ length front = sym (ap length f' ∙ length-replicate from x) in
    let middle : e - from ≡ length mid = omega (arith, length-take-le k rest (omega (arith, length-drop from row))) in
    let two : made ≡ whole =
    sym q
    ∙ ap (λ (z : ℕ). put_mid z (e - from) (front ++ rest) put) long
    ∙ ap (λ (z : ℕ). put_mid (length front) z (front ++ rest) put) middle
    ∙ ap (λ (t : List ℕ). put_mid (length front) (length mid) (front ++ t) put) (sym (take-append-drop k rest))
    ∙ put-between front mid tail put
    ∙ ap (λ (t : List ℕ). front ++ (t ++ tail)) p
    ∙ sym (append_assoc front ys tail)
    ∙ ap (λ (t : List ℕ). head ++ t) (sym (append-nil tail)) in
    let heads : length head ≡ e = length-append front ys ∙ omega (arith, long) in
    let tails : length tail ≡ b = length-drop k rest ∙ omega (arith, length-drop from row) in
    let all : length made ≡ length row = ap length two ∙ length-append head (tail ++ []) ∙ omega (arith, heads, tails, length-append tail []) in
    let left : length (take (length made - e) (drop e made)) ≡ b = length-take-le (length made - e) (drop e made) (omega (arith, length-drop e made)) ∙ omega (arith, all) in
    let g' : behind ≡ replicate b x = g ∙ ap (λ (n : ℕ). replicate n x) left in
    let last : length whole - e ≡ length tail = omega (arith, length-append head (tail ++ []), length-append tail [], heads) in
    let parts : replicate from x ++ (replicate k x ++ replicate b x) ≡ replicate (length row) x =
    ap (λ (t : List ℕ). replicate from x ++ t) (replicate-append-replicate k b x)
    ∙ replicate-append-replicate from (k + b) x
    ∙ ap (λ (n : ℕ). replicate n x) (omega arith) in
    ap (λ (t : List ℕ). put_mid e (length t - e) t behind) two
    ∙ ap (λ (z : ℕ). put_mid e z whole behind) last
    ∙ ap (λ (z : ℕ). put_mid z (length tail) whole behind) (sym heads)
    ∙ put-between head tail [] behind
    ∙ ap (λ (t : List ℕ). head ++ t) (append-nil behind ∙ g')
    ∙ append_assoc front ys (replicate b x)
    ∙ ap (λ (t : List ℕ). t ++ (ys ++ replicate b x)) f'
    ∙ sym (write-between from (replicate from x) (replicate k x) (replicate b x) ys (sym (length-replicate from x)) (sym (length-replicate k x)))
    ∙ ap (write_at from ys) parts

-- a row put in behind x, with zeros at the end
pub insert-between : (l x r row : List ℕ) (z : ℕ) → length row ≤ z
    → inserted (l ++ (x ++ (r ++ replicate z 0))) (length l + length x) row ≡ l ++ ((x ++ row) ++ (r ++ replicate (z - length row) 0))
insert-between l x r row z h =
    let q = length l + length x in
    let b : l ++ (x ++ (r ++ replicate z 0)) ≡ (l ++ x) ++ (r ++ replicate z 0) = sym (append_assoc l x (r ++ replicate z 0)) in
    let lq : length (l ++ x) ≡ q = length-append l x in
    let k : length ((l ++ x) ++ (r ++ replicate z 0)) - (q + length row) ≡ length r + (z - length row) =
    simp (length-append, length-replicate) (omega arith) in
    rw (
      b,
      k,
      take_at (l ++ x) (r ++ replicate z 0) q lq,
      drop_at (l ++ x) (r ++ replicate z 0) q lq,
      take-append-add r (replicate z 0) (z - length row),
      take-zeros (z - length row) z (omega arith),
    )
    (simp append_assoc)
