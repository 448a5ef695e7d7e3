-- How many records agree.
use Rattle.std.specs.Prelude.{Some, None}
use Rattle.std.proofs.Common.{ℕ, suc, ◌+◌, ◌-◌, ◌≤◌, ◌<◌, ◌≡◌, refl, subst, Bool, true, false, List, arith}
use mathlib.Core.Path.{subst⁻¹}
use mir.Val.{bool_byte}
use Rattle.definition.specs.Output.{IsOutput}
use Rattle.vectors.specs.declared.Record.{Record}
use Rattle.vectors.specs.Sample.{record_at, run_of, text_of, Agrees, one, Counted}
use Rattle.vectors.specs.Sample.Counted.{over, gone, next}

-- no more agree than there are
most : {file : List ℕ} {room left at n : ℕ} → Counted file room left at n → n ≤ left
most over = omega arith
most (gone e) = omega arith
most (next r true e a k) = omega (arith, most k)
most (next r false e a k) = omega (arith, most k)

-- a count of all says that the first is there and has the definition's text, and it is a count of all others
pub all-agree : {file : List ℕ} {room left at n : ℕ} → Counted file room (suc left) at n → n ≡ suc left
    → (r : Record) × ((record_at file at ≡ Some r) × (IsOutput (run_of file r) (text_of file r) × Counted file room left r.end left))
all-agree (gone f) e = absurd (omega arith)
all-agree {file} {room} {left} (next {n = n} r true f a k) e =
    let same : n ≡ left = omega arith in
    (r, (f, (a.same refl, subst (λ (m : ℕ). Counted file room left r.end m) same k)))
all-agree (next r false f a k) e = absurd (omega (arith, most k))

-- ---- the loop: so many records are done, and what comes of all if those that are left come to m
at_most : (b : Bool) → one b ≤ 1
at_most true = omega arith
at_most false = omega arith

pub byte-one : (b : Bool) → bool_byte b ≡ one b
byte-one true = refl
byte-one false = refl

pub record Counting (file : List ℕ) (room records agree done at : ℕ) : Type 0 where
  pub few : agree ≤ done
  pub counted : (m : ℕ) → Counted file room (records - done) at m → Counted file room records 12 (agree + m)

module _ {file : List ℕ} {room records agree done at : ℕ} (h : Counting file room records agree done at) where
  -- none is left
  pub counting-end : records ≤ done → Counted file room records 12 agree
  counting-end e =
      let none : records - done ≡ 0 = omega arith in
      let sum : agree + 0 ≡ agree = omega arith in
      subst (λ (n : ℕ). Counted file room records 12 n) sum (h.counted 0 (subst⁻¹ (λ (n : ℕ). Counted file room n at 0) none over))

  module _ (some : done < records) where
    left : records - done ≡ suc (records - (done + 1))
    left = omega arith

    pub counting-gone : record_at file at ≡ None → Counted file room records 12 agree
    counting-gone e =
        let sum : agree + 0 ≡ agree = omega arith in
        subst (λ (n : ℕ). Counted file room records 12 n) sum (h.counted 0 (subst⁻¹ (λ (n : ℕ). Counted file room n at 0) left (gone e)))

    pub counting-next : {r : Record} {b : Bool} → record_at file at ≡ Some r → Agrees (run_of file r) (text_of file r) room b
        → {n : ℕ} → n ≡ one b → Counting file room records (agree + n) (done + 1) r.end
    counting-next {r} {b} e a {n} is = record {
      few = omega (arith, h.few, at_most b);
      counted = λ m c.
          let sum : agree + (one b + m) ≡ agree + n + m = omega arith in
          subst (λ (n : ℕ). Counted file room records 12 n) sum (h.counted (one b + m) (subst⁻¹ (λ (n : ℕ). Counted file room n at (one b + m)) left (next r b e a c)));
    }
