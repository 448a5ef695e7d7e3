-- Numbers that pass the tests are those of a state, a kind, a protector, a permission, and the other way round.
use Rattle.std.specs.Prelude.{if◌then◌else◌}
use Prim.Native.Nat.{ℕ, zero, suc, ◌^◌, ◌≤◌, ◌<◌}
use mathlib.Core.Path.{◌≡◌, refl, sym, ap, ◌∙◌}
use mathlib.Core.Bool.{Bool, true, false, not, ◌&&◌, false≢true}
use native.Mathlib.Omega.{arith}
use borrow.Author.Tests.{ltb-false, lt-ltb, le-ltb, lt-leb}
use lib.Dec.{T, eqb, ltb}
use lib.ListN.{get_or, take, length-take}
use lib.Seq.{get_or-take}
use mathlib.Core.List.{List}
use mir.Syntax.{w32}
use mir.Val.{Fits}
use Rattle.definition.specs.Notation.{any}
use Rattle.definition.proofs.Any.{any_same}
use Rattle.definition.specs.Permission.{Permission, Protected, is_protected, is_yes, code, permission}
use Rattle.definition.specs.Permission.Protected.{No, Weak, Strong}
use Rattle.definition.specs.Memory.{Liveness, AllocationKind, is_live, kind_number}
use Rattle.definition.specs.Memory.Liveness.{Live, Dead}
use Rattle.definition.specs.Memory.AllocationKind.{Stack, Heap, Global, Function, VTable}
use Rattle.definition.specs.Request.{bad_byte}
use Rattle.definition.proofs.Booleans.{or-neither, in-range}
use Rattle.definition.proofs.Permissions.{permission-code, code-small}
use Rattle.tables.specs.Encoding.{state_number, protector_number}
use Rattle.tables.specs.Decoding.{liveness, allocation_kind, protector}
use Rattle.wellformed.specs.WellFormed.{bad_word, bad_code}

-- ---- states, kinds, protectors
pub state-number : (n : ℕ) → (n ≡ 0 → ⊥) → n ≤ 2 → state_number (liveness n) ≡ n
state-number zero h l = absurd (h refl)
state-number (suc zero) h l = refl
state-number (suc (suc zero)) h l = refl
state-number (suc (suc (suc n))) h l = absurd (omega arith)

pub live-number : (n : ℕ) → is_live (liveness n) ≡ eqb n 1
live-number n = go (eqb n 1)
  where
    go : (t : Bool) → is_live (if t then Live else Dead) ≡ t
    go true = refl
    go false = refl

pub state-small : (s : Liveness) → state_number s ≤ 2
state-small Live = omega arith
state-small Dead = omega arith

pub kind-number : (n : ℕ) → n ≤ 4 → kind_number (allocation_kind n) ≡ n
kind-number zero l = refl
kind-number (suc zero) l = refl
kind-number (suc (suc zero)) l = refl
kind-number (suc (suc (suc zero))) l = refl
kind-number (suc (suc (suc (suc zero)))) l = refl
kind-number (suc (suc (suc (suc (suc n))))) l = absurd (omega arith)

pub kind-small : (k : AllocationKind) → kind_number k ≤ 4
kind-small Stack = omega arith
kind-small Heap = omega arith
kind-small Global = omega arith
kind-small Function = omega arith
kind-small VTable = omega arith

pub protector-number : (n : ℕ) → n ≤ 2 → protector_number (protector n) ≡ n
protector-number zero l = refl
protector-number (suc zero) l = refl
protector-number (suc (suc zero)) l = refl
protector-number (suc (suc (suc n))) l = absurd (omega arith)

pub protector-small : (p : Protected) → protector_number p ≤ 2
protector-small No = omega arith
protector-small Weak = omega arith
protector-small Strong = omega arith

pub unprotected-zero : (p : Protected) → is_yes p ≡ false → protector_number p ≡ 0
unprotected-zero No e = refl
unprotected-zero Weak e = absurd (false≢true (sym e))
unprotected-zero Strong e = absurd (false≢true (sym e))

-- ---- codes: 6 to e are the protected ones
abbrev same : Bool → Bool → Bool
same true t = t
same false t = not t

same-eq : (a b : Bool) → T (same a b) → a ≡ b
same-eq true true h = refl
same-eq true false h = absurd h
same-eq false true h = absurd h
same-eq false false h = refl

pub protected-code : (c : ℕ) → c < 15 → is_protected (permission c) ≡ ltb 5 c
protected-code c l =
    same-eq (is_protected (permission c)) (ltb 5 c)
    (in-range (λ k. same (is_protected (permission k)) (ltb 5 k)) 0 15 tt c (omega arith) (omega arith))

pub code-good : (live : Bool) (r c : ℕ) → bad_code live r c ≡ false → c < 15
unfolding bad_code
code-good live r c h =
    let e : ltb 14 c ≡ false = (or-neither (ltb 14 c) (live && (if eqb r 0 then ltb 5 c else ltb c 6)) h).0 in
    omega (arith, ltb-false 14 c e)

pub mark-good : (r c : ℕ) → r ≤ 2 → bad_code true r c ≡ false → is_protected (permission c) ≡ is_yes (protector r)
unfolding bad_code
mark-good r c l h = protected-code c (code-good true r c h) ∙ go r l (or-neither (ltb 14 c) (if eqb r 0 then ltb 5 c else ltb c 6) h).1
  where
    go : (r : ℕ) → r ≤ 2 → (if eqb r 0 then ltb 5 c else ltb c 6) ≡ false → ltb 5 c ≡ is_yes (protector r)
    go zero l e = e
    go (suc zero) l e = lt-ltb 5 c (omega (arith, ltb-false c 6 e))
    go (suc (suc zero)) l e = lt-ltb 5 c (omega (arith, ltb-false c 6 e))
    go (suc (suc (suc r))) l e = absurd (omega arith)

-- and a permission's code passes
pub code-passes : (live : Bool) (r : Protected) (p : Permission) → (live ≡ true → is_protected p ≡ is_yes r) → bad_code live (protector_number r) (code p) ≡ false
unfolding bad_code
code-passes live r p h = rw (le-ltb 14 (code p) (omega (arith, code-small p))) (go live r h)
  where
    ends : ltb 5 (code p) ≡ is_protected p
    ends = sym (protected-code (code p) (code-small p)) ∙ ap is_protected (permission-code p)

    above : is_protected p ≡ true → ltb (code p) 6 ≡ false
    above e = le-ltb (code p) 6 (omega (arith, borrow.Author.Tests.ltb-true 5 (code p) (ends ∙ e)))

    go : (live : Bool) (r : Protected) → (live ≡ true → is_protected p ≡ is_yes r)
        → live && (if eqb (protector_number r) 0 then ltb 5 (code p) else ltb (code p) 6) ≡ false
    go false r h = refl
    go true No h = ends ∙ h refl
    go true Weak h = above (h refl)
    go true Strong h = above (h refl)

-- ---- words: of a number below 2^32 the byte is tested alone
word-bad : (w : ℕ) → w < 2 ^ 32 → bad_word w ≡ bad_byte w
unfolding bad_word
word-bad w h = rw (lt-leb (2 ^ 32) w h)

pub words_bad : (n : ℕ) (W : List ℕ) → ((i : ℕ) → Fits w32 (get_or W i 0)) → any bad_byte (take n W) ≡ any bad_word (take n W)
words_bad n W fits =
    any_same bad_byte 0 bad_word (take n W)
    (λ i h. sym (word-bad (get_or (take n W) i 0) (rw (get_or-take n W i 0 (omega (arith, length-take n W))) (fits i).fits)))
