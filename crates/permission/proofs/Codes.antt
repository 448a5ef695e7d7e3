-- The functions of a code: at a permission's code they are the definition's; from 15 on nothing changes. And what an outcome tells.
use Prim.Native.Nat.{ℕ, ◌≤◌}
use mathlib.Core.Path.{◌≡◌, refl, sym, ap, subst}
use mathlib.Core.Bool.{Bool, true, false, not, ◌&&◌}
use mathlib.Core.Option.{Option, none, some}
use native.Mathlib.Decide.{dec_lt}
use native.Mathlib.Omega.{arith}
use borrow.Author.Tests.{lt-ltb, le-ltb, eq-eqb}
use lib.Dec.{T, eqb, eqb→eq}
use Rattle.definition.specs.Permission.{Permission, transition, refusal, next, refusal_by, next_by, is_protected, unprotected, end_access, prevents_deallocation, init_access, code, permission}
use Rattle.definition.specs.Permission.AccessKind.{Read, Write}
use Rattle.definition.specs.Permission.NodeRelation.{Local, Foreign}
use Rattle.definition.proofs.Permissions.{permission-code, code-small}
use Rattle.definition.proofs.Booleans.{T-left, T-right, every, in-range}
use Rattle.definition.specs.Permission as definition
use Rattle.std.specs.Prelude.{Some, None, Ok, Err, unwrap_or}
use Rattle.std.specs.Prelude as std
use Rattle.permission.specs.Codes.{Outcome, outcome_code, by_code, transition_code, refusal_code, next_code, is_protected_code, unprotected_code, end_access_code, prevents_code, init_access_code}

-- ---- Boolean equality of what the arms answer
abbrev pub same_outcome : Outcome → Outcome → Bool
same_outcome (Ok None) (Ok None) = true
same_outcome (Ok None) (Ok (Some y)) = false
same_outcome (Ok (Some x)) (Ok None) = false
same_outcome (Ok (Some x)) (Ok (Some y)) = eqb x y
same_outcome (Ok x) (Err y) = false
same_outcome (Err x) (Ok y) = false
same_outcome (Err x) (Err y) = eqb x y

pub same_outcome_lem : (x y : Outcome) → T (same_outcome x y) → x ≡ y
same_outcome_lem (Ok None) (Ok None) t = refl
same_outcome_lem (Ok None) (Ok (Some y)) t = absurd t
same_outcome_lem (Ok (Some x)) (Ok None) t = absurd t
same_outcome_lem (Ok (Some x)) (Ok (Some y)) t = ap (λ (c : ℕ). Ok (Some c)) (eqb→eq x y t)
same_outcome_lem (Ok x) (Err y) t = absurd t
same_outcome_lem (Err x) (Ok y) t = absurd t
same_outcome_lem (Err x) (Err y) t = ap Err (eqb→eq x y t)

abbrev pub same_bool : Bool → Bool → Bool
same_bool true true = true
same_bool true false = false
same_bool false true = false
same_bool false false = true

pub same_bool_lem : (x y : Bool) → T (same_bool x y) → x ≡ y
same_bool_lem true true t = refl
same_bool_lem true false t = absurd t
same_bool_lem false true t = absurd t
same_bool_lem false false t = refl

abbrev pub same_access : Option definition.AccessKind → Option definition.AccessKind → Bool
same_access none none = true
same_access none (some y) = false
same_access (some x) none = false
same_access (some Read) (some Read) = true
same_access (some Read) (some Write) = false
same_access (some Write) (some Read) = false
same_access (some Write) (some Write) = true

pub same-access : (x y : Option definition.AccessKind) → T (same_access x y) → x ≡ y
same-access none none t = refl
same-access none (some y) t = absurd t
same-access (some x) none t = absurd t
same-access (some Read) (some Read) t = refl
same-access (some Read) (some Write) t = absurd t
same-access (some Write) (some Read) t = absurd t
same-access (some Write) (some Write) t = refl

-- ---- at a permission's code, and from 15 on
module _ {A : Type 0} (f : Permission → A) (past : A) where
  pub at_code : (p : Permission) → by_code f past (code p) ≡ f p
  at_code p = rw (lt-ltb (code p) 15 (code-small p), permission-code p)

  pub at-past : (c : ℕ) → 15 ≤ c → past ≡ by_code f past c
  at-past c h = rw (le-ltb c 15 h)

pub refusal-code : (a : Option definition.AccessKind) (r : definition.NodeRelation) (p : Permission) → refusal_code a r (code p) ≡ refusal_by a r p
unfolding refusal_code
refusal-code a r p = at_code (refusal_by a r) 0 p

pub next-code : (a : Option definition.AccessKind) (r : definition.NodeRelation) (p : Permission) → next_code a r (code p) ≡ code (next_by a r p)
unfolding next_code
next-code a r p = at_code (λ q. code (next_by a r q)) (code p) p

pub is-protected-code : (p : Permission) → is_protected_code (code p) ≡ is_protected p
unfolding is_protected_code
is-protected-code p = at_code is_protected false p

pub unprotected-code : (p : Permission) → unprotected_code (code p) ≡ code (unprotected p)
unfolding unprotected_code
unprotected-code p = at_code (λ q. code (unprotected q)) (code p) p

pub end-access-code : (p : Permission) → end_access_code (code p) ≡ end_access p
unfolding end_access_code
end-access-code p = at_code end_access none p

pub prevents-code : (p : Permission) → prevents_code (code p) ≡ prevents_deallocation p
unfolding prevents_code
prevents-code p = at_code prevents_deallocation false p

pub init-access-code : (p : Permission) → init_access_code (code p) ≡ init_access p
unfolding init_access_code
init-access-code p = at_code init_access none p

pub transition-past : (a : definition.AccessKind) (r : definition.NodeRelation) (c : ℕ) → 15 ≤ c → Ok None ≡ transition_code a r c
unfolding transition_code
transition-past a r c h = at-past (λ p. outcome_code c (transition a r p)) (Ok None) c h

-- ---- what an outcome tells of the refusal and the next code: a test, computed
abbrev told_by : Outcome → ℕ → ℕ → ℕ → Bool
told_by (Ok None) refused next c = eqb refused 0 && eqb next c
told_by (Ok (Some d)) refused next c = eqb refused 0 && eqb next d
told_by (Err n) refused next c = eqb refused n && (eqb next c && not (eqb n 0))

module _ (a : definition.AccessKind) (r : definition.NodeRelation) where
  abbrev told : ℕ → Bool
  told c = told_by (transition_code a r c) (refusal_code (some a) r c) (next_code (some a) r c) c

all_told : (a : definition.AccessKind) (r : definition.NodeRelation) → T (every (told a r) 0 15)
unfolding transition_code refusal_code next_code refusal next
all_told Read Local = tt
all_told Read Foreign = tt
all_told Write Local = tt
all_told Write Foreign = tt

module _ (a : definition.AccessKind) (r : definition.NodeRelation) (c : ℕ) where
  tells : T (told a r c)
  unfolding transition_code refusal_code next_code
  tells = elim (dec_lt c 15) [
    | yes lt ↦ in-range (told a r) 0 15 (all_told a r) c (omega arith) (omega arith)
    | no ge ↦ rw (le-ltb c 15 (omega arith), eq-eqb c c refl) tt
  ]

  pub stays-told : transition_code a r c ≡ Ok None → (refusal_code (some a) r c ≡ 0) × (next_code (some a) r c ≡ c)
  stays-told e =
      let t = subst (λ (o : Outcome). T (told_by o (refusal_code (some a) r c) (next_code (some a) r c) c)) e tells in
      (eqb→eq _ 0 (T-left (eqb (refusal_code (some a) r c) 0) (eqb (next_code (some a) r c) c) t), eqb→eq _ c (T-right (eqb (refusal_code (some a) r c) 0) (eqb (next_code (some a) r c) c) t))

  pub becomes-told : (d : ℕ) → transition_code a r c ≡ Ok (Some d) → (refusal_code (some a) r c ≡ 0) × (next_code (some a) r c ≡ d)
  becomes-told d e =
      let t = subst (λ (o : Outcome). T (told_by o (refusal_code (some a) r c) (next_code (some a) r c) c)) e tells in
      (eqb→eq _ 0 (T-left (eqb (refusal_code (some a) r c) 0) (eqb (next_code (some a) r c) d) t), eqb→eq _ d (T-right (eqb (refusal_code (some a) r c) 0) (eqb (next_code (some a) r c) d) t))

  -- where it is not refused
  pub accepted-next : (next : std.Option ℕ) → Ok next ≡ transition_code a r c → unwrap_or next c ≡ next_code (some a) r c
  accepted-next None e = sym (stays-told (sym e)).1
  accepted-next (Some d) e = sym (becomes-told d (sym e)).1

  module _ (n : ℕ) (e : transition_code a r c ≡ Err n) where
    refused-tells : T (eqb (refusal_code (some a) r c) n && (eqb (next_code (some a) r c) c && not (eqb n 0)))
    refused-tells = subst (λ (o : Outcome). T (told_by o (refusal_code (some a) r c) (next_code (some a) r c) c)) e tells

    pub refused-told : refusal_code (some a) r c ≡ n
    refused-told = eqb→eq _ n (T-left (eqb (refusal_code (some a) r c) n) (eqb (next_code (some a) r c) c && not (eqb n 0)) refused-tells)

    rest-tells : T (eqb (next_code (some a) r c) c && not (eqb n 0))
    rest-tells = T-right (eqb (refusal_code (some a) r c) n) (eqb (next_code (some a) r c) c && not (eqb n 0)) refused-tells

    pub refused-next : next_code (some a) r c ≡ c
    refused-next = eqb→eq _ c (T-left (eqb (next_code (some a) r c) c) (not (eqb n 0)) rest-tells)

    pub refused-some : n ≡ 0 → ⊥
    refused-some z = subst (λ (k : ℕ). T (not (eqb k 0))) z (T-right (eqb (next_code (some a) r c) c) (not (eqb n 0)) rest-tells)
