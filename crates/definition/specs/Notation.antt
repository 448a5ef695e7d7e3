-- The few words in which the definition is written.
use Rattle.std.specs.Prelude.{ℕ, zero, suc, ◌+◌, Bool, true, false, ◌&&◌, List, [], ◌∷◌, leb, ltb, if◌then◌else◌}

-- ---- refusals: the numbers of document 01, and 0 for none
-- refusal n where the test holds, else none
infix 25 ◌when◌
abbrev pub ◌when◌ : ℕ → Bool → ℕ
n when true = n
n when false = 0

-- the first of two in checking order
infixr 20 ◌or◌
abbrev pub ◌or◌ : ℕ → ℕ → ℕ
zero or n = n
suc m or n = suc m

-- the first refusal that f gives along a list
unfoldable pub first_refusal : {A : Type 0} → (A → ℕ) → List A → ℕ
first_refusal f [] = 0
first_refusal f (x ∷ xs) = f x or first_refusal f xs

-- ---- lists
-- f n, f (n + 1), .., of the given length
unfoldable pub table_from : {A : Type 0} → ℕ → ℕ → (ℕ → A) → List A
table_from n zero f = []
table_from n (suc length) f = f n ∷ table_from (suc n) length f

-- f 0, f 1, .., f (n - 1)
abbrev pub table : {A : Type 0} → ℕ → (ℕ → A) → List A
table n f = table_from 0 n f

-- f of each element and its number, counted from n on
unfoldable pub map_from : {A B : Type 0} → ℕ → (ℕ → A → B) → List A → List B
map_from n f [] = []
map_from n f (x ∷ xs) = f n x ∷ map_from (suc n) f xs

-- element n replaced by f of it, if there is one
unfoldable pub mutate_at : {A : Type 0} → ℕ → (A → A) → List A → List A
mutate_at n f [] = []
mutate_at zero f (x ∷ xs) = f x ∷ xs
mutate_at (suc n) f (x ∷ xs) = x ∷ mutate_at n f xs

-- ys written over what stands in xs from place n on, as far as xs goes
unfoldable pub write_at : {A : Type 0} → ℕ → List A → List A → List A
write_at n ys [] = []
write_at zero [] (x ∷ xs) = x ∷ xs
write_at zero (y ∷ ys) (x ∷ xs) = y ∷ write_at zero ys xs
write_at (suc n) ys (x ∷ xs) = x ∷ write_at n ys xs

-- the elements that pass the test
unfoldable pub filter : {A : Type 0} → (A → Bool) → List A → List A
filter test [] = []
filter test (x ∷ xs) = let rest = filter test xs in if test x then x ∷ rest else rest

-- some element passes the test
unfoldable pub any : {A : Type 0} → (A → Bool) → List A → Bool
any test [] = false
any test (x ∷ xs) = if test x then true else any test xs

-- f of each element, added up
unfoldable pub sum_of : {A : Type 0} → (A → ℕ) → List A → ℕ
sum_of f [] = 0
sum_of f (x ∷ xs) = f x + sum_of f xs

-- ---- numbers
-- n is one of `length` numbers from `start` on
abbrev pub in_range : ℕ → ℕ → ℕ → Bool
in_range start length n = leb start n && ltb n (start + length)
