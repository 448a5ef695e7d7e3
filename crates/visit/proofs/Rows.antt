-- Codes under accesses, byte by byte: what is left from a place on tells of the whole. Codes that all stay; and the visited bytes in a row.
use Prim.Native.Nat.{ℕ, zero, suc, ◌+◌, ◌≤◌, ◌<◌}
use mathlib.Core.Path.{◌≡◌, refl, sym, ap, ap₂, subst, ◌∙◌}
use mathlib.Core.Bool.{Bool, true, false, ◌&&◌, and-true, and_assoc}
use mathlib.Core.Option.{Option, none, some}
use mathlib.Core.List.{List, [], ◌∷◌, ◌++◌, map}
use native.Mathlib.Numerals.{add-one}
use native.Mathlib.Nat.{min-le_left}
use native.Mathlib.Omega.{arith}
use lib.ListN.{length, get_or, take, drop, replicate, get_or-replicate, length-replicate, length-map, length-take, length-drop, take-append-drop, get_or-map, drop_of_length-le}
use lib.Seq.{get_or-take, drop-cons, length-take-le, take-take}
use Rattle.std.specs.Prelude.{Some, None, Result, Ok, Err, is_some}
use Rattle.std.specs.Prelude as std
use Rattle.std.specs.List.{fold, list_all}
use Rattle.definition.specs.Notation.{◌or◌}
use Rattle.refusal.specs.Number.{number}
use Rattle.refusal.specs.declared.Refusal.{Refusal}
use Rattle.refusal.proofs.Numbers.{number_positive}
use Rattle.definition.specs.Permission.{AccessKind, NodeRelation}
use Rattle.definition.specs.Permission.AccessKind.{Read, Write}
use Rattle.definition.specs.Permission.Permission.{Unprot}
use Rattle.definition.specs.Permission.PermissionUnprot.{Cell}
use Rattle.permission.proofs.Codes.{init-access-code, stays-told, becomes-told, refused-told, refused-next, refused-some}
use Rattle.permission.specs.Codes.{Outcome, access_kind, transition_code, refusal_code, next_code, init_access_code}
use Rattle.permission.specs.declared.AccessKind as declared
use Rattle.visit.specs.declared.Accesses.{Accesses}
use Rattle.visit.specs.declared.Effect.{Effect}
use Rattle.visit.specs.declared.Effect.TheVariants.{Stays, Changes}
use Rattle.visit.specs.declared.Accesses.TheVariants as accesses
use Rattle.visit.specs.declared.Accesses.TheVariants.{Each, AtInit}
use Rattle.visit.specs.declared.Reach.{Reach}
use Rattle.visit.specs.Walk.{Answer, Told, ToldBytes, ToldRow, told_access, access_at, accesses_at, codes_refusal, codes_after, codes_stay, bytes_stay, short_stays, outcome_at, is_stays}
use Rattle.visit.proofs.Steps.{no-refusal, no_change}

abbrev is_true : Bool → Type 0
is_true true = Unit {0}
is_true false = ⊥

abbrev is_none : Option AccessKind → Type 0
is_none none = Unit {0}
is_none (some a) = ⊥

pub true-not-false : true ≡ false → ⊥
true-not-false e = subst is_true e tt

abbrev is_effect_stays : Effect → Type 0
is_effect_stays Stays = Unit {0}
is_effect_stays Changes = ⊥

pub changes-not-stays : Changes ≡ Stays → ⊥
changes-not-stays e = subst is_effect_stays (sym e) tt

pub or-positive : (n y : ℕ) → 0 < n → (n or y) ≡ n
or-positive zero y h = absurd (omega arith)
or-positive (suc n) y h = refl

-- ---- one code
is-stays : (o : Outcome) → is_stays o ≡ true → o ≡ Ok None
is-stays (Ok None) e = refl
is-stays (Ok (Some d)) e = absurd (true-not-false (sym e))
is-stays (Err n) e = absurd (true-not-false (sym e))

pub at-stays : (x : Option AccessKind) (r : NodeRelation) (c : ℕ) → outcome_at x r c ≡ Ok None → (refusal_code x r c ≡ 0) × (next_code x r c ≡ c)
at-stays none r c e = (no-refusal r c, no_change r c)
at-stays (some a) r c e = stays-told a r c e

pub at-becomes : (x : Option AccessKind) (r : NodeRelation) (c d : ℕ) → outcome_at x r c ≡ Ok (Some d) → (refusal_code x r c ≡ 0) × (next_code x r c ≡ d)
at-becomes none r c d e = absurd (true-not-false (ap is_stays e))
at-becomes (some a) r c d e = becomes-told a r c d e

pub at-refused : (x : Option AccessKind) (r : NodeRelation) (c n : ℕ) → outcome_at x r c ≡ Err n → (refusal_code x r c ≡ n) × (next_code x r c ≡ c) × (n ≡ 0 → ⊥)
at-refused none r c n e = absurd (true-not-false (ap is_stays e))
at-refused (some a) r c n e = (refused-told a r c n e, refused-next a r c n e, refused-some a r c n e)

-- ---- the access that a number tells
pub told_none : (n : ℕ) → n ≡ 0 → told_access n ≡ none
unfolding told_access
told_none n e = ap told_access e

pub told-read : (n : ℕ) → n ≡ 1 → told_access n ≡ some Read
unfolding told_access
told-read n e = ap told_access e

pub told-write : (n : ℕ) → (n ≡ 0 → ⊥) → (n ≡ 1 → ⊥) → told_access n ≡ some Write
unfolding told_access
told-write zero z o = absurd (z refl)
told-write (suc zero) z o = absurd (o refl)
told-write (suc (suc k)) z o = refl

-- ---- the accesses of a visit
pub planned-at : (what : Accesses) (n : ℕ) (lent : List ℕ) (k : ℕ) → k < n → get_or (accesses_at what n lent) k none ≡ access_at what lent k
unfolding told_access init_access_code
planned-at (Each a) n lent k l = get_or-replicate n k (some (access_kind a)) none l
planned-at accesses.Told n lent k l = get_or-map told_access (take n lent) k 0 ∙ ap told_access (get_or-take n lent k 0 l)
planned-at AtInit n lent k l = get_or-map init_access_code (take n lent) k 0 ∙ ap init_access_code (get_or-take n lent k 0 l)

pub planned-outcome : (what : Accesses) (n : ℕ) (lent : List ℕ) (r : NodeRelation) (k c : ℕ) → k < n → (x : Option AccessKind) (o : Outcome) → x ≡ access_at what lent k → o ≡ outcome_at x r c
    → o ≡ outcome_at (get_or (accesses_at what n lent) k none) r c
planned-outcome what n lent r k c l x o found e = e ∙ ap (λ (y : Option AccessKind). outcome_at y r c) (found ∙ sym (planned-at what n lent k l))

pub planned-length : (what : Accesses) (n : ℕ) (lent : List ℕ) → length (accesses_at what n lent) ≤ n
planned-length (Each a) n lent = omega (arith, length-replicate n (some (access_kind a)))
planned-length accesses.Told n lent = omega (arith, length-map (take n lent) told_access, length-take n lent, min-le_left n (length lent))
planned-length AtInit n lent = omega (arith, length-map (take n lent) init_access_code, length-take n lent, min-le_left n (length lent))

-- numbers behind the last byte tell nothing
pub accesses-cut : (what : Accesses) (n : ℕ) (lent : List ℕ) → accesses_at what n (take n lent) ≡ accesses_at what n lent
accesses-cut (Each a) n lent = refl
accesses-cut accesses.Told n lent = ap (map told_access) (take-take n n lent (omega arith))
accesses-cut AtInit n lent = ap (map init_access_code) (take-take n n lent (omega arith))

-- one access at all bytes: where there is no number there is none, so there is one for each byte
same-each : (f : ℕ → Option AccessKind) → f 0 ≡ none → (a : AccessKind) (n : ℕ) (lent : List ℕ) → ((i : ℕ) → i < n → f (get_or lent i 0) ≡ some a)
    → replicate n (some a) ≡ map f (take n lent)
same-each f z a zero lent h = refl
same-each f z a (suc n) [] h = absurd (subst is_none (sym z ∙ h 0 (omega arith)) tt)
same-each f z a (suc n) (c ∷ lent) h =
    ap₂ (λ (x : Option AccessKind) (xs : List (Option AccessKind)). x ∷ xs) (sym (h 0 (omega arith))) (same-each f z a n lent (λ i l. h (suc i) (omega arith)))

pub all_alike : (what : Accesses) (n : ℕ) (lent : List ℕ) (kind : declared.AccessKind) → access_at what lent 0 ≡ some (access_kind kind)
    → ((i : ℕ) → i < n → get_or lent i 0 ≡ get_or lent 0 0) → accesses_at (Each kind) n lent ≡ accesses_at what n lent
all_alike (Each a) n lent kind e h = ap (replicate n) (sym e)
all_alike accesses.Told n lent kind e h = same-each told_access (told_none 0 refl) (access_kind kind) n lent (λ i l. ap told_access (h i l) ∙ e)
all_alike AtInit n lent kind e h = same-each init_access_code (init-access-code (Unprot Cell)) (access_kind kind) n lent (λ i l. ap init_access_code (h i l) ∙ e)

-- ---- codes under accesses
module _ (r : NodeRelation) where
  pub nothing-refused : (cs : List ℕ) → codes_refusal r [] cs ≡ 0
  unfolding codes_refusal
  nothing-refused [] = refl
  nothing-refused (c ∷ cs) = refl

  pub nothing-changed : (cs : List ℕ) → codes_after r [] cs ≡ cs
  unfolding codes_after
  nothing-changed [] = refl
  nothing-changed (c ∷ cs) = refl

  pub codes-length : (xs : List (Option AccessKind)) (cs : List ℕ) → length (codes_after r xs cs) ≡ length cs
  unfolding codes_after
  codes-length xs [] = refl
  codes-length [] (c ∷ cs) = refl
  codes-length (x ∷ xs) (c ∷ cs) = ap suc (codes-length xs cs)

  -- the first code, under the k-th access
  refusal-first : (xs : List (Option AccessKind)) (k c : ℕ) (cs : List ℕ)
      → codes_refusal r (drop k xs) (c ∷ cs) ≡ (refusal_code (get_or xs k none) r c or codes_refusal r (drop (suc k) xs) cs)
  unfolding codes_refusal
  refusal-first [] zero c cs = sym (rw (no-refusal r c) (nothing-refused cs))
  refusal-first [] (suc k) c cs = sym (rw (no-refusal r c) (nothing-refused cs))
  refusal-first (x ∷ xs) zero c cs = refl
  refusal-first (x ∷ xs) (suc k) c cs = refusal-first xs k c cs

  after_first : (xs : List (Option AccessKind)) (k c : ℕ) (cs : List ℕ)
      → codes_after r (drop k xs) (c ∷ cs) ≡ next_code (get_or xs k none) r c ∷ codes_after r (drop (suc k) xs) cs
  unfolding codes_after
  after_first [] zero c cs = sym (ap₂ (λ (d : ℕ) (ds : List ℕ). d ∷ ds) (no_change r c) (nothing-changed cs))
  after_first [] (suc k) c cs = sym (ap₂ (λ (d : ℕ) (ds : List ℕ). d ∷ ds) (no_change r c) (nothing-changed cs))
  after_first (x ∷ xs) zero c cs = refl
  after_first (x ∷ xs) (suc k) c cs = after_first xs k c cs

  -- the k-th code, as the accesses leave it
  pub after-at : (xs : List (Option AccessKind)) (cs : List ℕ) (k : ℕ) → k < length cs → get_or (codes_after r xs cs) k 0 ≡ next_code (get_or xs k none) r (get_or cs k 0)
  unfolding codes_after
  after-at xs [] k l = absurd (omega arith)
  after-at [] (c ∷ cs) zero l = sym (no_change r c)
  after-at [] (c ∷ cs) (suc k) l = sym (no_change r (get_or cs k 0))
  after-at (x ∷ xs) (c ∷ cs) zero l = refl
  after-at (x ∷ xs) (c ∷ cs) (suc k) l = after-at xs cs k (omega arith)

  -- accesses of at most n codes
  pub refusal-short : (xs : List (Option AccessKind)) (cs : List ℕ) (n : ℕ) → length xs ≤ n → codes_refusal r xs (take n cs) ≡ codes_refusal r xs cs
  unfolding codes_refusal
  refusal-short xs [] zero l = refl
  refusal-short xs [] (suc n) l = refl
  refusal-short [] (c ∷ cs) zero l = refl
  refusal-short [] (c ∷ cs) (suc n) l = refl
  refusal-short (x ∷ xs) (c ∷ cs) zero l = absurd (omega arith)
  refusal-short (x ∷ xs) (c ∷ cs) (suc n) l = ap (λ (m : ℕ). refusal_code x r c or m) (refusal-short xs cs n (omega arith))

  pub after-short : (xs : List (Option AccessKind)) (cs : List ℕ) (n : ℕ) → length xs ≤ n → codes_after r xs cs ≡ codes_after r xs (take n cs) ++ drop n cs
  unfolding codes_after
  after-short xs [] zero l = refl
  after-short xs [] (suc n) l = refl
  after-short [] (c ∷ cs) zero l = refl
  after-short [] (c ∷ cs) (suc n) l = ap (λ (ds : List ℕ). c ∷ ds) (sym (take-append-drop n cs))
  after-short (x ∷ xs) (c ∷ cs) zero l = absurd (omega arith)
  after-short (x ∷ xs) (c ∷ cs) (suc n) l = ap (λ (ds : List ℕ). next_code x r c ∷ ds) (after-short xs cs n (omega arith))

  -- ---- a check, byte by byte
  module _ (xs : List (Option AccessKind)) (cs : List ℕ) where
    -- it is at the k-th
    abbrev pub BytesAt : ℕ → Effect → Type 0
    BytesAt k effect =
        (codes_refusal r (drop k xs) (drop k cs) ≡ codes_refusal r xs cs) × (effect ≡ Stays → codes_after r (drop k xs) (drop k cs) ≡ drop k cs → codes_after r xs cs ≡ cs)

    abbrev pub Bytes : Answer → Type 0
    Bytes = Told (codes_refusal r xs cs) cs (codes_after r xs cs)

    pub bytes-done : (k : ℕ) (effect : Effect) → length cs ≤ k → BytesAt k effect → Bytes (Ok effect)
    unfolding codes_refusal codes_after
    bytes-done k Changes l told = sym told.0 ∙ ap (codes_refusal r (drop k xs)) (drop_of_length-le cs l)
    bytes-done k Stays l told = (
      sym told.0 ∙ ap (codes_refusal r (drop k xs)) (drop_of_length-le cs l),
      sym (told.1 refl (ap (codes_after r (drop k xs)) (drop_of_length-le cs l) ∙ sym (drop_of_length-le cs {i = k} l))),
    )

    module _ (k : ℕ) (l : k < length cs) (o : Outcome) (t : o ≡ outcome_at (get_or xs k none) r (get_or cs k 0)) where
      abbrev x : Option AccessKind
      x = get_or xs k none

      abbrev c : ℕ
      c = get_or cs k 0

      -- the code and those behind it
      here : drop k cs ≡ c ∷ drop (k + 1) cs
      here = rw (add-one k) (drop-cons cs k 0 l)

      refusal-here : codes_refusal r (drop k xs) (drop k cs) ≡ (refusal_code x r c or codes_refusal r (drop (k + 1) xs) (drop (k + 1) cs))
      refusal-here = ap (codes_refusal r (drop k xs)) here ∙ rw (add-one k) (refusal-first xs k c (drop (suc k) cs))

      after-here : codes_after r (drop k xs) (drop k cs) ≡ next_code x r c ∷ codes_after r (drop (k + 1) xs) (drop (k + 1) cs)
      after-here = ap (codes_after r (drop k xs)) here ∙ rw (add-one k) (after_first xs k c (drop (suc k) cs))

      module _ (effect : Effect) (told : BytesAt k effect) where
        passed : refusal_code x r c ≡ 0 → codes_refusal r (drop (k + 1) xs) (drop (k + 1) cs) ≡ codes_refusal r xs cs
        passed z = sym (refusal-here ∙ ap (λ (n : ℕ). n or codes_refusal r (drop (k + 1) xs) (drop (k + 1) cs)) z) ∙ told.0

        pub byte-stays : (next : std.Option ℕ) (effect' : Effect) → o ≡ Ok next → is_some next ≡ false → effect' ≡ effect → BytesAt (k + 1) effect'
        byte-stays (Some d) effect' e h q = absurd (true-not-false h)
        byte-stays None effect' e h q =
            let s = at-stays x r c (sym t ∙ e) in
            (passed s.0, λ z h. told.1 (sym q ∙ z) (after-here ∙ ap₂ (λ (d : ℕ) (ds : List ℕ). d ∷ ds) s.1 h ∙ sym here))

        pub byte-becomes : (next : std.Option ℕ) (effect' : Effect) → o ≡ Ok next → is_some next ≡ true → effect' ≡ Changes → BytesAt (k + 1) effect'
        byte-becomes None effect' e h q = absurd (true-not-false (sym h))
        byte-becomes (Some d) effect' e h q = (passed (at-becomes x r c d (sym t ∙ e)).0, λ z h. absurd (changes-not-stays (sym q ∙ z)))

        pub byte-refused : (refusal : Refusal) → o ≡ Err (number refusal) → Bytes (Err refusal)
        byte-refused refusal e =
            let f = at-refused x r c (number refusal) (sym t ∙ e) in
            sym (refusal-here ∙ ap (λ (m : ℕ). m or codes_refusal r (drop (k + 1) xs) (drop (k + 1) cs)) f.0 ∙ or-positive (number refusal) _ (number_positive refusal)) ∙ told.0

-- ---- whether every code stays
both_so : (a b : Bool) → (a && b) ≡ true → (a ≡ true) × (b ≡ true)
both_so true b e = (refl, e)
both_so false b e = absurd (true-not-false (sym e))

module _ (r : NodeRelation) where
  nothing-moves : (cs : List ℕ) → codes_stay r [] cs ≡ true
  unfolding codes_stay
  nothing-moves [] = refl
  nothing-moves (c ∷ cs) = refl

  -- the first code, under the k-th access
  stay-first : (xs : List (Option AccessKind)) (k c : ℕ) (cs : List ℕ)
      → codes_stay r (drop k xs) (c ∷ cs) ≡ (is_stays (outcome_at (get_or xs k none) r c) && codes_stay r (drop (suc k) xs) cs)
  unfolding codes_stay
  stay-first [] zero c cs = sym (nothing-moves cs)
  stay-first [] (suc k) c cs = sym (nothing-moves cs)
  stay-first (x ∷ xs) zero c cs = refl
  stay-first (x ∷ xs) (suc k) c cs = stay-first xs k c cs

  -- then nothing is refused, and nothing changes
  pub stay-told : (xs : List (Option AccessKind)) (cs : List ℕ) → codes_stay r xs cs ≡ true → Bytes r xs cs (Ok Stays)
  unfolding codes_stay codes_refusal codes_after
  stay-told xs [] e = (refl, refl)
  stay-told [] (c ∷ cs) e = (refl, refl)
  stay-told (x ∷ xs) (c ∷ cs) e =
      let both = both_so (is_stays (outcome_at x r c)) (codes_stay r xs cs) e in
      let s = at-stays x r c (is-stays (outcome_at x r c) both.0) in
      let rest = stay-told xs cs both.1 in
      (ap₂ ◌or◌ s.0 rest.0, ap₂ (λ (d : ℕ) (ds : List ℕ). d ∷ ds) (sym s.1) rest.1)

  module _ (xs : List (Option AccessKind)) (cs : List ℕ) where
    -- at the k-th code: all before it stay, or not
    abbrev pub StayAt : ℕ → Bool → Type 0
    StayAt k all = codes_stay r xs cs ≡ (all && codes_stay r (drop k xs) (drop k cs))

    pub stay-done : (k : ℕ) (all : Bool) → length cs ≤ k → StayAt k all → codes_stay r xs cs ≡ all
    unfolding codes_stay
    stay-done k all l e = e ∙ ap (λ (ds : List ℕ). all && codes_stay r (drop k xs) ds) (drop_of_length-le cs l) ∙ and-true all

    -- b tells whether the k-th stays
    pub stay-turn : (k : ℕ) → k < length cs → (all b : Bool) (o : Outcome) → o ≡ outcome_at (get_or xs k none) r (get_or cs k 0) → b ≡ is_stays o
        → StayAt k all → StayAt (k + 1) (all && b)
    stay-turn k l all b o t q e =
        let c = get_or cs k 0 in
        let here : drop k cs ≡ c ∷ drop (k + 1) cs = rw (add-one k) (drop-cons cs k 0 l) in
        let rest = codes_stay r (drop (k + 1) xs) (drop (k + 1) cs) in
        let first : codes_stay r (drop k xs) (drop k cs) ≡ (is_stays (outcome_at (get_or xs k none) r c) && rest) =
        ap (codes_stay r (drop k xs)) here ∙ rw (add-one k) (stay-first xs k c (drop (suc k) cs)) in
        e ∙ ap (λ (x : Bool). all && x) (first ∙ ap (λ (x : Bool). x && rest) (sym (q ∙ ap is_stays t))) ∙ sym (and_assoc all b rest)

pub short-stay : (what : Accesses) (lent : List ℕ) (r : NodeRelation) (cs : List ℕ) → short_stays what r cs ≡ true → bytes_stay what lent r cs ≡ true
short-stay (Each a) lent r cs e = e
short-stay accesses.Told lent r cs e = absurd (true-not-false (sym e))
short-stay AtInit lent r cs e = absurd (true-not-false (sym e))

-- under one access
module _ (a : declared.AccessKind) (r : NodeRelation) where
  abbrev left : ℕ → ℕ
  left c = next_code (some (access_kind a)) r c

  pub each_after : (cs : List ℕ) → map left cs ≡ codes_after r (accesses_at (Each a) (length cs) []) cs
  unfolding codes_after
  each_after [] = refl
  each_after (c ∷ cs) = ap (λ (ds : List ℕ). left c ∷ ds) (each_after cs)

  pub each-outcome : (cs : List ℕ) (k : ℕ) → k < length cs
      → transition_code (access_kind a) r (get_or cs k 0) ≡ outcome_at (get_or (accesses_at (Each a) (length cs) []) k none) r (get_or cs k 0)
  each-outcome cs k l = sym (ap (λ (x : Option AccessKind). outcome_at x r (get_or cs k 0)) (planned-at (Each a) (length cs) [] k l))

  abbrev stays : ℕ → Bool
  stays c = is_stays (transition_code (access_kind a) r c)

  pub each_stay : (cs : List ℕ) → list_all stays cs ≡ bytes_stay (Each a) [] r cs
  unfolding codes_stay
  each_stay [] = refl
  each_stay (c ∷ cs) = ap (λ (b : Bool). stays c && b) (each_stay cs)

  fold-stays : (all : Bool) (cs : List ℕ) → fold (λ all c. all && stays c) all cs ≡ (all && bytes_stay (Each a) [] r cs)
  unfolding codes_stay
  fold-stays all [] = sym (and-true all)
  fold-stays all (c ∷ cs) = fold-stays (all && stays c) cs ∙ and_assoc all (stays c) _

  pub each_folded : (cs : List ℕ) → fold (λ all c. all && stays c) true cs ≡ bytes_stay (Each a) [] r cs
  each_folded cs = fold-stays true cs

-- ---- the visited bytes are a part of the row
module _ (v : Reach) (lent : List ℕ) (r : NodeRelation) (row : List ℕ) (inside : v.from + v.len ≤ length row) where
  abbrev bytes : List ℕ
  bytes = drop v.from row

  abbrev pub visited : List ℕ
  visited = take v.len bytes

  abbrev xs : List (Option AccessKind)
  xs = accesses_at v.what v.len lent

  long : length visited ≡ v.len
  long = length-take-le v.len bytes (omega (arith, length-drop v.from row))

  lent_same : accesses_at v.what (length visited) lent ≡ xs
  lent_same = ap (λ (n : ℕ). accesses_at v.what n lent) long

  visited-refusal : codes_refusal r (accesses_at v.what (length visited) lent) visited ≡ codes_refusal r xs bytes
  visited-refusal = ap (λ (ys : List (Option AccessKind)). codes_refusal r ys visited) lent_same ∙ refusal-short r xs bytes v.len (planned-length v.what v.len lent)

  pub visited-after : codes_after r xs bytes ≡ codes_after r (accesses_at v.what (length visited) lent) visited ++ drop v.len bytes
  visited-after =
      after-short r xs bytes v.len (planned-length v.what v.len lent)
      ∙ ap (λ (ys : List (Option AccessKind)). codes_after r ys visited ++ drop v.len bytes) (sym lent_same)

  pub told-row : (given : Answer) → ToldBytes v.what lent r visited given → ToldRow v lent r row given
  told-row (Ok Stays) t = (
    sym visited-refusal ∙ t.0,
    sym
        (ap (λ (ds : List ℕ). take v.from row ++ ds) (visited-after ∙ ap (λ (ds : List ℕ). ds ++ drop v.len bytes) (sym t.1) ∙ take-append-drop v.len bytes)
        ∙ take-append-drop v.from row),
  )
  told-row (Ok Changes) t = sym visited-refusal ∙ t
  told-row (Err refusal) t = t ∙ visited-refusal
