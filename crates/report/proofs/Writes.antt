-- Texts put one behind the other are one text: `Left` says what is left to put of a text, and each text put takes its part off the front.
use Prim.Native.Nat.{ℕ, zero, suc, ◌+◌, ◌-◌, ◌≤◌}
use mathlib.Core.List.{List, [], ◌∷◌, ◌++◌}
use mathlib.Core.Path.{◌≡◌, refl, sym, ap, subst, ◌∙◌}
use native.Mathlib.Nat.{add-zero}
use native.Mathlib.Omega.{arith}
use borrow.Rule.Slice.PartMut.{put_mid}
use lib.ListN.{take, drop, length, length-append}
use Rattle.definition.specs.Notation.{write_at}
use Rattle.definition.proofs.Writes.{write-none, write-more}
use Rattle.report.specs.declared.page.Page.{Page}
use Rattle.report.specs.Page.{HasRoom, Puts}
use Rattle.report.specs.Written.{Room, Written}

-- a text in place of so much
in_place : (n : ℕ) (ys xs : List ℕ) → n + length ys ≤ length xs → take n xs ++ (ys ++ drop (length ys) (drop n xs)) ≡ write_at n ys xs
unfolding write_at
in_place zero [] [] h = refl
in_place zero [] (x ∷ xs) h = refl
in_place zero (y ∷ ys) [] h = absurd (omega arith)
in_place zero (y ∷ ys) (x ∷ xs) h = ap (λ (l : List ℕ). y ∷ l) (in_place zero ys xs (omega arith))
in_place (suc n) ys [] h = absurd (omega arith)
in_place (suc n) ys (x ∷ xs) h = ap (λ (l : List ℕ). x ∷ l) (in_place n ys xs (omega arith))

pub bytes-written : (out text : List ℕ) (at : ℕ) → at + length text ≤ length out
    → put_mid at (at + length text - at) out text ≡ write_at at text out
bytes-written out text at h =
    let n : at + length text - at ≡ length text = omega arith in
    rw n (in_place at text out h)

pub written_as : {out : List ℕ} {at : ℕ} {text text' after : List ℕ} {end : ℕ} → text ≡ text' → Written out at text after end → Written out at text' after end
written_as {out} {at} {text} {text'} {after} {end} e w = subst (λ (t : List ℕ). Written out at t after end) e w

-- one text, and another behind it
pub both_written : {out : List ℕ} {at : ℕ} {s t : List ℕ} {mid : List ℕ} {p : ℕ} {after : List ℕ} {end : ℕ}
    → Written out at s mid p → Written mid p t after end → Written out at (s ++ t) after end
both_written {out} {at} {s} {t} {mid} {p} {after} {end} v w = record {
  contents =
      w.contents ∙ ap (λ (q : ℕ). write_at q t mid) v.place ∙ ap (λ (o : List ℕ). write_at (at + length s) t o) v.contents
      ∙ write-more at s t out;
  place = omega (arith, v.place, w.place, length-append s t);
}

pub puts_as : {p q : Page} {text text' : List ℕ} → text ≡ text' → Puts p text q → Puts p text' q
puts_as {p} {q} e w = subst (λ (t : List ℕ). Puts p t q) e w

pub byte_as : {p q : Page} {x y : ℕ} → x ≡ y → Puts p (x ∷ []) q → Puts p (y ∷ []) q
byte_as e w = puts_as (ap (λ (b : ℕ). b ∷ []) e) w

-- what is put is written
pub put-written : {p q : Page} {text : List ℕ} → Puts p text q → Written p.out.now p.at text q.out.now q.at
put-written w = record { contents = w.contents; place = w.place }

-- the same of a page
pub puts_both : {p q r : Page} {s t : List ℕ} → Puts p s q → Puts q t r → Puts p (s ++ t) r
puts_both v w =
    let both = both_written (put-written v) (put-written w) in
    record { contents = both.contents; place = both.place; kept = w.kept ∙ v.kept; same = w.same ∙ v.same }

pub room_as : {out : List ℕ} {at : ℕ} {text text' : List ℕ} → text ≡ text' → Room out at text → Room out at text'
room_as {out} {at} e r = subst (λ (t : List ℕ). Room out at t) e r

-- ---- of `whole`, which goes into the page as it was before, `rest` is left; it goes into the page p, where there is room for it
pub record Left (before : Page) (whole : List ℕ) (p : Page) (rest : List ℕ) : Type 0 where
  pub contents : write_at p.at rest p.out.now ≡ write_at before.at whole before.out.now
  pub place : p.at + length rest ≡ before.at + length whole
  pub kept : length p.out.now ≡ length before.out.now
  pub same : p.out.ghost_name ≡ before.out.ghost_name
  pub room : HasRoom p rest

pub all_left : {p : Page} {whole : List ℕ} → HasRoom p whole → Left p whole p whole
all_left r = record { contents = refl; place = refl; kept = refl; same = refl; room = r }

module _ {before : Page} {whole : List ℕ} {p : Page} where
  -- the same text, said in another way
  pub left_as : {rest rest' : List ℕ} → rest ≡ rest' → Left before whole p rest → Left before whole p rest'
  left_as e l = subst (λ (r : List ℕ). Left before whole p r) e l

  -- there is room for its front
  pub room_next : (text rest : List ℕ) → Left before whole p (text ++ rest) → HasRoom p text
  room_next text rest l = record { fits = omega (arith, l.room.fits, length-append text rest) }

  -- a text was put
  pub less-left : (text rest : List ℕ) {q : Page} → Left before whole p (text ++ rest) → Puts p text q → Left before whole q rest
  less-left text rest {q} l w = record {
    contents =
        ap (λ (n : ℕ). write_at n rest q.out.now) w.place ∙ ap (λ (o : List ℕ). write_at (p.at + length text) rest o) w.contents
        ∙ write-more p.at text rest p.out.now ∙ l.contents;
    place = omega (arith, w.place, l.place, length-append text rest);
    kept = w.kept ∙ l.kept;
    same = w.same ∙ l.same;
    room = record { fits = omega (arith, l.room.fits, w.place, w.kept, length-append text rest) };
  }

  -- nothing is left
  pub none_left : Left before whole p [] → Puts before whole p
  none_left l = record {
    contents = sym (write-none p.at p.out.now) ∙ l.contents;
    place = sym (add-zero p.at) ∙ l.place;
    kept = l.kept;
    same = l.same;
  }

  -- the last text
  pub last_put : {text : List ℕ} {q : Page} → Left before whole p text → Puts p text q → Puts before whole q
  last_put l w = record { contents = w.contents ∙ l.contents; place = w.place ∙ l.place; kept = w.kept ∙ l.kept; same = w.same ∙ l.same }
