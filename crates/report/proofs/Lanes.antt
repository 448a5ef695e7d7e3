-- What `&` and `|` leave of numbers side by side, and how a step apart makes room for their parts.
use Prim.Native.Nat.{ℕ, ◌+◌, ◌*◌, ◌/◌, ◌%◌, ◌^◌, ◌≤◌, ◌<◌}
use mathlib.Core.List.{[], ◌∷◌}
use mathlib.Core.Path.{◌≡◌, ap, ap₂, ◌∙◌}
use native.Mathlib.Decide.{dec_lt}
use native.Mathlib.Omega.{arith}
use lib.Bits.{bit_and, bit_or, and_block, and_mask, and_zero_r, or_block, or_lt, or_mod, or_zero_l, or_zero_r}
use Rattle.std.specs.Int.{w64, to_le_bytes}
use Rattle.definition.specs.Output.{digit, word, hexadecimal}
use Rattle.report.specs.Lanes.{four_lanes, eight_lanes, byte_lanes, digit_lanes}
use Rattle.report.proofs.Numbers.{digit_low, digit-high}

-- ---- `&` lane by lane
-- a last lane of k bits
and_last : (k x m a n r s : ℕ) → a < 2 ^ k → n < 2 ^ k → bit_and x m ≡ r → bit_and a n ≡ s → bit_and (x * 2 ^ k + a) (m * 2 ^ k + n) ≡ r * 2 ^ k + s
and_last k x m a n r s ha hn e f =
    and_block k x m a n ha hn
    ∙ ap (λ (y : ℕ). y * 2 ^ k + bit_and a n) e
    ∙ ap (λ (y : ℕ). r * 2 ^ k + y) f

-- the lower bytes of all lanes but the last
four-and : (a b c d : ℕ) → b < 2 ^ 16 → c < 2 ^ 16 → d < 2 ^ 16
    → bit_and (four_lanes a b c d) 0xff00ff00ff0000 ≡ four_lanes (a % 256) (b % 256) (c % 256) 0
four-and a b c d hb hc hd =
    and_last 16 _ 0xff00ff00ff d 0 _ _ hd (omega arith)
    (and_last 16 _ 0xff00ff c 255 _ _ hc (omega arith)
    (and_last 16 a 255 b 255 _ _ hb (omega arith) (and_mask a 8) (and_mask b 8))
    (and_mask c 8))
    (and_zero_r d)

-- the lowest bit of a last lane of 8 bits
step-8 : (x m a r : ℕ) → a < 2 ^ 8 → bit_and x m ≡ r → bit_and (x * 2 ^ 8 + a) (m * 2 ^ 8 + 1) ≡ r * 2 ^ 8 + a % 2
step-8 x m a r h e = and_last 8 x m a 1 r (a % 2) h (omega arith) e (and_mask a 1)

eight-and : (a b c d e f g h : ℕ) → b < 2 ^ 8 → c < 2 ^ 8 → d < 2 ^ 8 → e < 2 ^ 8 → f < 2 ^ 8 → g < 2 ^ 8 → h < 2 ^ 8
    → bit_and (eight_lanes a b c d e f g h) 0x101010101010101 ≡ eight_lanes (a % 2) (b % 2) (c % 2) (d % 2) (e % 2) (f % 2) (g % 2) (h % 2)
eight-and a b c d e f g h hb hc hd he hf hg hh =
    step-8 _ 0x1010101010101 h _ hh
    (step-8 _ 0x10101010101 g _ hg
    (step-8 _ 0x101010101 f _ hf
    (step-8 _ 0x1010101 e _ he
    (step-8 _ 0x10101 d _ hd
    (step-8 _ 0x101 c _ hc
    (step-8 a 1 b _ hb (and_mask a 1)))))))

-- ---- `|` and then `&`, lane by lane
-- a last lane of 8 bits
or-last : (x y m p q n r s : ℕ) → p < 2 ^ 8 → q < 2 ^ 8 → n < 2 ^ 8 → bit_and (bit_or x y) m ≡ r → bit_and (bit_or p q) n ≡ s
    → bit_and (bit_or (x * 2 ^ 8 + p) (y * 2 ^ 8 + q)) (m * 2 ^ 8 + n) ≡ r * 2 ^ 8 + s
or-last x y m p q n r s hp hq hn e f =
    ap (λ (z : ℕ). bit_and z (m * 2 ^ 8 + n)) (or_block 8 x y p q hp hq)
    ∙ and_last 8 (bit_or x y) m (bit_or p q) n r s (or_lt 8 p q hp hq) hn e f

-- the lower digit of a byte, where a higher digit is too; the higher one, alone
lower : (p u l : ℕ) → l < 16 → bit_and (bit_or (p * 16) (u * 16 + l)) 15 ≡ l
lower p u l h =
    let e : p * 16 % 16 ≡ 0 = omega arith in
    let f : (u * 16 + l) % 16 ≡ l = omega arith in
    and_mask (bit_or (p * 16) (u * 16 + l)) 4 ∙ or_mod (p * 16) (u * 16 + l) 4 ∙ ap₂ bit_or e f ∙ or_zero_l l

one-16 : (a : ℕ) → a < 16 → a % 16 ≡ a
one-16 a h = omega arith

higher : (u : ℕ) → u < 16 → bit_and (bit_or u 0) 15 ≡ u
higher u h = ap (λ (x : ℕ). bit_and x 15) (or_zero_r u) ∙ and_mask u 4 ∙ one-16 u h

-- both digits of a byte, behind those of others
pair : (x y m r p u l : ℕ) → p < 16 → u < 16 → l < 16 → bit_and (bit_or x y) m ≡ r
    → bit_and (bit_or ((x * 2 ^ 8 + p * 16) * 2 ^ 8 + u) ((y * 2 ^ 8 + (u * 16 + l)) * 2 ^ 8 + 0)) ((m * 2 ^ 8 + 15) * 2 ^ 8 + 15) ≡ (r * 2 ^ 8 + l) * 2 ^ 8 + u
pair x y m r p u l hp hu hl e =
    or-last _ _ (m * 2 ^ 8 + 15) u 0 15 _ u (omega arith) (omega arith) (omega arith)
    (or-last x y m (p * 16) (u * 16 + l) 15 r l (omega arith) (omega arith) (omega arith) e (lower p u l hl))
    (higher u hu)

-- the digits of four bytes, of the bytes four bits down and of the bytes eight bits up
picked : (a b c d e f g h : ℕ) → a < 16 → b < 16 → c < 16 → d < 16 → e < 16 → f < 16 → g < 16 → h < 16
    → bit_and (bit_or (eight_lanes 0 b (a * 16) d (c * 16) f (e * 16) h) (eight_lanes (b * 16 + a) 0 (d * 16 + c) 0 (f * 16 + e) 0 (h * 16 + g) 0)) 0xf0f0f0f0f0f0f0f
    ≡ eight_lanes a b c d e f g h
picked a b c d e f g h ha hb hc hd he hf hg hh =
    pair _ _ 0xf0f0f0f0f0f _ e h g he hh hg
    (pair _ _ 0xf0f0f0f _ c f e hc hf he
    (pair _ _ 0xf0f _ a d c ha hd hc
    (or-last 0 (b * 16 + a) 15 b 0 15 a b (omega arith) (omega arith) (omega arith) (lower 0 b a ha) (higher b hb))))

-- ---- each step of the code, of the parts as variables
-- three bytes, three times, 24 bits apart; what would stand from bit 64 on is lost
abbrev pub three_times : ℕ → ℕ
three_times low = low * 0x1000001 + low * 2 ^ 48 % 2 ^ 64

copies : (a b c : ℕ) → a < 256 → b < 256 → c < 256
    → three_times ((a * 256 + b) * 256 + c) ≡ four_lanes (b * 256 + c) (a * 256 + b) (c * 256 + a) (b * 256 + c)
copies a b c ha hb hc = omega arith

byte_low : (x y : ℕ) → y < 256 → (x * 256 + y) % 256 ≡ y
byte_low x y h = omega arith

-- each of them once
once : (a b c : ℕ) → a < 256 → b < 256 → c < 256 → bit_and (three_times ((a * 256 + b) * 256 + c)) 0xff00ff00ff0000 ≡ four_lanes c b a 0
once a b c ha hb hc =
    ap (λ (x : ℕ). bit_and x 0xff00ff00ff0000) (copies a b c ha hb hc)
    ∙ four-and (b * 256 + c) (a * 256 + b) (c * 256 + a) (b * 256 + c) (omega arith) (omega arith) (omega arith)
    ∙ cc (byte_low b c hc, byte_low a b hb, byte_low c a ha)

last-lane : (a b c d : ℕ) → four_lanes a b c 0 + d ≡ four_lanes a b c d
last-lane a b c d = omega arith

pub bytes-step : (a b c d : ℕ) → a < 256 → b < 256 → c < 256
    → bit_and (three_times ((a * 256 + b) * 256 + c)) 0xff00ff00ff0000 + d ≡ four_lanes c b a d
bytes-step a b c d ha hb hc = ap (λ (x : ℕ). x + d) (once a b c ha hb hc) ∙ last-lane c b a d

digits-down : (a b c d e f g h : ℕ) → g < 16
    → four_lanes (b * 16 + a) (d * 16 + c) (f * 16 + e) (h * 16 + g) / 16 ≡ eight_lanes 0 b (a * 16) d (c * 16) f (e * 16) h
digits-down a b c d e f g h l = omega arith

digits_up : (a b c d e f g h : ℕ) → a < 16 → b < 16 → c < 16 → d < 16 → e < 16 → f < 16 → g < 16 → h < 16
    → four_lanes (b * 16 + a) (d * 16 + c) (f * 16 + e) (h * 16 + g) * 2 ^ 8 % 2 ^ 64 ≡ eight_lanes (b * 16 + a) 0 (d * 16 + c) 0 (f * 16 + e) 0 (h * 16 + g) 0
digits_up a b c d e f g h ha hb hc hd he hf hg hh = omega arith

pub digits_step : (a b c d e f g h : ℕ) → a < 16 → b < 16 → c < 16 → d < 16 → e < 16 → f < 16 → g < 16 → h < 16
    → let bytes = four_lanes (b * 16 + a) (d * 16 + c) (f * 16 + e) (h * 16 + g) in
    bit_and (bit_or (bytes / 16) (bytes * 2 ^ 8 % 2 ^ 64)) 0xf0f0f0f0f0f0f0f ≡ eight_lanes a b c d e f g h
digits_step a b c d e f g h ha hb hc hd he hf hg hh =
    ap₂ (λ (x y : ℕ). bit_and (bit_or x y) 0xf0f0f0f0f0f0f0f) (digits-down a b c d e f g h hg) (digits_up a b c d e f g h ha hb hc hd he hf hg hh)
    ∙ picked a b c d e f g h ha hb hc hd he hf hg hh

-- what stands above the lane of a mask falls away
low-2 : (s b : ℕ) → b < 2 → (s * 16 + b) % 2 ≡ b
low-2 s b h = omega arith

one-2 : (a : ℕ) → a < 2 → a % 2 ≡ a
one-2 a h = omega arith

room-8 : (s b : ℕ) → s < 16 → b < 2 → s * 16 + b < 2 ^ 8
room-8 s b hs hb = omega arith

letters-down : (a b c d e f g h s t u v w x y z : ℕ) → z < 16
    → eight_lanes (a * 16 + s) (b * 16 + t) (c * 16 + u) (d * 16 + v) (e * 16 + w) (f * 16 + x) (g * 16 + y) (h * 16 + z) / 16
    ≡ eight_lanes a (s * 16 + b) (t * 16 + c) (u * 16 + d) (v * 16 + e) (w * 16 + f) (x * 16 + g) (y * 16 + h)
letters-down a b c d e f g h s t u v w x y z l = omega arith

-- the digits that are letters, of digits each 6 more than it was
letters : (a b c d e f g h s t u v w x y z : ℕ) → a < 2 → b < 2 → c < 2 → d < 2 → e < 2 → f < 2 → g < 2 → h < 2
    → s < 16 → t < 16 → u < 16 → v < 16 → w < 16 → x < 16 → y < 16 → z < 16
    → bit_and (eight_lanes (a * 16 + s) (b * 16 + t) (c * 16 + u) (d * 16 + v) (e * 16 + w) (f * 16 + x) (g * 16 + y) (h * 16 + z) / 16) 0x101010101010101
    ≡ eight_lanes a b c d e f g h
letters a b c d e f g h s t u v w x y z ha hb hc hd he hf hg hh hs ht hu hv hw hx hy hz =
    ap (λ (n : ℕ). bit_and n 0x101010101010101) (letters-down a b c d e f g h s t u v w x y z hz)
    ∙ eight-and a (s * 16 + b) (t * 16 + c) (u * 16 + d) (v * 16 + e) (w * 16 + f) (x * 16 + g) (y * 16 + h)
    (room-8 s b hs hb) (room-8 t c ht hc) (room-8 u d hu hd) (room-8 v e hv he) (room-8 w f hw hf) (room-8 x g hx hg) (room-8 y h hy hh)
    ∙ cc (one-2 a ha, low-2 s b hb, low-2 t c hc, low-2 u d hd, low-2 v e he, low-2 w f hf, low-2 x g hg, low-2 y h hh)

-- ---- a digit as the code makes it: from 10 on a digit and 6 are 16 and more
digit-is : (n : ℕ) → n < 16 → digit n ≡ n + 48 + (n + 6) / 16 * 39
digit-is n h =
    elim (dec_lt n 10) [
      | yes l ↦ let e = digit_low n l in omega (arith, e)
      | no l ↦ let e = digit-high n (omega arith) in omega (arith, e)
    ]

digit-small : (n : ℕ) → n < 16 → digit n < 256
digit-small n h = omega (arith, digit-is n h)

six : (n : ℕ) → (n + 6) / 16 * 16 + (n + 6) % 16 ≡ n + 6
six n = omega arith

sixes : (a b c d e f g h : ℕ)
    → eight_lanes a b c d e f g h + 0x606060606060606 ≡ eight_lanes (a + 6) (b + 6) (c + 6) (d + 6) (e + 6) (f + 6) (g + 6) (h + 6)
sixes a b c d e f g h = omega arith

carried : (n : ℕ) → n < 16 → (n + 6) / 16 < 2
carried n h = omega arith

rest : (n : ℕ) → (n + 6) % 16 < 16
rest n = omega arith

letters-of : (a b c d e f g h : ℕ) → a < 16 → b < 16 → c < 16 → d < 16 → e < 16 → f < 16 → g < 16 → h < 16
    → bit_and ((eight_lanes a b c d e f g h + 0x606060606060606) / 16) 0x101010101010101
    ≡ eight_lanes ((a + 6) / 16) ((b + 6) / 16) ((c + 6) / 16) ((d + 6) / 16) ((e + 6) / 16) ((f + 6) / 16) ((g + 6) / 16) ((h + 6) / 16)
letters-of a b c d e f g h ha hb hc hd he hf hg hh =
    let parts : eight_lanes (a + 6) (b + 6) (c + 6) (d + 6) (e + 6) (f + 6) (g + 6) (h + 6)
    ≡ eight_lanes ((a + 6) / 16 * 16 + (a + 6) % 16) ((b + 6) / 16 * 16 + (b + 6) % 16) ((c + 6) / 16 * 16 + (c + 6) % 16) ((d + 6) / 16 * 16 + (d + 6) % 16)
    ((e + 6) / 16 * 16 + (e + 6) % 16) ((f + 6) / 16 * 16 + (f + 6) % 16) ((g + 6) / 16 * 16 + (g + 6) % 16) ((h + 6) / 16 * 16 + (h + 6) % 16)
    = cc (six a, six b, six c, six d, six e, six f, six g, six h) in
    ap (λ (n : ℕ). bit_and (n / 16) 0x101010101010101) (sixes a b c d e f g h ∙ parts)
    ∙ letters ((a + 6) / 16) ((b + 6) / 16) ((c + 6) / 16) ((d + 6) / 16) ((e + 6) / 16) ((f + 6) / 16) ((g + 6) / 16) ((h + 6) / 16)
    ((a + 6) % 16) ((b + 6) % 16) ((c + 6) % 16) ((d + 6) % 16) ((e + 6) % 16) ((f + 6) % 16) ((g + 6) % 16) ((h + 6) % 16)
    (carried a ha) (carried b hb) (carried c hc) (carried d hd) (carried e he) (carried f hf) (carried g hg) (carried h hh)
    (rest a) (rest b) (rest c) (rest d) (rest e) (rest f) (rest g) (rest h)

written_out : (a b c d e f g h s t u v w x y z n : ℕ) → n ≡ eight_lanes s t u v w x y z
    → eight_lanes a b c d e f g h + 0x3030303030303030 + n * 39
    ≡ eight_lanes (a + 48 + s * 39) (b + 48 + t * 39) (c + 48 + u * 39) (d + 48 + v * 39) (e + 48 + w * 39) (f + 48 + x * 39) (g + 48 + y * 39) (h + 48 + z * 39)
written_out a b c d e f g h s t u v w x y z n e' = omega arith

-- ---- a word by its bytes and digits
pub low-bytes : (w : ℕ) → w % 16777216 ≡ (w / 65536 % 256 * 256 + w / 256 % 256) * 256 + w % 256
low-bytes w = omega arith

pub byte-digits : (w : ℕ) → w < 2 ^ 32
    → byte_lanes w
    ≡ four_lanes (w / 16 % 16 * 16 + w % 16) (w / 4096 % 16 * 16 + w / 256 % 16) (w / 1048576 % 16 * 16 + w / 65536 % 16) (w / 268435456 % 16 * 16 + w / 16777216 % 16)
byte-digits w h =
    let a : w / 16777216 ≡ w / 268435456 % 16 * 16 + w / 16777216 % 16 = omega arith in
    let b : w / 65536 % 256 ≡ w / 1048576 % 16 * 16 + w / 65536 % 16 = omega arith in
    let c : w / 256 % 256 ≡ w / 4096 % 16 * 16 + w / 256 % 16 = omega arith in
    let d : w % 256 ≡ w / 16 % 16 * 16 + w % 16 = omega arith in
    cc

most : (a b c d e f g h : ℕ) → a < 16 → b < 16 → c < 16 → d < 16 → e < 16 → f < 16 → g < 16 → h < 16 → eight_lanes a b c d e f g h ≤ 0xf0f0f0f0f0f0f0f
most a b c d e f g h ha hb hc hd he hf hg hh = omega arith

pub digits-most : (w : ℕ) → digit_lanes (λ d. d) w ≤ 0xf0f0f0f0f0f0f0f
digits-most w = most (w % 16) (w / 16 % 16) (w / 256 % 16) (w / 4096 % 16) (w / 65536 % 16) (w / 1048576 % 16) (w / 16777216 % 16) (w / 268435456 % 16) (omega arith) (omega arith) (omega arith) (omega arith) (omega arith) (omega arith) (omega arith) (omega arith)

pub characters-step : (a b c d e f g h : ℕ) → a < 16 → b < 16 → c < 16 → d < 16 → e < 16 → f < 16 → g < 16 → h < 16
    → eight_lanes a b c d e f g h + 0x3030303030303030 + bit_and ((eight_lanes a b c d e f g h + 0x606060606060606) / 16) 0x101010101010101 * 39
    ≡ eight_lanes (digit a) (digit b) (digit c) (digit d) (digit e) (digit f) (digit g) (digit h)
characters-step a b c d e f g h ha hb hc hd he hf hg hh =
    written_out a b c d e f g h ((a + 6) / 16) ((b + 6) / 16) ((c + 6) / 16) ((d + 6) / 16) ((e + 6) / 16) ((f + 6) / 16) ((g + 6) / 16) ((h + 6) / 16) _ (letters-of a b c d e f g h ha hb hc hd he hf hg hh)
    ∙ cc (digit-is a ha, digit-is b hb, digit-is c hc, digit-is d hd, digit-is e he, digit-is f hf, digit-is g hg, digit-is h hh)

-- ---- the bytes of numbers side by side are those numbers
eight-bytes : (a b c d e f g h : ℕ) → a < 256 → b < 256 → c < 256 → d < 256 → e < 256 → f < 256 → g < 256 → h < 256
    → to_le_bytes w64 (eight_lanes a b c d e f g h) ≡ h ∷ g ∷ f ∷ e ∷ d ∷ c ∷ b ∷ a ∷ []
eight-bytes a b c d e f g h ha hb hc hd he hf hg hh =
    let n : ℕ = eight_lanes a b c d e f g h in
    let a' : n / 72057594037927936 % 256 ≡ a = omega arith in
    let b' : n / 281474976710656 % 256 ≡ b = omega arith in
    let c' : n / 1099511627776 % 256 ≡ c = omega arith in
    let d' : n / 4294967296 % 256 ≡ d = omega arith in
    let e' : n / 16777216 % 256 ≡ e = omega arith in
    let f' : n / 65536 % 256 ≡ f = omega arith in
    let g' : n / 256 % 256 ≡ g = omega arith in
    let h' : n % 256 ≡ h = omega arith in
    cc

pub word_bytes : (w : ℕ) → to_le_bytes w64 (digit_lanes digit w) ≡ word w
unfolding hexadecimal
word_bytes w =
    let i : w % 16 ≡ w / 1 % 16 = omega arith in
    eight-bytes _ _ _ _ _ _ _ _ (digit-small _ (omega arith)) (digit-small _ (omega arith)) (digit-small _ (omega arith)) (digit-small _ (omega arith))
    (digit-small _ (omega arith)) (digit-small _ (omega arith)) (digit-small _ (omega arith)) (digit-small _ (omega arith))
    ∙ cc
