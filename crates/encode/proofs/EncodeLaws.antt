-- Laws of storing digits from the last to the first, of the least widths, and of a loop over references.
use mathlib.Core.Path.{◌≡◌, refl, ap, ◌∙◌}
use mathlib.Core.Bool.{Bool, true, false, cond}
use mathlib.Core.List.{List, [], ◌∷◌, ◌++◌}
use Prim.Native.Nat.{ℕ, suc, ◌+◌, ◌-◌, ◌/◌, ◌%◌, ◌^◌, ◌≤◌, ◌<◌}
use native.Mathlib.Nat.{add-zero}
use native.Mathlib.Omega.{arith}
use native.Mathlib.Decide.{dec_le, dec_lt}
use mir.Val.{bool_byte}
use lib.Dec.{leb, ltb}
use lib.ListN.{length, drop, get_or, set}
use lib.Seq.{sets, set_comm, drop-cons}
use native.Mathlib.Numerals.{add-one}
use lib.IntN.{pos, negsuc}
use borrow.Author.Tests.{le-leb, lt-leb, le-ltb, lt-ltb}
use Rattle.decode.specs.Values.{cond_elim}
use Rattle.encode.specs.Encode.{be, gap, width_code, fits, refs_code, max, encode_ref_list, twos_complement}
use Rattle.encode.specs.NumberRoundTrip.{length_be}
use Rattle.encode.proofs.Widths.{code_count}

-- The last number of a list may be stored first.
pub sets_snoc : (vs l : List ℕ) (i x : ℕ) → sets l i (vs ++ (x ∷ [])) ≡ sets (set l (i + length vs) x) i vs
sets_snoc [] l i x = rw add-zero
sets_snoc (a ∷ vs) l i x =
    let e : i + suc (length vs) ≡ suc i + length vs = omega arith in
    let d : i ≡ suc i + length vs → ⊥ = λ h. omega arith in
    rw e (sets_snoc vs (set l i a) (suc i) x ∙ ap (λ (m : List ℕ). sets m (suc i) vs) (set_comm l i (suc i + length vs) a x d))

-- Storing the last k digits of a number in base b, with `glyph` as the character of a digit, is storing the last one first and
-- then the k - 1 digits of the number's quotient by b.
pub digit_step : (digits : ℕ → ℕ → List ℕ) (b : ℕ) (glyph : ℕ → ℕ)
    → ((k n : ℕ) → length (digits k n) ≡ k)
    → ((k n : ℕ) → digits (suc k) n ≡ digits k (n / b) ++ (glyph (n % b) ∷ []))
    → (out : List ℕ) (at k n : ℕ) → 0 < k
    → sets out at (digits k n) ≡ sets (set out (at + (k - 1)) (glyph (n % b))) at (digits (k - 1) (n / b))
digit_step digits b glyph long last out at k n h =
    let e : k ≡ suc (k - 1) = omega arith in
    ap (λ (j : ℕ). sets out at (digits j n)) e
    ∙ ap (sets out at) (last (k - 1) n)
    ∙ sets_snoc (digits (k - 1) (n / b)) out at (glyph (n % b))
    ∙ ap (λ (j : ℕ). sets (set out (at + j) (glyph (n % b))) at (digits (k - 1) (n / b))) (long (k - 1) (n / b))

-- The same for the lowest k bytes of a number, its digits in base 256.
pub be_step : (out : List ℕ) (at k v : ℕ) → 0 < k → sets out at (be k v) ≡ sets (set out (at + (k - 1)) (v % 256)) at (be (k - 1) (v / 256))
unfolding be
be_step = digit_step be 256 (λ d. d) length_be (λ k n. refl)

-- ---- the least width code

-- The width codes of d and -1 - d are the same.
code_sign : (up : Bool) (d : ℕ) → width_code (cond up (pos d) (negsuc d)) ≡ width_code (pos d)
unfolding width_code fits
code_sign true d = refl
code_sign false d = refl

-- The width code of a gap is that of its distance.
pub code_gap : (from to d : ℕ) → gap from to ≡ cond (leb from to) (pos d) (negsuc d) → width_code (gap from to) ≡ width_code (pos d)
code_gap from to d e = ap width_code e ∙ code_sign (leb from to) d

bool_byte_cond : (b : Bool) → bool_byte b ≡ cond b 1 0
bool_byte_cond true = refl
bool_byte_cond false = refl

-- A number fits n bytes exactly if it is below half of 256 ^ n.
pub half_le_fits : (n half m : ℕ) → half + half ≡ 256 ^ n → cond {A = ℕ} (leb half m) 1 0 ≡ cond (fits n (pos m)) 0 1
unfolding fits
half_le_fits n half m e = elim (dec_le half m) [
  | yes l ↦ rw (le-leb half m l, le-ltb (m + m) (256 ^ n) (omega arith))
  | no l ↦ rw (lt-leb half m (omega arith), lt-ltb (m + m) (256 ^ n) (omega arith))
]

-- A width that does not hold a number holds no greater one.
fits_antitone : (n a b : ℕ) → a ≤ b → cond (fits n (pos a)) 0 1 ≤ cond (fits n (pos b)) 0 1
unfolding fits
fits_antitone n a b h = elim (dec_lt (b + b) (256 ^ n)) [
  | yes l ↦ rw (lt-ltb (b + b) (256 ^ n) l, lt-ltb (a + a) (256 ^ n) (omega arith)) (omega arith)
  | no l ↦ rw (le-ltb (b + b) (256 ^ n) (omega arith)) (cond_elim (λ x. x ≤ 1) (ltb (a + a) (256 ^ n)) 0 1 (omega arith) (omega arith))
]

-- A greater number has no lesser width code.
code_le : (a b : ℕ) → a ≤ b → width_code (pos a) ≤ width_code (pos b)
code_le a b h = omega (arith, code_count (pos a), code_count (pos b), fits_antitone 1 a b h, fits_antitone 2 a b h, fits_antitone 4 a b h)

max_eq_left : (a b : ℕ) → b ≤ a → max a b ≡ a
max_eq_left a b h = elim (dec_le a b) [
  | yes l ↦ rw (le-leb a b l) (omega arith)
  | no l ↦ let g : b < a = omega arith in rw (lt-leb a b g)
]

-- The greater of two width codes is that of the greater number.
code_max : (a b : ℕ) → max (width_code (pos a)) (width_code (pos b)) ≡ width_code (pos (max a b))
code_max a b = elim (dec_le a b) [
  | yes l ↦ rw (le-leb a b l, le-leb (width_code (pos a)) (width_code (pos b)) (code_le a b l))
  | no l ↦
      let g : b < a = omega arith in
      let k : b ≤ a = omega arith in
      rw (lt-leb a b g) (max_eq_left (width_code (pos a)) (width_code (pos b)) (code_le b a k))
]

-- The three tests of a number against half of 256 ^ n count the widths that do not hold it.
pub code_tests : (m : ℕ) → bool_byte (leb 0x80 m) + bool_byte (leb 0x8000 m) + bool_byte (leb 0x8000_0000 m) ≡ width_code (pos m)
code_tests m =
    let byte = half_le_fits 1 0x80 m refl in
    let short = half_le_fits 2 0x8000 m refl in
    let int = half_le_fits 4 0x8000_0000 m refl in
    omega (arith, code_count (pos m), bool_byte_cond (leb 0x80 m), bool_byte_cond (leb 0x8000 m), bool_byte_cond (leb 0x8000_0000 m))

-- ---- the next reference in a loop

module _ (rs : List ℕ) (i : ℕ) (h : i < length rs) where
  -- The width code of the references from i on, starting from that of the distance m, is the width code of those after i,
  -- starting from that of the greater of m and the distance d of reference i.
  pub refs_code_drop : (m a d : ℕ) → gap a (get_or rs i 0) ≡ cond (leb a (get_or rs i 0)) (pos d) (negsuc d)
      → refs_code (width_code (pos m)) a (drop i rs) ≡ refs_code (width_code (pos (max m d))) a (drop (i + 1) rs)
  unfolding refs_code
  refs_code_drop m a d e =
      let c = ap (max (width_code (pos m))) (code_gap a (get_or rs i 0) d e) ∙ code_max m d in
      rw (drop-cons rs i 0, add-one) (ap (λ (k : ℕ). refs_code k a (drop (suc i) rs)) c)

  -- The bytes of the references from i on are those of reference i and then those of the references after it.
  pub encode_ref_list_drop : (w a : ℕ) → encode_ref_list w a (drop i rs)
      ≡ be w (twos_complement (gap a (get_or rs i 0))) ++ encode_ref_list w a (drop (i + 1) rs)
  unfolding encode_ref_list
  encode_ref_list_drop w a = rw (drop-cons rs i 0, add-one)
