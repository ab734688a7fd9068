-- Laws of big-endian digits, two's complement, signs and exact sums, in the form in which the functions compute them.
use mathlib.Core.Path.{◌≡◌, refl, sym, ap, ◌∙◌}
use mathlib.Core.Bool.{true, false, cond, ◌&&◌}
use mathlib.Core.List.{List}
use Prim.Native.Nat.{ℕ, zero, suc, ◌+◌, ◌-◌, ◌*◌, ◌^◌, ◌≤◌, ◌<◌}
use native.Mathlib.Nat.{pow-suc, pow-le-pow_right, mul-suc, two-pow-succ, zero-add}
use native.Mathlib.Numerals.{add-one}
use native.Mathlib.Omega.{arith}
use lib.ListN.{length, take, drop, get_or}
use lib.Seq.{drop-cons}
use lib.Arith.{digits_lt}
use lib.Pow.{pow-add}
use lib.Dec.{leb, ltb}
use lib.IntN.{ℤ, pos, negsuc, ◌-ℤ◌}
use lib.Signed.{lt_z}
use borrow.Author.Tests.{lt-ltb, le-ltb, ltb-true, le-leb, lt-leb}
use Rattle.decode.specs.Slices.{slice_next}
use Rattle.decode.specs.Numbers.{value_after, signed, sign_case, add_gap, in_range, to_count, all_within}
use Rattle.decode.specs.Values.{true_not_false}
use Rattle.decode.specs.declared.SignCase.TheVariants.{NonNeg, NegSuc}
use Rattle.std.specs.Prelude.{Some, None}

-- ---- digits

-- A value of i digits, followed by one more digit, is below 256 ^ (i + 1).
pub digit_lt : (i : ℕ) {v b : ℕ} → v < 256 ^ i → b < 256 → v * 256 + b < 256 ^ (i + 1)
digit_lt i h k = rw (add-one, pow-suc) (digits_lt h k)

-- A value of at most seven bytes is below 2^56, so one more byte fits into 64 bits.
pub seven_bytes_lt : (i : ℕ) {v : ℕ} → v < 256 ^ i → i < 8 → v < 2 ^ 56
seven_bytes_lt i h k = omega (arith, pow-le-pow_right {n = 256} (omega arith) {i = i} {j = 7} (omega arith))

-- A value of at most eight bytes fits into 64 bits.
pub bytes_le_u64 : (n : ℕ) → n ≤ 8 → 256 ^ n ≤ 2 ^ 64
bytes_le_u64 n h = pow-le-pow_right {n = 256} (omega arith) {i = n} {j = 8} h

-- Reading byte i multiplies the value so far by 256 and adds the byte.
pub value_after_step : (s : List ℕ) (i v : ℕ) → i < length s → value_after v (drop i s) ≡ value_after (v * 256 + get_or s i 0) (drop (i + 1) s)
unfolding value_after
value_after_step s i v h = rw (drop-cons s i 0, add-one)

-- ---- two's complement

pub byte_bits : (n : ℕ) → 256 ^ n ≡ 2 ^ (8 * n)
byte_bits zero = refl
byte_bits (suc n) = pow-suc 256 n ∙ ap (λ (x : ℕ). x * 256) (byte_bits n) ∙ sym (ap (λ (x : ℕ). 2 ^ x) (mul-suc 8 n) ∙ pow-add 2 (8 * n) 8)

-- 2 ^ (8 * n - 1) is half of 256 ^ n.
pub half_plus_half : (n : ℕ) → 1 ≤ n → 2 ^ (8 * n - 1) + 2 ^ (8 * n - 1) ≡ 256 ^ n
half_plus_half n h =
    let e : 8 * n ≡ suc (8 * n - 1) = omega arith in
    sym (byte_bits n ∙ ap (λ (x : ℕ). 2 ^ x) e ∙ two-pow-succ (8 * n - 1))

-- -1 - g is `negsuc g`.
pub neg_one_sub : (g : ℕ) → negsuc 0 -ℤ pos g ≡ negsuc g
neg_one_sub zero = refl
neg_one_sub (suc g) = ap (λ (x : ℕ). negsuc (suc x)) (zero-add g)

-- Below half of 256 ^ n, the signed number is the value itself.
pub signed_small : (n v : ℕ) → v + v < 256 ^ n → signed n v ≡ pos v
unfolding signed
signed_small n v h = rw (lt-ltb (v + v) (256 ^ n) h)

-- From half of 256 ^ n on, the signed number is the value minus 256 ^ n.
pub signed_large : (n v : ℕ) → 256 ^ n ≤ v + v → signed n v ≡ negsuc (256 ^ n - suc v)
unfolding signed
signed_large n v h = rw (le-ltb (v + v) (256 ^ n) h)

-- ---- signs

pub negative_is_negsuc : (z : ℤ) → lt_z z (pos 0) ≡ true → (n : ℕ) × (z ≡ negsuc n)
negative_is_negsuc (pos n) e = let h : n < 0 = ltb-true n 0 e in absurd (omega arith)
negative_is_negsuc (negsuc n) e = (n, refl)

pub nonneg_is_pos : (z : ℤ) → lt_z z (pos 0) ≡ false → (n : ℕ) × (z ≡ pos n)
nonneg_is_pos (pos n) e = (n, refl)
nonneg_is_pos (negsuc n) e = absurd (true_not_false e)

-- -1 minus (-1 - n) is n.
pub neg_one_neg : (n : ℕ) → negsuc 0 -ℤ negsuc n ≡ pos n
neg_one_neg n =
    let h : 1 ≤ suc n = omega arith in
    let e : suc n - 1 ≡ n = omega arith in
    rw (le-ltb (suc n) 1 h, e)

-- A number in the case `NonNeg n` is n.
pub sign_case_nonneg : (z : ℤ) (n : ℕ) → sign_case z ≡ NonNeg n → z ≡ pos n
unfolding sign_case
sign_case_nonneg (pos m) n e = ap pos cc
sign_case_nonneg (negsuc m) n e = let z : ◌≡◌ {A = ℕ} 0 1 = cc in absurd (omega arith)

-- A number in the case `NegSuc n` is -1 - n.
pub sign_case_negsuc : (z : ℤ) (n : ℕ) → sign_case z ≡ NegSuc n → z ≡ negsuc n
unfolding sign_case
sign_case_negsuc (pos m) n e = let z : ◌≡◌ {A = ℕ} 0 1 = cc in absurd (omega arith)
sign_case_negsuc (negsuc m) n e = ap negsuc cc

-- `add_gap` for a gap n of at least 0.
pub add_gap_nonneg : (highest base : ℕ) (z : ℤ) (n : ℕ) → sign_case z ≡ NonNeg n → add_gap highest base z ≡ in_range highest (base + 4 * n)
unfolding add_gap
add_gap_nonneg highest base z n e = rw (sign_case_nonneg z n e)

-- `add_gap` for the gap -1 - n.
pub add_gap_negsuc : (highest base : ℕ) (z : ℤ) (n : ℕ) → sign_case z ≡ NegSuc n
    → add_gap highest base z ≡ cond (leb (4 * suc n) base) (in_range highest (base - 4 * suc n)) None
unfolding add_gap
add_gap_negsuc highest base z n e = rw (sign_case_negsuc z n e)

-- A number n of at least 0 is a valid count if it is below 2^31.
pub to_count_nonneg : (z : ℤ) (n : ℕ) → sign_case z ≡ NonNeg n → to_count z ≡ cond (ltb n (2 ^ 31)) (Some n) None
unfolding to_count
to_count_nonneg z n e = rw (sign_case_nonneg z n e)

-- A negative number is no count.
pub to_count_negsuc : (z : ℤ) (n : ℕ) → sign_case z ≡ NegSuc n → to_count z ≡ None
unfolding to_count
to_count_negsuc z n e = rw (sign_case_negsuc z n e)

-- ---- bytes in a range

module _ (s : List ℕ) (at n i low high : ℕ) (h : i < n) (in_bounds : at + n ≤ length s) where
  -- The bytes from index i on are in range if byte i is, and those after it are.
  all_within_step : all_within low high (take (n - i) (drop (at + i) s))
      ≡ (leb low (get_or s (at + i) 0) && leb (get_or s (at + i) 0) high) && all_within low high (take (n - (i + 1)) (drop (at + (i + 1)) s))
  unfolding all_within
  all_within_step = rw (slice_next s at n i h in_bounds)

  -- If byte i is below low, the bytes from index i on are not all in range.
  pub all_within_too_low : get_or s (at + i) 0 < low → all_within low high (take (n - i) (drop (at + i) s)) ≡ false
  all_within_too_low l = rw (all_within_step, lt-leb _ _ l)

  -- If byte i is above high, the bytes from index i on are not all in range.
  pub all_within_too_high : low ≤ get_or s (at + i) 0 → high < get_or s (at + i) 0 → all_within low high (take (n - i) (drop (at + i) s)) ≡ false
  all_within_too_high k l = rw (all_within_step, le-leb _ _ k, lt-leb _ _ l)

  -- If byte i is in range, the bytes after it decide.
  pub all_within_next : low ≤ get_or s (at + i) 0 → get_or s (at + i) 0 ≤ high
      → all_within low high (take (n - i) (drop (at + i) s)) ≡ all_within low high (take (n - (i + 1)) (drop (at + (i + 1)) s))
  all_within_next k l = rw (all_within_step, le-leb _ _ k, le-leb _ _ l)
