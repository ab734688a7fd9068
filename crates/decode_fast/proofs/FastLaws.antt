-- Laws of values read byte by byte, of shifts as quotients, and of references biased to be unsigned, for any width.
use mathlib.Core.Path.{◌≡◌, refl, ap, ◌∙◌}
use mathlib.Core.Bool.{Bool, true, false, ◌&&◌}
use mathlib.Core.List.{List}
use Prim.Native.Nat.{ℕ, zero, suc, ◌+◌, ◌-◌, ◌*◌, ◌/◌, ◌%◌, ◌^◌, ◌≤◌, ◌<◌}
use native.Mathlib.Nat.{add-zero, add-suc, add-mul, mul_assoc, pow-succ', one-le-pow, mod-lt, mod-eq_of_lt, add-mod_right, div-one, div-div-eq-div-mul, div-lt_iff_lt-mul, mul-div_cancel, add-mul-div_right}
use native.Mathlib.Omega.{arith}
use native.Mathlib.Decide.{dec_lt}
use lib.Arith.{digits_div, mod-mul}
use lib.Pow.{pow-add}
use lib.ListN.{length, take, drop, get_or}
use lib.Dec.{leb, ltb}
use borrow.Author.Tests.{lt-ltb, le-ltb, le-leb, lt-leb}
use Rattle.decode.specs.Numbers.{value_after, value}
use Rattle.decode.specs.Slices.{slice_cons}
use Rattle.decode.specs.ByteValues.{value_next, value_below}
use Rattle.decode.proofs.DecodeLaws.{byte_bits}
use Rattle.decode_fast.specs.RefsInRange.{gap_reach, refs_in_range, target}

-- ---- powers of 256

-- A right shift that leaves n of m bytes divides by 256 ^ (m - n).
shift_pow : (m n : ℕ) → 2 ^ (8 * m - 8 * n) ≡ 256 ^ (m - n)
shift_pow m n =
    let e : 8 * m - 8 * n ≡ 8 * (m - n) = omega arith in
    rw (e, byte_bits (m - n))

-- 256 ^ m is the product of 256 ^ n, for the first n bytes, and 256 ^ (m - n), for the others.
pow_split : (m n : ℕ) → n ≤ m → 256 ^ m ≡ 256 ^ n * 256 ^ (m - n)
pow_split m n l =
    let e : m ≡ n + (m - n) = omega arith in
    ap (λ (k : ℕ). 256 ^ k) e ∙ pow-add 256 n (m - n)

pow_pos : (n : ℕ) → 0 < 256 ^ n
pow_pos n = one-le-pow n 256 (omega arith)

-- For at least one byte, 256 ^ n is even.
pow_even : (n : ℕ) → 1 ≤ n → 256 ^ n ≡ 256 ^ n / 2 + 256 ^ n / 2
pow_even zero h = absurd (omega arith)
pow_even (suc n) h = omega arith

-- ---- values of bytes

-- The bytes at offset `at` of s, read one by one.
module _ (s : List ℕ) (at : ℕ) where
  value_one_byte : at < length s → value (take 1 (drop at s)) ≡ get_or s at 0
  unfolding value_after
  value_one_byte h = rw (slice_cons s at 0 h) (omega arith)

  pub value_two_bytes : at + 2 ≤ length s → get_or s at 0 * 256 + get_or s (at + 1) 0 ≡ value (take 2 (drop at s))
  value_two_bytes h = omega (arith, value_one_byte (omega arith), value_next s at 1 (omega arith))

  pub value_four_bytes : at + 4 ≤ length s
      → ((get_or s at 0 * 256 + get_or s (at + 1) 0) * 256 + get_or s (at + 2) 0) * 256 + get_or s (at + 3) 0 ≡ value (take 4 (drop at s))
  value_four_bytes h = omega (arith, value_two_bytes (omega arith), value_next s at 2 (omega arith), value_next s at 3 (omega arith))

  pub value_eight_bytes : at + 8 ≤ length s
      → (((value (take 4 (drop at s)) * 256 + get_or s (at + 4) 0) * 256 + get_or s (at + 5) 0) * 256 + get_or s (at + 6) 0) * 256 + get_or s (at + 7) 0
      ≡ value (take 8 (drop at s))
  value_eight_bytes h = omega (arith, value_next s at 4 (omega arith), value_next s at 5 (omega arith), value_next s at 6 (omega arith), value_next s at 7 (omega arith))

  module _ (byte : (i : ℕ) → get_or s i 0 < 256) where
    -- The value of n bytes is below 256 ^ n.
    pub value_lt : (n : ℕ) → at + n ≤ length s → value (take n (drop at s)) < 256 ^ n
    value_lt = value_below s at (record { each = byte })

    -- Dividing by 256 ^ k drops the last k bytes.
    value_div_pow : (n k : ℕ) → at + (n + k) ≤ length s → value (take (n + k) (drop at s)) / 256 ^ k ≡ value (take n (drop at s))
    value_div_pow n zero h = rw (add-zero n, div-one)
    value_div_pow n (suc k) h = rw (
      add-suc n k,
      value_next s at (n + k) (omega arith),
      pow-succ' 256 k,
      ← div-div-eq-div-mul (value (take (n + k) (drop at s)) * 256 + get_or s (at + (n + k)) 0) 256 (256 ^ k),
      digits_div (value (take (n + k) (drop at s))) (byte (at + (n + k))),
    ) (value_div_pow n k (omega arith))

    -- The value of all m bytes, shifted right by the bits of the last m - n, is the value of the first n.
    pub value_shift : (m n : ℕ) → n ≤ m → at + m ≤ length s → value (take m (drop at s)) / 2 ^ (8 * m - 8 * n) ≡ value (take n (drop at s))
    value_shift m n l h =
        let e : n + (m - n) ≡ m = omega arith in
        rw (shift_pow m n) (rw e at (value_div_pow n (m - n) (omega arith)))

-- ---- references

-- The reach of m bytes, shifted right by the bits of m - w bytes, is the reach of w bytes.
pub gap_reach_shift : (m w : ℕ) → w ≤ m → 2 * 256 ^ m / 2 ^ (8 * m - 8 * w) ≡ gap_reach w
unfolding gap_reach
gap_reach_shift m w l = rw (shift_pow m w, pow_split m w l, ← mul_assoc 2 (256 ^ w) (256 ^ (m - w))) (mul-div_cancel (2 * 256 ^ w) (pow_pos (m - w)))

false_and_and : (x y : Bool) → false ≡ x && (y && false)
false_and_and true true = refl
false_and_and true false = refl
false_and_and false y = refl

-- a < top - m and a + m < top are the same test; the first one does not overflow.
ltb_sub : (a m top : ℕ) → m ≤ top → ltb a (top - m) ≡ ltb (a + m) top
ltb_sub a m top h = elim (dec_lt (a + m) top) [
  | yes e ↦ rw (lt-ltb (a + m) top e) (lt-ltb a (top - m) (omega arith))
  | no e ↦ rw (le-ltb (a + m) top (omega arith)) (le-ltb a (top - m) (omega arith))
]

-- For more than 4 bytes `refs_in_range` is false.
pub refs_in_range_wide : (w a top : ℕ) → 4 < w → false ≡ refs_in_range w a top
unfolding refs_in_range
refs_in_range_wide w a top h = rw (lt-leb w 4 h)

-- If top is below the reach, `refs_in_range` is false.
pub refs_in_range_small : (w a top : ℕ) → top < gap_reach w → false ≡ refs_in_range w a top
unfolding refs_in_range
refs_in_range_small w a top h = rw (le-ltb (a + gap_reach w) top (omega arith)) (false_and_and (leb w 4) (ltb (gap_reach w) a))

-- Otherwise `refs_in_range` is the two comparisons that the function makes.
pub refs_in_range_test : (w a top : ℕ) → w ≤ 4 → gap_reach w ≤ top → ltb (gap_reach w) a && ltb a (top - gap_reach w) ≡ refs_in_range w a top
unfolding refs_in_range
refs_in_range_test w a top h k = rw (le-leb w 4 h, ltb_sub a (gap_reach w) top k)

-- The first w bytes of the m-byte value x, as a signed number plus half of 256 ^ w, so that the lowest is 0.
abbrev pub biased : ℕ → ℕ → ℕ → ℕ
biased m w x = (x + 256 ^ m / 2) % 256 ^ m / 2 ^ (8 * m - 8 * w)

-- l is half of p more than v as a signed number, in two's complement with p values.
abbrev IsBiased : ℕ → ℕ → ℕ → Type 0
IsBiased p l v = (l < p) × (v < p) × (v + v < p → l + l ≡ v + v + p) × (p ≤ v + v → l + l + p ≡ v + v)

-- The sum of v and half of p, modulo p, is v biased.
bias_mod : (p h v : ℕ) → p ≡ h + h → v < p → IsBiased p ((v + h) % p) v
bias_mod p h v e l = elim (dec_lt v h) [
  | yes k ↦ rw (mod-eq_of_lt {n = v + h} {m = p} (omega arith)) (omega arith)
  | no k ↦
      let d : v + h ≡ v - h + p = omega arith in
      rw (d, add-mod_right (v - h) p, mod-eq_of_lt {n = v - h} {m = p} (omega arith)) (omega arith)
]

-- A remainder modulo p * q, divided by q, is the remainder of the quotient modulo p.
mod_div : (x p q : ℕ) → 0 < p → 0 < q → x % (p * q) / q ≡ x / q % p
mod_div x p q k l = ap (λ (y : ℕ). y / q) (mod-mul x k l) ∙ digits_div (x / q % p) (mod-lt x l)

-- Adding half of p * q modulo p * q, and then dividing by q, biases the quotient.
bias_div : (p h q x : ℕ) → p ≡ h + h → 0 < p → 0 < q → x < p * q → IsBiased p ((x + p * q / 2) % (p * q) / q) (x / q)
bias_div p h q x e k l small =
    let d : p * q ≡ h * q + h * q = ap (λ (y : ℕ). y * q) e ∙ add-mul h h q in
    let f : p * q / 2 ≡ h * q = omega arith in
    rw (f, mod_div (x + h * q) p q k l, add-mul-div_right x h l) (bias_mod p h (x / q) e ((div-lt_iff_lt-mul l).1 small))

module _ (m w x : ℕ) (some : 1 ≤ w) (few : w ≤ m) (small : x < 256 ^ m) where
  -- `biased m w x` is the biased value of the first w bytes.
  is_biased : IsBiased (256 ^ w) (biased m w x) (x / 2 ^ (8 * m - 8 * w))
  is_biased = rw (shift_pow m w, pow_split m w few) (bias_div (256 ^ w) (256 ^ w / 2) (256 ^ (m - w)) x (pow_even w some) (pow_pos w) (pow_pos (m - w)) (rw (pow_split m w few) at small))

  -- 4 times the biased value is less than twice the reach.
  pub biased_lt : 4 * biased m w x < gap_reach w + gap_reach w
  unfolding gap_reach
  biased_lt = omega (arith, is_biased.0)

  -- The lowest address in reach, plus 4 times the biased value, is the target of the value.
  pub biased_target : (a : ℕ) → gap_reach w < a → a - gap_reach w + 4 * biased m w x ≡ target w a (x / 2 ^ (8 * m - 8 * w))
  unfolding gap_reach target
  biased_target a low =
      let v = x / 2 ^ (8 * m - 8 * w) in
      let k = is_biased in
      elim (dec_lt (v + v) (256 ^ w)) [
        | yes e ↦ rw (lt-ltb (v + v) (256 ^ w) e) (omega (arith, k.2 e))
        | no e ↦
            let h : 256 ^ w ≤ v + v = omega arith in
            rw (le-ltb (v + v) (256 ^ w) h) (omega (arith, k.1, k.3 h))
      ]
