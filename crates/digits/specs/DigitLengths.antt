-- How many bytes numbers have as digits. A decimal number has the fewest digits that hold it.
-- Assumes nothing.
use Rattle.std.specs.Prelude.{◌≡◌, refl, ℕ, zero, suc, ◌+◌, ◌-◌, ◌*◌, ◌/◌, ◌%◌, ◌^◌, ◌≤◌, ◌<◌, length}
use Rattle.std.proofs.Common.{sym, ap, ◌∙◌, pow-suc, arith, length-append, lt-ltb, le-ltb}
use Rattle.std.proofs.lemmas.List.{map-append, length-map}
use Rattle.std.proofs.Math.Nat.{pow-le-pow_right}
use Rattle.std.proofs.Math.Decide.{dec_le}
use Rattle.io.specs.Digits.{hex_digit_ascii, last_digits, IsDigitCount}
use Rattle.digits.specs.Digits.{uppercase, upper_digits, digit_count_in, digit_count, decimal}

pub length_digits : (b k n : ℕ) → length (last_digits b k n) ≡ k
length_digits b zero n = refl
length_digits b (suc k) n = simp (length-append, length_digits b k (n / b)) (omega arith)

pub length_upper_digits : (b k n : ℕ) → length (upper_digits b k n) ≡ k
unfolding upper_digits
length_upper_digits b k n = rw (length-map, length_digits)

-- Digits below ten are not letters, so upper case does not change them.
pub uppercase_ten : (d : ℕ) → d < 10 → uppercase (hex_digit_ascii d) ≡ hex_digit_ascii d
unfolding uppercase
uppercase_ten d l = let m : 48 + d < 0x61 = omega arith in rw (lt-ltb d 10 l, lt-ltb (48 + d) 0x61 m)

-- In base ten, upper case does not change the digits.
pub upper_digits_ten : (k n : ℕ) → upper_digits 10 k n ≡ last_digits 10 k n
unfolding upper_digits
upper_digits_ten zero n = refl
upper_digits_ten (suc k) n = rw (map-append, uppercase_ten (n % 10) (omega arith), upper_digits_ten k (n / 10))

pub length_decimal : (n : ℕ) → length (decimal n) ≡ digit_count n
unfolding decimal
length_decimal n = length_digits 10 (digit_count n) n

-- ---- digit counts

-- A number below ten has one digit, with any number of steps.
digit_count_in_small : (k n : ℕ) → n < 10 → digit_count_in k n ≡ 1
unfolding digit_count_in
digit_count_in_small zero n l = refl
digit_count_in_small (suc k) n l = rw (lt-ltb n 10 l, digit_count_in)

-- A number from ten on has one digit more than its tenth.
digit_count_in_step : (k n : ℕ) → 10 ≤ n → digit_count_in (suc k) n ≡ suc (digit_count_in k (n / 10))
unfolding digit_count_in
digit_count_in_step k n l = rw (le-ltb n 10 l, digit_count_in)

-- Any two numbers of steps that are enough give the same count.
digit_count_in_fuel : (j k n : ℕ) → n ≤ j → n ≤ k → digit_count_in j n ≡ digit_count_in k n
unfolding digit_count_in
digit_count_in_fuel zero k n p q = sym (digit_count_in_small k n (omega arith))
digit_count_in_fuel (suc j) zero n p q = digit_count_in_small (suc j) n (omega arith)
digit_count_in_fuel (suc j) (suc k) n p q = elim (dec_le 10 n) [
  | yes l ↦ digit_count_in_step j n l ∙ ap suc (digit_count_in_fuel j k (n / 10) (omega arith) (omega arith)) ∙ sym (digit_count_in_step k n l)
  | no l ↦ digit_count_in_small (suc j) n (omega arith) ∙ sym (digit_count_in_small (suc k) n (omega arith))
]

-- A number below ten has one digit.
pub digit_count_small : (n : ℕ) → n < 10 → digit_count n ≡ 1
unfolding digit_count
digit_count_small n l = digit_count_in_small n n l

-- A number from ten on has one digit more than its tenth.
pub digit_count_step : (n : ℕ) → 10 ≤ n → digit_count n ≡ suc (digit_count (n / 10))
unfolding digit_count
digit_count_step n l =
    let e : n ≡ suc (n - 1) = omega arith in
    ap (λ (k : ℕ). digit_count_in k n) e ∙ digit_count_in_step (n - 1) n l ∙ ap suc (digit_count_in_fuel (n - 1) (n / 10) (n / 10) (omega arith) (omega arith))

-- If p digits are the fewest that hold n / 10, then p + 1 are the fewest that hold n.
fewest_step : (n p : ℕ) → 10 ≤ n → IsDigitCount 10 1 (n / 10) p → IsDigitCount 10 1 n (suc p)
fewest_step n p l f =
    let a = f.0 in
    let b = f.1 in
    let e : 10 ^ suc p ≡ 10 ^ p * 10 = pow-suc 10 p in
    let i : suc p - 1 ≡ p = omega arith in
    (omega arith, omega arith, λ _. rw i least)
  where
    least : 10 ^ p ≤ n
    least = elim (dec_le 2 p) [
      | yes m ↦
          let i : p ≡ suc (p - 1) = omega arith in
          let g = f.2 m in
          omega (arith, ap (λ (x : ℕ). 10 ^ x) i ∙ pow-suc 10 (p - 1))
      | no m ↦
          let a = f.0 in
          let i : p ≡ 1 = omega arith in
          rw i l
    ]

-- `digit_count n` is the fewest digits that hold n, at least one, in the sense of `IsDigitCount` of `io`.
pub digit_count_fewest : (n : ℕ) → IsDigitCount 10 1 n (digit_count n)
digit_count_fewest n = below n n (omega arith)
  where
    small : (m : ℕ) → m < 10 → IsDigitCount 10 1 m (digit_count m)
    small m l = rw (digit_count_small m l) (omega arith, l, λ h. absurd (omega arith))

    below : (k m : ℕ) → m ≤ k → IsDigitCount 10 1 m (digit_count m)
    below zero m h = small m (omega arith)
    below (suc k) m h = elim (dec_le 10 m) [
      | yes l ↦ rw (digit_count_step m l) (fewest_step m _ l (below k (m / 10) (omega arith)))
      | no l ↦ small m (omega arith)
    ]

-- A 64-bit number has at most 20 digits.
pub digit_count_le_20 : (n : ℕ) → n < 2 ^ 64 → digit_count n ≤ 20
digit_count_le_20 n l = elim (dec_le (digit_count n) 20) [
  | yes m ↦ m
  | no m ↦
      let g = (digit_count_fewest n).2 (omega arith) in
      let t = pow-le-pow_right {n = 10} (omega arith) {i = 20} {j = digit_count n - 1} (omega arith) in
      absurd (omega arith)
]
