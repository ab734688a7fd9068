-- The arithmetic of `hex8_characters`: hexadecimal digits are spread to the bytes of a word, and all bytes become characters at
-- once.
-- Assumes nothing.
use mathlib.Core.Path.{◌≡◌, refl, sym, ap, ◌∙◌}
use mathlib.Core.List.{map-append}
use Prim.Native.Nat.{ℕ, zero, suc, ◌+◌, ◌-◌, ◌*◌, ◌/◌, ◌%◌, ◌^◌, ◌<◌}
use native.Mathlib.Nat.{mod-lt, lt_of_lt_of_le, le-add_left}
use native.Mathlib.Decide.{dec_le}
use native.Mathlib.Omega.{arith}
use lib.Pow.{pow_pos, pow_mono, split, mod-mod-pow, ones_lt}
use lib.Bits.{bit_and, and_block, and_mask, and_zero_r}
use Rattle.io.specs.Digits.{hex_digit_ascii}
use Rattle.encode.specs.Encode.{be}
use Rattle.digits.specs.Digits.{uppercase, upper_digits}
use Rattle.digits.proofs.DigitLaws.{digit_code, letter_code}

-- The last k digits of a number in base b, each in a field of its own: a number with these digits in base w.
unfoldable pub spread : ℕ → ℕ → ℕ → ℕ → ℕ
spread b w zero n = 0
spread b w (suc k) n = spread b w k (n / b) * w + n % b

-- The number of k fields that are all v.
unfoldable pub fields : ℕ → ℕ → ℕ → ℕ
fields w v zero = 0
fields w v (suc k) = fields w v k * w + v

-- Twice k.
unfoldable pub twice : ℕ → ℕ
twice zero = zero
twice (suc k) = suc (suc (twice k))

-- A mask whose lowest field, of j + i bits, has its i lowest bits set keeps the i lowest bits of that field.
and_field : (j i y m : ℕ) → bit_and y (m * 2 ^ (j + i) + (2 ^ i - 1)) ≡ bit_and (y / 2 ^ (j + i)) m * 2 ^ (j + i) + y % 2 ^ i
and_field j i y m =
    ap (λ (x : ℕ). bit_and x (m * 2 ^ (j + i) + (2 ^ i - 1))) (sym (split y (j + i)))
    ∙ and_block (j + i) (y / 2 ^ (j + i)) m (y % 2 ^ (j + i)) (2 ^ i - 1) (mod-lt y (pow_pos (j + i))) (lt_of_lt_of_le (ones_lt i) (pow_mono (le-add_left i j)))
    ∙ ap (λ (x : ℕ). bit_and (y / 2 ^ (j + i)) m * 2 ^ (j + i) + x) (and_mask (y % 2 ^ (j + i)) i ∙ mod-mod-pow y j i)

-- k digits in base w, in fields of size f, are spread to twice as many digits in base b, in fields of size w. Here w is b ^ 2, f
-- is w ^ 2 and c is w - b; the parameters are what linear arithmetic proves of such numbers.
module _ (b w f c : ℕ)
    (mask : (y m : ℕ) → bit_and y (m * f + (b - 1)) ≡ bit_and (y / f) m * f + y % b)
    (above : (x n : ℕ) → (x * f + n % w) / b / f ≡ x / b)
    (digit : (x n : ℕ) → (x * f + n % w) / b % b ≡ n / b % b)
    (quotient : (n : ℕ) → n / w ≡ n / b / b)
    (sum : (x a s n : ℕ) → x + c * a ≡ s → x * f + n % w + c * (a * f + n / b % b) ≡ (s * w + n / b % b) * w + n % b) where
  spread_half : (k n : ℕ) → let x = spread w f k n in x + c * bit_and (x / b) (fields f (b - 1) k) ≡ spread b w (twice k) n
  unfolding spread fields twice
  spread_half zero n = rw and_zero_r (omega arith)
  spread_half (suc k) n =
      let x = spread w f k (n / w) in
      let m = fields f (b - 1) k in
      rw (mask, above, digit) (sum x (bit_and (x / b) m) _ n (spread_half k (n / w) ∙ ap (spread b w (twice k)) (quotient n)))

-- The same for two numbers: digits in base 2 ^ 16 to digits in base 256, and those to hexadecimal digits.
pub spread_256 : (k n : ℕ) → let x = spread 0x10000 0x100000000 k n in
    x + 0xFF00 * bit_and (x / 0x100) (fields 0x100000000 0xFF k) ≡ spread 0x100 0x10000 (twice k) n
spread_256 = spread_half 0x100 0x10000 0x100000000 0xFF00 (and_field 24 8) (λ x n. omega arith) (λ x n. omega arith) (λ n. omega arith) (λ x a s n h. omega arith)

pub spread_16 : (k n : ℕ) → let x = spread 0x100 0x10000 k n in
    x + 0xF0 * bit_and (x / 0x10) (fields 0x10000 0xF k) ≡ spread 0x10 0x100 (twice k) n
spread_16 = spread_half 0x10 0x100 0x10000 0xF0 (and_field 12 4) (λ x n. omega arith) (λ x n. omega arith) (λ n. omega arith) (λ x a s n h. omega arith)

-- The character of a hexadecimal digit, in upper case: 7 more than 48 plus the digit if it is a letter.
upper_code : (d : ℕ) → d < 16 → uppercase (hex_digit_ascii d) ≡ 48 + d + 7 * ((d + 6) / 16)
upper_code d l = elim (dec_le 10 d) [
  | yes h ↦ letter_code d h ∙ omega arith
  | no h ↦ digit_code d (omega arith) ∙ omega arith
]

-- The number whose bytes are the characters of k digits, computed from the number x whose bytes are the digits.
abbrev pub characters : ℕ → ℕ → ℕ
characters k x = x + fields 0x100 0x30 k + 7 * bit_and ((x + fields 0x100 6 k) / 0x10) (fields 0x100 1 k)

-- Its bytes are the digits in upper case.
pub characters_digits : (k n : ℕ) → be k (characters k (spread 0x10 0x100 k n)) ≡ upper_digits 16 k n
unfolding spread fields be upper_digits
characters_digits zero n = refl
characters_digits (suc k) n =
    let x = spread 0x10 0x100 k (n / 0x10) in
    let d = n % 0x10 in
    let y = (x * 0x100 + d + (fields 0x100 6 k * 0x100 + 6)) / 0x10 in
    let m = fields 0x100 1 k in
    let above : y / 0x100 ≡ (x + fields 0x100 6 k) / 0x10 = omega arith in
    let mask : bit_and y (m * 0x100 + 1) ≡ bit_and ((x + fields 0x100 6 k) / 0x10) m * 0x100 + y % 2 =
    and_field 7 1 y m ∙ ap (λ (z : ℕ). bit_and z m * 0x100 + y % 2) above in
    let letter : y % 2 ≡ (d + 6) / 16 = omega arith in
    let v = characters (suc k) (spread 0x10 0x100 (suc k) n) in
    let quotient : v / 0x100 ≡ characters k x = omega (arith, mask) in
    let last : v % 0x100 ≡ uppercase (hex_digit_ascii d) = omega (arith, mask, upper_code d (omega arith)) in
    rw (quotient, last, characters_digits k (n / 0x10), map-append)
