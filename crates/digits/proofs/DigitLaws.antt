-- Laws of digits as characters, and of writing digits in base ten from the last to the first.
-- Assumes nothing.
use mathlib.Core.Path.{◌≡◌, refl, ◌∙◌}
use mathlib.Core.List.{List}
use Prim.Native.Nat.{ℕ, ◌+◌, ◌-◌, ◌/◌, ◌%◌, ◌≤◌, ◌<◌}
use native.Mathlib.Omega.{arith}
use lib.ListN.{set}
use lib.Seq.{sets}
use borrow.Author.Tests.{lt-ltb, le-ltb}
use Rattle.io.specs.Digits.{hex_digit_ascii, last_digits}
use Rattle.encode.proofs.EncodeLaws.{digit_step}
use Rattle.digits.specs.Digits.{uppercase}
use Rattle.digits.specs.DigitLengths.{length_digits, uppercase_ten}

-- The character of a digit below ten has the code 48 plus the digit.
glyph_ten : (d : ℕ) → d < 10 → hex_digit_ascii d ≡ 48 + d
glyph_ten d l = rw (lt-ltb d 10 l)

-- So has its upper case.
pub digit_code : (d : ℕ) → d < 10 → uppercase (hex_digit_ascii d) ≡ 48 + d
digit_code d l = uppercase_ten d l ∙ glyph_ten d l

-- The character of a digit from ten on, in upper case, has the code 55 plus the digit.
pub letter_code : (d : ℕ) → 10 ≤ d → uppercase (hex_digit_ascii d) ≡ 55 + d
unfolding uppercase
letter_code d l = let m : 0x61 ≤ 87 + d = omega arith in rw (le-ltb d 10 l, le-ltb (87 + d) 0x61 m) (omega arith)

-- Writing k digits in base ten is writing the last one, then the k - 1 digits of the quotient by ten.
pub decimal_digit_step : (out : List ℕ) (at k n : ℕ) → 0 < k
    → sets out at (last_digits 10 k n) ≡ sets (set out (at + (k - 1)) (48 + n % 10)) at (last_digits 10 (k - 1) (n / 10))
decimal_digit_step out at k n h =
    let g : hex_digit_ascii (n % 10) ≡ 48 + n % 10 = glyph_ten (n % 10) (omega arith) in
    rw g at (digit_step (last_digits 10) 10 hex_digit_ascii (length_digits 10) (λ k n. refl) out at k n h)
