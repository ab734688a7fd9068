-- `hex8_characters` satisfies its contract: the digits are spread to halves, quarters and bytes, then all become characters. Each
-- mask bounds what it keeps, so no sum and no product overflows.
use borrow.Author.Rules.{rules}
use mathlib.Core.Path.{◌≡◌, ap, ◌∙◌}
use Prim.Native.Nat.{ℕ, ◌+◌, ◌*◌, ◌/◌, ◌%◌, ◌≤◌}
use native.Mathlib.Omega.{arith}
use lib.Bits.{bit_and, and_le_r}
use Rattle.encode.specs.Encode.{be}
use Rattle.digits.proofs.HexDigits.{spread, fields, twice, spread_256, spread_16, characters, characters_digits}
use Rattle.digits.proofs.hex8_characters.Statement.{statement}
use Rattle.digits.proofs.hex8_characters.Tie as tie

-- The values of the function's locals for a number n, and what its masks keep: the higher byte of each half, and the higher digit
-- of each quarter.
abbrev halves : ℕ → ℕ
halves n = n / 0x10000 % 0x10000 * 0x100000000 + n % 0x10000

abbrev high_bytes : ℕ → ℕ
high_bytes n = bit_and (halves n / 0x100) 0xFF000000FF

abbrev quarters : ℕ → ℕ
quarters n = halves n + 0xFF00 * high_bytes n

abbrev high_digits : ℕ → ℕ
high_digits n = bit_and (quarters n / 0x10) 0xF000F000F000F

abbrev bytes : ℕ → ℕ
bytes n = quarters n + 0xF0 * high_digits n

abbrev letters : ℕ → ℕ
letters n = bit_and ((bytes n + 0x0606060606060606) / 0x10) 0x0101010101010101

-- The digits are in the bytes, one in each.
bytes_spread : (n : ℕ) → bytes n ≡ spread 0x10 0x100 8 n
unfolding spread fields twice
bytes_spread n =
    let h : halves n ≡ spread 0x10000 0x100000000 2 n = omega arith in
    let q : quarters n ≡ spread 0x100 0x10000 4 n = ap (λ (x : ℕ). x + 0xFF00 * bit_and (x / 0x100) 0xFF000000FF) h ∙ spread_256 2 n in
    ap (λ (x : ℕ). x + 0xF0 * bit_and (x / 0x10) 0xF000F000F000F) q ∙ spread_16 4 n

-- The masks bound what they keep.
high_bytes_le : (n : ℕ) → high_bytes n ≤ 0xFF000000FF
high_bytes_le n = and_le_r (halves n / 0x100) 0xFF000000FF

high_digits_le : (n : ℕ) → high_digits n ≤ 0xF000F000F000F
high_digits_le n = and_le_r (quarters n / 0x10) 0xF000F000F000F

letters_le : (n : ℕ) → letters n ≤ 0x0101010101010101
letters_le n = and_le_r ((bytes n + 0x0606060606060606) / 0x10) 0x0101010101010101

overflow_mul-halves : tie.Need-overflow_mul-halves
overflow_mul-halves c = search rules

overflow_add-halves : tie.Need-overflow_add-halves
overflow_add-halves c = search rules

overflow_mul-quarters : tie.Need-overflow_mul-quarters
overflow_mul-quarters c = omega (arith, high_bytes_le c.args.n)

overflow_add-quarters : tie.Need-overflow_add-quarters
overflow_add-quarters c = omega (arith, high_bytes_le c.args.n)

overflow_mul-bytes : tie.Need-overflow_mul-bytes
overflow_mul-bytes c = omega (arith, high_digits_le c.args.n)

overflow_add-bytes : tie.Need-overflow_add-bytes
overflow_add-bytes c = omega (arith, high_bytes_le c.args.n, high_digits_le c.args.n)

overflow_add-letters : tie.Need-overflow_add-letters
overflow_add-letters c = omega (arith, high_bytes_le c.args.n, high_digits_le c.args.n)

overflow_add-result : tie.Need-overflow_add-result
overflow_add-result c = omega (arith, high_bytes_le c.args.n, high_digits_le c.args.n)

overflow_mul-result : tie.Need-overflow_mul-result
overflow_mul-result c = omega (arith, letters_le c.args.n)

overflow_add-result-2 : tie.Need-overflow_add-result-2
overflow_add-result-2 c = omega (arith, high_bytes_le c.args.n, high_digits_le c.args.n, letters_le c.args.n)

returns : tie.Need-returns
unfolding fields
returns c = ap (λ (x : ℕ). be 8 (characters 8 x)) (bytes_spread c.args.n) ∙ characters_digits 8 c.args.n

pub hex8_characters_spec : {M : Type 1} → statement M
hex8_characters_spec =
    tie.close
    (tie.spec
    overflow_mul-halves
    overflow_add-halves
    overflow_mul-quarters
    overflow_add-quarters
    overflow_mul-bytes
    overflow_add-bytes
    overflow_add-letters
    overflow_add-result
    overflow_mul-result
    overflow_add-result-2
    returns)
