-- The text of an address in the parts in which it is written: `0x`, the digits before the last eight, and the last eight.
-- Assumes nothing.
use Rattle.std.specs.Prelude.{◌≡◌, refl, List, [], ◌∷◌, ℕ, ◌-◌, ◌/◌, ◌^◌}
use Rattle.std.proofs.Common.{append-nil, inl, inr}
use Rattle.encode.specs.Encode.{join}
use Rattle.phd.specs.Shapes.{ValidBits}
use Rattle.digits.specs.Digits.{ascii, upper_digits}
use Rattle.digits.specs.DigitParts.{upper_digits_parts}
use Rattle.classic.specs.ClassicText.{address}

-- The digits of an address before its last eight: none for W 32, eight for W 64. `bits` is W.
abbrev pub high_digits : ℕ → ℕ → List ℕ
high_digits bits a = upper_digits 16 (bits / 4 - 8) (a / 2 ^ 32)

-- The parts of an address.
abbrev pub address_parts : ℕ → ℕ → List (List ℕ)
address_parts bits a = ascii "0x" ∷ high_digits bits a ∷ upper_digits 16 8 a ∷ []

no_digits : (n : ℕ) → upper_digits 16 0 n ≡ []
unfolding upper_digits
no_digits n = refl

-- An address is its parts.
pub address_join : (bits a : ℕ) → ValidBits bits → address bits a ≡ join (address_parts bits a)
unfolding address
address_join bits a (inl e) = rw (e, no_digits (a / 2 ^ 32), append-nil)
address_join bits a (inr e) = rw (e, upper_digits_parts 16 8 8 a, append-nil)
