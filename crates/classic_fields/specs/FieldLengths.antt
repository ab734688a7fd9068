-- How many bytes addresses and lists of references have in the classic text.
-- Assumes nothing.
use Rattle.std.specs.Prelude.{◌≡◌, List, [], ◌∷◌, ℕ, ◌+◌, ◌*◌, ◌/◌, length}
use Rattle.std.proofs.Common.{arith, length-append}
use Rattle.digits.specs.DigitLengths.{length_upper_digits}
use Rattle.classic.specs.ClassicText.{address, refs_text}

-- An address has `0x` and W / 4 digits; `bits` is W.
pub length_address : (bits a : ℕ) → length (address bits a) ≡ 2 + bits / 4
unfolding address
length_address bits a = rw length_upper_digits (omega arith)

-- Each reference takes a space and an address.
pub length_refs_text : (bits : ℕ) (rs : List ℕ) → length (refs_text bits rs) ≡ length rs * (3 + bits / 4)
unfolding refs_text
length_refs_text bits [] = omega arith
length_refs_text bits (a ∷ rs) = simp (length-append, length_address bits a, length_refs_text bits rs) (omega arith)
