-- Addresses and references as text, in the parts in which they are encoded.
-- Assumes nothing.
use Rattle.std.specs.Prelude.{◌≡◌, List, ◌∷◌, [], ◌++◌, ℕ, ◌+◌, ◌<◌, length, get_or, drop}
use Rattle.std.proofs.Common.{◌∙◌, ⊎_elim, append-nil, length-append, add-one, drop-cons}
use Rattle.encode.specs.SetsLaws.{sets_append}
use Rattle.phd.specs.Shapes.{ValidBits}
use Rattle.digits.specs.Digits.{upper_digits}
use Rattle.classic.specs.ClassicText.{address, refs_text}
use Rattle.classic_fields.specs.AddressParts.{high_digits, address_join}

-- An address is `0x`, the digits before its last eight, and the last eight.
pub address_split : (bits a : ℕ) → ValidBits bits → address bits a ≡ (0x30 ∷ 0x78 ∷ []) ++ (high_digits bits a ++ upper_digits 16 8 a)
address_split bits a v = address_join bits a v ∙ rw append-nil

-- The laws by which the check itself proves that the parts of an address are encoded one after another.
pub ruleset address_steps = (address_split, sets_append, length-append)

-- For W 32 there are no digits before the last eight.
pub no_high_digits : (bits a : ℕ) → ValidBits bits → (bits ≡ 64 → ⊥) → high_digits bits a ≡ []
unfolding upper_digits
no_high_digits bits a v n = ⊎_elim (λ e. rw e) (λ e. absurd (n e)) v

-- The references from index i on are the one at i, after a space, and those after it.
pub refs_text_drop : (bits : ℕ) (refs : List ℕ) (i : ℕ) → i < length refs
    → refs_text bits (drop i refs) ≡ (0x20 ∷ []) ++ (address bits (get_or refs i 0) ++ refs_text bits (drop (i + 1) refs))
unfolding refs_text
refs_text_drop bits refs i l = rw (add-one, drop-cons refs i 0 l)
