-- The number of bytes of encoded references, and storing one list after another.
-- Assumes nothing.
use Rattle.std.specs.Prelude.{◌≡◌, List, [], ◌∷◌, ◌++◌, ℕ, suc, ◌+◌, ◌*◌, length, set}
use Rattle.std.proofs.Common.{add-zero, arith, length-append}
use Rattle.std.proofs.lemmas.List.Edits.{sets}
use Rattle.encode.specs.Encode.{gap, twos_complement, encode_ref_list}
use Rattle.encode.specs.NumberRoundTrip.{length_be}

-- Encoded references take w bytes each.
pub length_encode_ref_list : (w a : ℕ) (rs : List ℕ) → length (encode_ref_list w a rs) ≡ length rs * w
unfolding encode_ref_list
length_encode_ref_list w a [] = omega arith
length_encode_ref_list w a (r ∷ rs) = simp (length-append, length_be w (twos_complement (gap a r)), length_encode_ref_list w a rs) (omega arith)

-- Storing a concatenation is storing the first list and then the second after it.
pub sets_append : (l : List ℕ) (at : ℕ) (xs ys : List ℕ) → sets l at (xs ++ ys) ≡ sets (sets l at xs) (at + length xs) ys
sets_append l at [] ys = rw add-zero
sets_append l at (x ∷ xs) ys =
    let e : at + suc (length xs) ≡ suc at + length xs = omega arith in
    rw e (sets_append (set l at x) (suc at) xs ys)
