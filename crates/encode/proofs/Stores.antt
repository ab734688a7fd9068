-- Storing bytes at an offset, and the bytes of a number as the library makes them.
use Rattle.std.proofs.Common.{◌≡◌, ℕ, zero, suc, ◌+◌, ◌-◌, ◌/◌, ◌%◌, ◌^◌, ◌≤◌, ◌<◌, List, [], ◌∷◌, ◌++◌, length, take, drop, replicate, refl, ap, sym, arith, append_assoc, mul_comm, pow-suc, add-one}
use Rattle.std.proofs.Math.Nat.{div-div-eq-div-mul}
use Rattle.std.proofs.lemmas.Grind.{replicate_next}
use Rattle.std.proofs.lemmas.List.Edits.{sets, sets-eq}
use Rattle.std.proofs.Math.Seq.{drop-drop, take-length}
use Rattle.std.specs.Int.{bytes_high_first, byte_at}
use borrow.Rule.Slice.PartMut.{put_mid}
use Rattle.std.proofs.Math.ListN.{length-replicate}
use Rattle.decode.specs.Slices.{length_slice}
use Rattle.encode.specs.Encode.{be}
use Rattle.encode.specs.SetsLaws.{sets_append}
use Rattle.encode.specs.NumberRoundTrip.{length_be, be_split}

-- Replacing a part of a list by as many elements stores them.
pub put_mid_sets : (xs ys : List ℕ) (i k : ℕ) → i + length ys ≤ length xs → k ≡ length ys → put_mid i k xs ys ≡ sets xs i ys
put_mid_sets xs ys i k h e = rw (sets-eq ys xs i h, e, drop-drop) (sym (append_assoc (take i xs) ys (drop (i + length ys) xs)))

byte_next : (m v : ℕ) → byte_at (suc m) v ≡ byte_at m (v / 256)
byte_next zero v = refl
byte_next (suc m) v = ap (λ (q : ℕ). q % 256) (rw (div-div-eq-div-mul v 256 (256 ^ suc m), mul_comm 256 (256 ^ suc m), ← pow-suc 256 (suc m)))

high_first_last : (n v : ℕ) → bytes_high_first (suc n) v ≡ bytes_high_first n (v / 256) ++ (v % 256 ∷ [])
high_first_last zero v = refl
high_first_last (suc n) v = rw (byte_next n v) (ap (λ (bs : List ℕ). byte_at n (v / 256) ∷ bs) (high_first_last n v))

-- The bytes of a number are those that the library makes.
pub be_high_first : (n v : ℕ) → be n v ≡ bytes_high_first n v
unfolding be
be_high_first zero v = refl
be_high_first (suc n) v = rw (be_high_first n (v / 256)) (sym (high_first_last n v))

high_first_drop : (k n m v : ℕ) → k ≡ m + n → drop m (bytes_high_first k v) ≡ be n v
high_first_drop k n zero v e = rw (be_high_first n v) (ap (λ (i : ℕ). bytes_high_first i v) (omega arith))
high_first_drop zero n (suc m) v e = absurd (omega arith)
high_first_drop (suc k) n (suc m) v e = high_first_drop k n m v (omega arith)

-- The lowest n bytes of a number are the last n of its eight.
pub be_last : (n v : ℕ) (bs : List ℕ) → n ≤ 8 → bs ≡ bytes_high_first 8 v → take (8 - (8 - n)) (drop (8 - n) bs) ≡ be n v
be_last n v bs h b =
    let e : 8 - (8 - n) ≡ length (be n v) = rw (length_be n v) (omega arith) in
    rw (b, high_first_drop 8 n (8 - n) v (omega arith), e, take-length)
