-- A caller's buffer after a list was stored at its start: the rest of it is unchanged.
-- A reader must believe `overwrite`.
use Rattle.std.specs.Prelude.{◌≡◌, refl, ℕ, ◌≤◌, List, [], ◌++◌, length, drop}
use Rattle.std.proofs.Common.{zero-add, append-nil}
use Rattle.std.proofs.lemmas.List.Edits.{sets, sets-eq}
use Rattle.std.proofs.Math.Seq.{drop-length}

-- The buffer with xs stored at its start.
unfoldable pub overwrite {ℓ} : {A : Type ℓ} → List A → List A → List A
overwrite buffer xs = xs ++ drop (length xs) buffer

-- Storing no numbers changes nothing.
pub overwrite_nil : (buffer : List ℕ) → overwrite buffer [] ≡ buffer
unfolding overwrite
overwrite_nil buffer = refl

-- A list as long as the buffer replaces all of it.
pub overwrite_all : (buffer xs : List ℕ) → length buffer ≡ length xs → overwrite buffer xs ≡ xs
unfolding overwrite
overwrite_all buffer xs e = rw (← e, drop-length buffer) (append-nil xs)

-- Storing the numbers of a list one after another, from offset 0 on, gives `overwrite`.
pub sets_overwrite : (buffer xs : List ℕ) → length xs ≤ length buffer → sets buffer 0 xs ≡ overwrite buffer xs
unfolding overwrite
sets_overwrite buffer xs l = rw zero-add at (sets-eq xs buffer 0 (rw zero-add l))
