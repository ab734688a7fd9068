-- Slices of a list: the length of one that lies within the list, and its next element, as loops need them.
-- Assumes nothing.
use Rattle.std.specs.Prelude.{◌≡◌, ℕ, suc, ◌+◌, ◌-◌, ◌≤◌, ◌<◌, List, ◌∷◌, length, get_or, take, drop}
use Rattle.std.proofs.Common.{zero-add, arith, length-take, length-drop, drop-cons}

-- A slice of n elements that lies within the list has length n.
pub length_slice : (l : List ℕ) (at n : ℕ) → at + n ≤ length l → length (take n (drop at l)) ≡ n
length_slice l at n h = simp (length-take, length-drop) (omega arith)

-- The slice at k is element k, followed by the slice at k + 1.
pub slice_cons : (l : List ℕ) (k m : ℕ) → k < length l → take (suc m) (drop k l) ≡ get_or l k 0 ∷ take m (drop (suc k) l)
slice_cons l k m h = rw (drop-cons l k 0)

-- Of the n elements at `at`, those from index i on are element i, followed by those from index i + 1 on.
pub slice_next : (l : List ℕ) (at n i : ℕ) → i < n → at + n ≤ length l
    → take (n - i) (drop (at + i) l) ≡ get_or l (at + i) 0 ∷ take (n - (i + 1)) (drop (at + (i + 1)) l)
slice_next l at n i h in_bounds =
    let e : n - i ≡ suc (n - (i + 1)) = omega arith in
    let f : suc (at + i) ≡ at + (i + 1) = omega arith in
    let g : at + i < length l = omega arith in
    rw (e, slice_cons l (at + i) (n - (i + 1)) g, f)

-- The elements from index k up to `end` are element k, followed by those from index k + 1 up to `end`.
pub slice_until : (l : List ℕ) (k end : ℕ) → k < end → end ≤ length l → take (end - k) (drop k l) ≡ get_or l k 0 ∷ take (end - (k + 1)) (drop (k + 1) l)
slice_until l k end h in_bounds = simp zero-add at (slice_next l 0 end k h (simp zero-add in_bounds))
