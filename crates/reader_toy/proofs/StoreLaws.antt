-- Storing the bytes that are left is storing the first of them and then the others.
-- Assumes nothing.
use mathlib.Core.Path.{◌≡◌}
use mathlib.Core.List.{List}
use Prim.Native.Nat.{ℕ, suc, ◌+◌, ◌-◌, ◌≤◌, ◌<◌}
use native.Mathlib.Omega.{arith}
use lib.ListN.{length, get_or, take, drop, set}
use lib.Seq.{sets}
use Rattle.decode.specs.Slices.{slice_next}

pub sets_slice_next : (refs s : List ℕ) (from n to i : ℕ) → i < n → from + n ≤ length s
    → sets refs (to + i) (take (n - i) (drop (from + i) s))
    ≡ sets (set refs (to + i) (get_or s (from + i) 0)) (to + (i + 1)) (take (n - (i + 1)) (drop (from + (i + 1)) s))
sets_slice_next refs s from n to i h l =
    let g : suc (to + i) ≡ to + (i + 1) = omega arith in
    rw (slice_next s from n i h l, ← g)
