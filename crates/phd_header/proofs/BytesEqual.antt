-- Two byte lists are compared one byte at a time. Assumes nothing.
use mathlib.Core.Path.{◌≡◌}
use mathlib.Core.Bool.{false, ◌&&◌}
use mathlib.Core.List.{List}
use Prim.Native.Nat.{ℕ, suc, ◌+◌, ◌-◌, ◌≤◌, ◌<◌}
use native.Mathlib.Omega.{arith}
use lib.ListN.{length, take, drop, get_or}
use lib.Seq.{drop-cons}
use lib.Dec.{eqb}
use borrow.Author.Tests.{eq-eqb, ne_eqb}
use Rattle.decode.specs.Slices.{slice_next}
use Rattle.phd.specs.Phd.{bytes_equal}

-- The n bytes of s at offset `at` are compared with those of t, from byte i on.
module _ (s t : List ℕ) (at n i : ℕ) (h : i < n) (in_bounds : at + n ≤ length s) (long : n ≤ length t) where
  bytes_equal_step : bytes_equal (take (n - i) (drop (at + i) s)) (drop i t)
      ≡ eqb (get_or s (at + i) 0) (get_or t i 0) && bytes_equal (take (n - (i + 1)) (drop (at + (i + 1)) s)) (drop (i + 1) t)
  unfolding bytes_equal
  bytes_equal_step =
      let k : suc i ≡ i + 1 = omega arith in
      let l : i < length t = omega arith in
      rw (slice_next s at n i h in_bounds, drop-cons t i 0 l, k)

  -- If byte i is equal, the result is that of the bytes after it.
  pub bytes_equal_next : get_or s (at + i) 0 ≡ get_or t i 0
      → bytes_equal (take (n - i) (drop (at + i) s)) (drop i t) ≡ bytes_equal (take (n - (i + 1)) (drop (at + (i + 1)) s)) (drop (i + 1) t)
  bytes_equal_next e = rw (bytes_equal_step, eq-eqb _ _ e)

  -- If byte i differs, the lists differ.
  pub bytes_equal_false : (get_or s (at + i) 0 ≡ get_or t i 0 → ⊥) → bytes_equal (take (n - i) (drop (at + i) s)) (drop i t) ≡ false
  bytes_equal_false e = rw (bytes_equal_step, ne_eqb _ _ e)
