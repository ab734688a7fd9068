-- When the references of a record need no range check: its address is so far from 0 and from the highest address that every value
-- of w bytes gives a valid reference. `target` is proved to be what the layout `ref_field` reads. Assumes nothing.
use Rattle.std.specs.Prelude.{◌≡◌, refl, Bool, true, cond, ◌&&◌, List, leb, ltb, length, take, drop, Some}
use Prim.Native.Nat.{ℕ, zero, suc, ◌+◌, ◌-◌, ◌*◌, ◌^◌, ◌≤◌, ◌<◌}
use Rattle.std.proofs.Math.Nat.{pow-le-pow_right}
use Rattle.std.proofs.Math.Decide.{dec_lt}
use native.Mathlib.Omega.{arith}
use borrow.Author.Tests.{lt-ltb, le-ltb, le-leb, ne_eqb, ltb-true, leb-true}
use Rattle.decode.specs.Numbers.{value_after, value, signed, add_gap}
use Rattle.decode.specs.Layout.{whole, run, run_then, run_field, run_need, run_check, run_yield}
use Rattle.decode.specs.Fields.{address, ref_field}
use Rattle.decode.specs.Values.{and_left, and_right}

-- The reach of w bytes: how far a gap of w bytes moves an address at most, 4 times half of 256 ^ w.
unfoldable pub gap_reach : ℕ → ℕ
gap_reach w = 2 * 256 ^ w

-- The address a is farther than the reach of w bytes from 0 and from top, and w is at most 4.
unfoldable pub refs_in_range : ℕ → ℕ → ℕ → Bool
refs_in_range w a top = leb w 4 && (ltb (gap_reach w) a && ltb (a + gap_reach w) top)

-- The address that the w-byte unsigned value v refers to: a + 4 × v, with v as a signed number.
unfoldable pub target : ℕ → ℕ → ℕ → ℕ
target w a v = cond (ltb (v + v) (256 ^ w)) (a + 4 * v) (a - 4 * suc (256 ^ w - suc v))

-- ---- parts of the test

refs_in_range_parts : (w a top : ℕ) → refs_in_range w a top ≡ true → (leb w 4 ≡ true) × (ltb (gap_reach w) a ≡ true) × (ltb (a + gap_reach w) top ≡ true)
unfolding refs_in_range
refs_in_range_parts w a top c =
    let x : Bool = leb w 4 in
    let y : Bool = ltb (gap_reach w) a in
    let z : Bool = ltb (a + gap_reach w) top in
    (and_left x (y && z) c, and_left y z (and_right x (y && z) c), and_right y z (and_right x (y && z) c))

pub refs_in_range_width : (w a top : ℕ) → refs_in_range w a top ≡ true → w ≤ 4
refs_in_range_width w a top c = leb-true w 4 (refs_in_range_parts w a top c).0

pub refs_in_range_low : (w a top : ℕ) → refs_in_range w a top ≡ true → gap_reach w < a
refs_in_range_low w a top c = ltb-true (gap_reach w) a (refs_in_range_parts w a top c).1

pub refs_in_range_high : (w a top : ℕ) → refs_in_range w a top ≡ true → a + gap_reach w < top
refs_in_range_high w a top c = ltb-true (a + gap_reach w) top (refs_in_range_parts w a top c).2

-- ---- reading of a reference

-- The target of every value is in range and not 0. (`some`: a negative value has at least one byte.)
module _ (w a top v : ℕ) (low : gap_reach w < a) (high : a + gap_reach w < top) (some : 256 ^ w ≤ v + v → 2 ≤ 256 ^ w) where
  add_gap_target : (add_gap top a (signed w v) ≡ Some (target w a v)) × (1 ≤ target w a v)
  unfolding add_gap signed target gap_reach
  add_gap_target = elim (dec_lt (v + v) (256 ^ w)) [
    | yes e ↦ rw (lt-ltb (v + v) (256 ^ w) e, le-leb (a + 4 * v) top (omega arith)) (refl, omega arith)
    | no e ↦
        let h : 256 ^ w ≤ v + v = omega arith in
        let b : 2 ≤ 256 ^ w = some h in
        rw (le-ltb (v + v) (256 ^ w) h, le-leb (4 * suc (256 ^ w - suc v)) a (omega arith), le-leb (a - 4 * suc (256 ^ w - suc v)) top (omega arith))
        (refl, omega arith)
  ]

-- A negative value has at least one byte.
negative_has_bytes : (w : ℕ) (s : List ℕ) → 256 ^ w ≤ value (take w s) + value (take w s) → 2 ≤ 256 ^ w
unfolding value_after
negative_has_bytes zero s h = omega arith
negative_has_bytes (suc w) s h = omega (arith, pow-le-pow_right {n = 256} (omega arith) {i = 1} {j = suc w} (omega arith))

-- If the test holds and the bytes are present, reading the reference gives its target.
pub run_ref_in_range : (w a top : ℕ) (s : List ℕ) (at : ℕ) → refs_in_range w a top ≡ true → at + w ≤ length s
    → run (ref_field w a top) s at ≡ whole (target w a (value (take w (drop at s)))) (at + w)
unfolding ref_field address
run_ref_in_range w a top s at c h =
    let l : (add_gap top a (signed w (value (take w (drop at s)))) ≡ Some (target w a (value (take w (drop at s)))))
    × (1 ≤ target w a (value (take w (drop at s))))
    = add_gap_target w a top (value (take w (drop at s))) (refs_in_range_low w a top c) (refs_in_range_high w a top c) (negative_has_bytes w (drop at s)) in
    rw (
      run_then,
      run_then,
      run_field w s at h,
      run_need,
      l.0,
      run_then,
      run_check,
      ne_eqb (target w a (value (take w (drop at s)))) 0 (omega arith),
      run_yield,
    )
