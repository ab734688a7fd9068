-- An encoded address, reference, count or string is read back by the layout of that name.
-- Assumes nothing.
use Rattle.std.specs.Prelude.{◌≡◌, List, ◌++◌, length, eqb, Some}
use Prim.Native.Nat.{ℕ, suc, ◌+◌, ◌-◌, ◌*◌, ◌/◌, ◌%◌, ◌^◌, ◌≤◌, ◌<◌}
use Rattle.std.proofs.Math.Bool.{true, not}
use Rattle.std.proofs.Common.{arith, le-leb, lt-ltb, ne_eqb}
use Rattle.std.proofs.Math.Decide.{dec_le}
use Rattle.std.proofs.lemmas.Bool.{lt-leb}
use Rattle.decode.specs.Numbers.{value, signed, add_gap, to_count, all_within}
use Rattle.decode.specs.Layout.{position, raw}
use Rattle.decode.specs.Fields.{address, ref_field, count, string}
use Rattle.encode.specs.Encode.{be, gap, twos_complement, fits}
use Rattle.encode.specs.NumberRoundTrip.{length_be, signed_be}
use Rattle.encode.specs.Reads.{Reads, reads_then, reads_end, reads_skip, reads_yield, reads_field_value, reads_field, reads_raw, reads_position, reads_check, reads_need}

-- Adding the gap between two addresses to the first gives the second, if both are multiples of 4.
pub add_gap_gap : (highest a b : ℕ) → a % 4 ≡ 0 → b % 4 ≡ 0 → b ≤ highest → add_gap highest a (gap a b) ≡ Some b
unfolding add_gap gap
add_gap_gap highest a b p q t = elim (dec_le a b) [
  | yes l ↦
      let e : a + 4 * ((b - a) / 4) ≡ b = omega arith in
      rw (le-leb a b l, e, le-leb b highest t)
  | no l ↦
      let k : b < a = omega arith in
      let n : ℕ = (a - b - 1) / 4 in
      let c : 4 * suc n ≤ a = omega arith in
      let e : a - 4 * suc n ≡ b = omega arith in
      rw (lt-leb a b k, le-leb (4 * suc n) a c, e, le-leb b highest t)
]

module _ (p w base highest a : ℕ) (base_aligned : base % 4 ≡ 0) (aligned : a % 4 ≡ 0) (most : a ≤ highest) (some : 1 ≤ w) (wide : w ≤ 8)
    (fit : fits w (gap base a) ≡ true) where
  -- An encoded address is read back.
  pub reads_address : Reads p (address w base highest) (be w (twos_complement (gap base a))) a
  unfolding address
  reads_address =
      let v : ℕ = twos_complement (gap base a) in
      let inverse : add_gap highest base (signed w (value (be w v))) ≡ Some a =
      rw (signed_be w (gap base a) some wide fit) (add_gap_gap highest base a base_aligned aligned most) in
      reads_end p _ _ (be w v) (value (be w v)) a (reads_field_value p w v) (reads_need _ 8 _ a inverse)

  -- An encoded reference is read back, if it is not 0.
  pub reads_ref : 1 ≤ a → Reads p (ref_field w base highest) (be w (twos_complement (gap base a))) a
  unfolding ref_field
  reads_ref h =
      let e : not (eqb a 0) ≡ true = rw (ne_eqb a 0 (omega arith)) in
      reads_end p _ _ _ a a reads_address (reads_skip _ _ _ _ tt a (reads_check _ 9 _ e) (reads_yield _ a))

-- An encoded count is read back.
pub reads_count : (p w v : ℕ) → v < 2 ^ 31 → v + v < 256 ^ w → Reads p (count w) (be w v) v
unfolding count signed to_count
reads_count p w v small fit =
    let l : v < 256 ^ w = omega arith in
    let e : to_count (signed w v) ≡ Some v = rw (lt-ltb (v + v) (256 ^ w) fit, lt-ltb v (2 ^ 31) small) in
    reads_end p _ _ (be w v) v v (reads_field p w v l) (reads_need _ 12 _ v e)

-- An encoded string is read back. Its bytes are at offset p + 2, after its length.
pub reads_string : (p low least : ℕ) (bs : List ℕ) → least ≤ length bs → length bs < 65536 → all_within low 0x7E bs ≡ true
    → Reads p (string low least) (be 2 (length bs) ++ bs) (record { present = true; place = p + 2; len = length bs })
unfolding string
reads_string p low least bs some short seen =
    let n : ℕ = length bs in
    reads_then p _ _ (be 2 n) bs n _ (reads_field p 2 n short)
    (rw (length_be 2 n)
    (reads_skip (p + 2) _ _ bs tt _ (reads_check _ 7 _ (le-leb least n some))
    (reads_skip (p + 2) position _ bs (p + 2) _ (reads_position (p + 2))
    (reads_end (p + 2) (raw n) _ bs bs _ (reads_raw (p + 2) bs)
    (reads_skip _ _ _ _ tt _ (reads_check _ 7 _ seen) (reads_yield _ _))))))
