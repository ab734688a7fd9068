-- A number read from a field of n bytes fits n bytes: the gap of an address or of a reference, and a count.
-- Assumes nothing.
use Rattle.std.specs.Prelude.{◌≡◌, refl, ℕ, suc, ◌+◌, ◌-◌, ◌*◌, ◌/◌, ◌^◌, ◌≤◌, Bool, true, false, cond, leb, ltb, ℤ, pos, negsuc, Some, None}
use Rattle.std.proofs.Math.Nat.{one-le-pow}
use Rattle.std.proofs.Common.{arith, le-leb, lt-ltb, leb-true, ltb-false}
use Rattle.std.proofs.lemmas.Bool.{lt-leb}
use Rattle.decode.specs.Numbers.{signed, in_range, add_gap}
use Rattle.decode.specs.Values.{in_range_inv, to_count_inv}
use Rattle.decode.specs.Takes.{AddressIn, CountIn}
use Rattle.encode.specs.Encode.{gap, fits}

-- The signed value of n bytes fits n bytes.
pub signed_fits : (n v : ℕ) → fits n (signed n v) ≡ true
unfolding signed fits
signed_fits n v = by (ltb (v + v) (256 ^ n)) refl
  where
    by : (b : Bool) → ltb (v + v) (256 ^ n) ≡ b → fits n (cond b (pos v) (negsuc (256 ^ n - suc v))) ≡ true
    by true e = e
    by false e =
        let o : 1 ≤ 256 ^ n = one-le-pow n 256 (omega arith) in
        let l : 256 ^ n ≤ v + v = ltb-false _ _ e in
        let m : ℕ = 256 ^ n - suc v in
        lt-ltb (m + m) (256 ^ n) (omega arith)

-- If adding a gap to a base gives an address, it is the gap from the base to that address.
pub gap_add_gap : (highest base : ℕ) (g : ℤ) (a : ℕ) → add_gap highest base g ≡ Some a → gap base a ≡ g
unfolding add_gap gap
gap_add_gap highest base (pos n) a h =
    let e : base + 4 * n ≡ a = (in_range_inv highest _ a h).0 in
    let d : (a - base) / 4 ≡ n = omega arith in
    rw (le-leb base a (omega arith), d)
gap_add_gap highest base (negsuc n) a h = by (leb (4 * suc n) base) refl h
  where
    by : (b : Bool) → leb (4 * suc n) base ≡ b → cond b (in_range highest (base - 4 * suc n)) None ≡ Some a
        → cond (leb base a) (pos ((a - base) / 4)) (negsuc ((base - a - 1) / 4)) ≡ negsuc n
    by true k g =
        let l : 4 * suc n ≤ base = leb-true _ _ k in
        let e : base - 4 * suc n ≡ a = (in_range_inv highest _ a g).0 in
        let d : (base - a - 1) / 4 ≡ n = omega arith in
        rw (lt-leb base a (omega arith), d)
    by false k g = let z : ◌≡◌ {A = ℕ} 0 1 = cc in absurd (omega arith)

-- The gap of an address that was read from w bytes fits w bytes.
pub address_gap_fits : (w base highest a : ℕ) → AddressIn w base highest a → fits w (gap base a) ≡ true
address_gap_fits w base highest a x = rw (gap_add_gap highest base (signed w x.number) a x.address_is) (signed_fits w x.number)

-- A count that was read from w bytes fits w bytes.
pub count_fits : (w a : ℕ) → CountIn w a → fits w (pos a) ≡ true
count_fits w a x = rw (← (to_count_inv (signed w x.number) a x.counts).0) (signed_fits w x.number)
