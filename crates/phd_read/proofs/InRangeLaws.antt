-- If a record's address is so far from 0 and from the highest address that no reference can leave the range, all its references
-- are valid, and each is its `target`.
use mathlib.Core.Path.{◌≡◌, ap, ◌∙◌}
use mathlib.Core.Bool.{Bool, true, ◌&&◌, and-eq-true_iff}
use mathlib.Core.List.{List, ◌∷◌}
use Prim.Native.Nat.{ℕ, zero, suc, ◌+◌, ◌-◌, ◌*◌, ◌≤◌, ◌<◌}
use native.Mathlib.Nat.{suc-mul, mul-le-mul}
use native.Mathlib.Omega.{arith}
use lib.Dec.{leb, ltb}
use lib.ListN.{length, take, drop}
use borrow.Author.Tests.{leb-true, ltb-true}
use Rattle.decode.specs.Numbers.{value}
use Rattle.decode.specs.Layout.{Outcome, whole, stops, run}
use Rattle.decode_fast.specs.RefsInRange.{refs_in_range, target}
use Rattle.phd.specs.Phd.{ref_list}
use Rattle.phd.specs.RefList.{prepend, ref_list_none, ref_list_next}
use Rattle.phd_read.specs.StoredRefs.{RefsAllRead, values_of, values_next}
use Rattle.decode_fast.specs.RefsInRange.{run_ref_in_range}

-- The tests of the fast path as inequalities.
pub fast_path_tests : (w count : ℕ) (b : Bool) → leb 1 w && ltb count 0x10000000 && b ≡ true → (1 ≤ w) × (count < 0x10000000) × (b ≡ true)
fast_path_tests w count b e =
    let h = (and-eq-true_iff (leb 1 w && ltb count 0x10000000) b).0 e in
    let l = (and-eq-true_iff (leb 1 w) (ltb count 0x10000000)).0 h.0 in
    (leb-true _ _ l.0, ltb-true _ _ l.1, h.1)

-- Fewer than 2^28 fields of at most 8 bytes have at most 2^31 bytes.
pub refs_bytes_le : (w count : ℕ) → w ≤ 8 → count < 0x10000000 → count * w ≤ 0x80000000
refs_bytes_le w count h l = let m : count ≤ 0x10000000 = omega arith in mul-le-mul m h

-- The bytes of n fields are those of n - 1 fields and of one.
pub mul_pred : (n w : ℕ) → 0 < n → n * w ≡ (n - 1) * w + w
mul_pred n w h = let e : n ≡ suc (n - 1) = omega arith in ap (λ (k : ℕ). k * w) e ∙ suc-mul (n - 1) w

prepend_all_read : (a : ℕ) (o : Outcome (List ℕ)) → RefsAllRead o → RefsAllRead (prepend a o)
prepend_all_read a (whole rs n) h = tt
prepend_all_read a (stops x) h = absurd h

module _ (w base top : ℕ) (s : List ℕ) (is : refs_in_range w base top ≡ true) where
  -- All references that lie within the dump are valid.
  pub in_range_all_read : (n at : ℕ) → at + n * w ≤ length s → RefsAllRead (run (ref_list w base top n) s at)
  in_range_all_read zero at h = rw (ref_list_none w base top s at) tt
  in_range_all_read (suc n) at h =
      let m : suc n * w ≡ n * w + w = suc-mul n w in
      let e : at + w ≤ length s = omega arith in
      let f : at + w + n * w ≤ length s = omega arith in
      let l : 0 < suc n = omega arith in
      let d : suc n - 1 ≡ n = omega arith in
      rw (ref_list_next w base top s (suc n) at l, run_ref_in_range w base top s at is e, d)
      (prepend_all_read (target w base (value (take w (drop at s)))) (run (ref_list w base top n) s (at + w)) (in_range_all_read n (at + w) f))

  -- The first value is the target of the first reference, and the others follow.
  pub in_range_next : (n at : ℕ) → 0 < n → at + n * w ≤ length s
      → values_of (run (ref_list w base top n) s at)
      ≡ target w base (value (take w (drop at s))) ∷ values_of (run (ref_list w base top (n - 1)) s (at + w))
  in_range_next n at l h =
      let m : n * w ≡ (n - 1) * w + w = mul_pred n w l in
      let e : at + w ≤ length s = omega arith in
      (values_next w base top s at n l (in_range_all_read n at h) _ _ (run_ref_in_range w base top s at is e)).1
