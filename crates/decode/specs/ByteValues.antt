-- Laws of values read from bytes, each below 256: a field of n bytes is below 256 ^ n, an address stored as a gap from a multiple
-- of 4 is a multiple of 4, and a string lies within the dump.
-- A reader must believe `AllBytes` and `StringAt`.
use Rattle.std.specs.Prelude.{◌≡◌, refl, Bool, true, false, cond, List, leb, length, get_or, take, drop, ℤ, pos, negsuc, Some, None}
use Rattle.std.proofs.Common.{sym, ◌∙◌, leb-true}
use Prim.Native.Nat.{ℕ, zero, suc, ◌+◌, ◌-◌, ◌*◌, ◌%◌, ◌^◌, ◌≤◌, ◌<◌}
use native.Mathlib.Omega.{arith}
use Rattle.decode.specs.Numbers.{value_after, value, signed, in_range, add_gap, to_count, all_within}
use Rattle.decode.specs.Slices.{slice_cons}
use Rattle.decode.specs.Layout.{Layout, yield, whole, run_then, run_enough, run_position, run_raw, whole_has_bytes, then_inv, ◌>>=◌, raw, field, position}
use Rattle.decode.specs.Fields.{address, ref_field, count, string}
use Rattle.decode.specs.Values.{Gives, gives_then, gives_then_any, gives_weaken, gives_yield, gives_check, gives_need, in_range_inv, to_count_lt}
use Rattle.decode.specs.declared.StringSpan.{StringSpan}

-- Every number of the list is a byte.
pub record AllBytes (s : List ℕ) : Type 0 where
  pub each : (i : ℕ) → get_or s i 0 < 256

-- Two properties of every value hold together.
pub gives_and : {A : Type 0} {s : List ℕ} {P Q : A → Type 0} {l : Layout A} → Gives s P l → Gives s Q l → Gives s (λ a. P a × Q a) l
gives_and g k = record { each = λ at a e p h. (g.each at a e p h, k.each at a e p h) }

-- ---- fields

-- One more byte multiplies the value by 256 and adds the byte.
value_after_next : (s : List ℕ) (n v at : ℕ) → at + n < length s
    → value_after v (take (suc n) (drop at s)) ≡ value_after v (take n (drop at s)) * 256 + get_or s (at + n) 0
unfolding value_after
value_after_next s zero v at h =
    let e : at + 0 ≡ at = omega arith in
    let l : at < length s = omega arith in
    rw (slice_cons s at 0 l, e)
value_after_next s (suc n) v at h =
    let e : suc at + n ≡ at + suc n = omega arith in
    let l : at < length s = omega arith in
    rw (slice_cons s at (suc n) l, slice_cons s at n l, ← e) (value_after_next s n (v * 256 + get_or s at 0) (suc at) (omega arith))

module _ (s : List ℕ) (at : ℕ) where
  -- The value of n + 1 bytes is 256 times the value of the first n, plus the last byte.
  pub value_next : (n : ℕ) → at + n < length s → value (take (suc n) (drop at s)) ≡ value (take n (drop at s)) * 256 + get_or s (at + n) 0
  value_next n h = value_after_next s n 0 at h

  -- The value of n bytes is below 256 ^ n.
  pub value_below : AllBytes s → (n : ℕ) → at + n ≤ length s → value (take n (drop at s)) < 256 ^ n
  unfolding value_after
  value_below b zero h = omega arith
  value_below b (suc n) h = omega (arith, value_next n (omega arith), b.each (at + n), value_below b n (omega arith))

-- A field of n bytes is below 256 ^ n.
pub gives_field : {s : List ℕ} → AllBytes s → (n : ℕ) → Gives s (λ v. v < 256 ^ n) (field n)
unfolding field
gives_field {s} b n = record {
  each = λ at v e p h.
      let l : at + n ≤ length s = whole_has_bytes n (λ x. yield (value x)) s at v e h in
      (gives_yield {P = λ x. x < 256 ^ n} (value (take n (drop at s))) (value_below s at b n l)).each (at + n) v e l (rw (run_enough n (λ x. yield (value x)) s at l) at h);
}

-- ---- counts

-- A count of no bytes is 0.
to_count_empty : (v a : ℕ) → v < 1 → to_count (signed 0 v) ≡ Some a → a ≡ 0
unfolding to_count signed
to_count_empty v a l h = let z : v ≡ 0 = omega arith in let e : Some 0 ≡ Some a = rw z at h in cc

-- A count is below 2^31, and 0 if it has no bytes.
pub gives_count_bounds : {s : List ℕ} → AllBytes s → (n : ℕ) → Gives s (λ a. (a < 2 ^ 31) × (n ≡ 0 → a ≡ 0)) (count n)
unfolding count
gives_count_bounds b n = gives_then _ _ _ (gives_field b n) (λ v k. gives_weaken (gives_need 12 _) (λ a e.
    (to_count_lt (signed n v) a e, λ z. to_count_empty v a (rw z at k) (rw z at e))))

-- ---- alignment of addresses and references

-- A gap from a multiple of 4 leads to a multiple of 4.
pub add_gap_aligned : (highest base : ℕ) (gap : ℤ) (a : ℕ) → base % 4 ≡ 0 → add_gap highest base gap ≡ Some a → a % 4 ≡ 0
unfolding add_gap
add_gap_aligned highest base (pos n) a z h = omega (arith, (in_range_inv highest (base + 4 * n) a h).0)
add_gap_aligned highest base (negsuc n) a z h = by (leb (4 * suc n) base) refl h
  where
    by : (b : Bool) → leb (4 * suc n) base ≡ b → cond b (in_range highest (base - 4 * suc n)) None ≡ Some a → a % 4 ≡ 0
    by true e g = let l : 4 * suc n ≤ base = leb-true _ _ e in omega (arith, (in_range_inv highest (base - 4 * suc n) a g).0)
    by false e g = let x : ◌≡◌ {A = ℕ} 0 1 = cc in absurd (omega arith)

-- An address stored as a gap from a multiple of 4 is a multiple of 4.
pub gives_address_aligned : {s : List ℕ} (n base highest : ℕ) → base % 4 ≡ 0 → Gives s (λ a. a % 4 ≡ 0) (address n base highest)
unfolding address
gives_address_aligned n base highest z = gives_then_any _ _ (λ gap. gives_weaken (gives_need 8 _) (λ a e. add_gap_aligned highest base (signed n gap) a z e))

-- A reference of a record at a multiple of 4 is a multiple of 4.
pub gives_ref_aligned : {s : List ℕ} (n base highest : ℕ) → base % 4 ≡ 0 → Gives s (λ a. a % 4 ≡ 0) (ref_field n base highest)
unfolding ref_field
gives_ref_aligned n base highest z = gives_then _ _ _ (gives_address_aligned n base highest z) (λ r f. gives_then_any _ _ (λ _. gives_yield r f))

-- ---- strings

-- The string t is present and lies within the dump s; it has at least `least` and at most 65,535 bytes, each from low to 0x7E.
pub record StringAt (s : List ℕ) (low least : ℕ) (t : StringSpan) : Type 0 where
  pub is_present : t.present ≡ true
  pub enough : least ≤ t.len
  pub short : t.len < 65536
  pub inside : t.place + t.len ≤ length s
  pub bytes : all_within low 0x7E (take t.len (drop t.place s)) ≡ true

-- If P holds for the values of f for every offset p and the n bytes at p, it holds for `position`, `raw n` and f in sequence.
gives_slice : {A : Type 0} {s : List ℕ} {P : A → Type 0} (n : ℕ) (f : ℕ → List ℕ → Layout A)
    → ((p : ℕ) → p + n ≤ length s → Gives s P (f p (take n (drop p s)))) → Gives s P (position >>= λ p. raw n >>= λ b. f p b)
unfolding raw
gives_slice {A} {s} {P} n f g = record {
  each = λ at a e l h.
      let x = then_inv (raw n) (f at) s at a e (rw (run_then, run_position) at h) in
      let r : at + n ≤ length s = whole_has_bytes n (λ b. yield b) s at x.0 x.1 x.2 in
      let y : whole (take n (drop at s)) (at + n) ≡ whole x.0 x.1 = sym (run_raw n s at r) ∙ x.2 in
      let b : x.0 ≡ take n (drop at s) = cc in
      let m : x.1 ≡ at + n = cc in
      (g at r).each (at + n) a e r (rw (b, m) at x.3);
}

-- A string that was read satisfies `StringAt`.
pub gives_string : {s : List ℕ} → AllBytes s → (low least : ℕ) → Gives s (StringAt s low least) (string low least)
unfolding string
gives_string b low least =
    gives_then _ _ _ (gives_field b 2) (λ n k. gives_then _ _ _ (gives_check 7 _) (λ _ e. gives_slice n _ (λ p r. gives_then _ _ _ (gives_check 7 _) (λ _ f.
    gives_yield _ (record { is_present = refl; enough = leb-true least n e; short = omega arith; inside = r; bytes = f })))))
