-- How many bytes a layout takes for the value that it gives, derived from its parts: a law for each way to build a layout and for
-- each kind of field. A reader must believe `Takes`, `AddressIn` and `CountIn`.
use Rattle.std.specs.Prelude.{◌≡◌, refl, ℕ, ◌+◌, ◌-◌, ◌≤◌, Bool, true, false, cond, List, [], ◌∷◌, length, take, drop, Option, Some, None}
use Rattle.std.proofs.Common.{subst, ◌∙◌, add-zero, arith, leb-true}
use Rattle.decode.specs.Numbers.{value, value_after, signed, add_gap, to_count}
use Rattle.decode.specs.Slices.{length_slice}
use Rattle.decode.specs.Layout.{Layout, yield, refuse, bytes, whole, stops, run, ◌>>=◌, position, raw, field, check, need, run_yield, run_refuse, run_position, run_enough, whole_has_bytes, then_inv, start_le_end}
use Rattle.decode.specs.Fields.{exactly, below, address, ref_field, count, string}
use Rattle.decode.specs.declared.Stop.TheVariants.{Refused}
use Rattle.decode.specs.declared.StringSpan.{StringSpan}

-- P holds for every value that the layout gives, at any offset of any dump, and the number of bytes that it takes there.
pub record Takes {A : Type 0} (P : A → ℕ → Type 0) (l : Layout A) : Type 0 where
  pub each : (s : List ℕ) (at : ℕ) (a : A) (e : ℕ) → run l s at ≡ whole a e → (n : ℕ) × (e ≡ at + n) × P a n

-- ---- basic layouts and sequences

-- `yield` takes no bytes.
pub takes_yield : {A : Type 0} {P : A → ℕ → Type 0} (a : A) → P a 0 → Takes P (yield a)
takes_yield {A} {P} a p = record { each = λ s at b e h. (0, end at b e (rw run_yield at h), subst (λ b. P b 0) (given at b e (rw run_yield at h)) p) }
  where
    given : (at : ℕ) (b : A) (e : ℕ) → whole a at ≡ whole b e → a ≡ b
    given at b e h = cc

    end : (at : ℕ) (b : A) (e : ℕ) → whole a at ≡ whole b e → e ≡ at + 0
    end at b e h = let z : at ≡ e = cc in omega arith

-- `refuse` gives no value, so every P holds.
pub takes_refuse : {A : Type 0} {P : A → ℕ → Type 0} (r : ℕ) → Takes P (refuse r)
takes_refuse {A} {P} r = record { each = λ s at b e h. absurd (never b e (rw run_refuse at h)) }
  where
    never : (b : A) (e : ℕ) → stops (Refused r) ≡ whole b e → ⊥
    never b e h = let z : ◌≡◌ {A = ℕ} 0 1 = cc in omega arith

-- A sequence takes the bytes of both layouts; the second may use what holds for the first.
pub takes_then : {A B : Type 0} (Q : A → ℕ → Type 0) {P : B → ℕ → Type 0} (l : Layout A) (f : A → Layout B)
    → Takes Q l → ((a : A) (n : ℕ) → Q a n → Takes (λ b m. P b (n + m)) (f a)) → Takes P (l >>= f)
takes_then Q {P} l f g k = record {
  each = λ s at b e h.
      let w = then_inv l f s at b e h in
      let x = g.each s at w.0 w.1 w.2 in
      let y = (k w.0 x.0 x.2).each s w.1 b e w.3 in
      (x.0 + y.0, omega (arith, x.1, y.1), y.2);
}

-- A sequence takes the bytes of both layouts, here with nothing known about the first.
pub takes_then_any : {A B : Type 0} {P : B → ℕ → Type 0} (l : Layout A) (f : A → Layout B) → ((a : A) (n : ℕ) → Takes (λ b m. P b (n + m)) (f a)) → Takes P (l >>= f)
takes_then_any l f k =
    takes_then (λ _ _. Unit {0}) l f (record { each = λ s at a e h. (e - at, omega (arith, start_le_end l s at a e h), tt) }) (λ a n _. k a n)

-- The property may be weakened.
pub takes_weaken : {A : Type 0} {Q P : A → ℕ → Type 0} {l : Layout A} → Takes Q l → ((a : A) (n : ℕ) → Q a n → P a n) → Takes P l
takes_weaken g w = record { each = λ s at a e h. let x = g.each s at a e h in (x.0, x.1, w a x.0 x.2) }

-- A choice between two layouts satisfies P if each does in its case.
pub takes_cases : {A : Type 0} {P : A → ℕ → Type 0} (b : Bool) (l m : Layout A) → (b ≡ true → Takes P l) → (b ≡ false → Takes P m) → Takes P (cond b l m)
takes_cases true l m f g = f refl
takes_cases false l m f g = g refl

takes_bytes : {A : Type 0} {P : A → ℕ → Type 0} (n : ℕ) (k : List ℕ → A) → ((b : List ℕ) → length b ≡ n → P (k b) n) → Takes P (bytes n (λ b. yield (k b)))
takes_bytes {A} {P} n k g = record {
  each = λ s at a e h.
      let l : at + n ≤ length s = whole_has_bytes n (λ b. yield (k b)) s at a e h in
      let x = (takes_yield {P = λ b m. P b (n + m)} (k (take n (drop at s))) (rw (add-zero n) (g (take n (drop at s)) (length_slice s at n l)))
      ).each s (at + n) a e (rw (run_enough n (λ b. yield (k b)) s at l) at h) in
      (n + x.0, omega (arith, x.1), x.2);
}

-- `raw w` takes w bytes and gives them all.
pub takes_raw : (w : ℕ) → Takes (λ b n. (n ≡ w) × (length b ≡ w)) (raw w)
unfolding raw
takes_raw w = takes_bytes w (λ b. b) (λ b l. (refl, l))

-- A field of w bytes takes w bytes; a field of no bytes is 0.
pub takes_field : (w : ℕ) → Takes (λ v n. (n ≡ w) × (w ≡ 0 → v ≡ 0)) (field w)
unfolding field value_after
takes_field w = takes_bytes w value (λ b l. (refl, λ z. none b (l ∙ z)))
  where
    none : (b : List ℕ) → length b ≡ 0 → value b ≡ 0
    none [] e = refl
    none (x ∷ b) e = absurd (omega arith)

-- `position` takes no bytes.
pub takes_position : Takes (λ _ n. n ≡ 0) position
takes_position = record { each = λ s at a e h. (0, end s at a e (rw run_position at h), refl) }
  where
    end : (s : List ℕ) (at a e : ℕ) → whole at at ≡ whole a e → e ≡ at + 0
    end s at a e h = let z : at ≡ e = cc in omega arith

-- `check` takes no bytes, and its test holds if reading continues.
pub takes_check : (r : ℕ) (b : Bool) → Takes (λ _ n. (n ≡ 0) × (b ≡ true)) (check r b)
unfolding check
takes_check r true = takes_yield tt (refl, refl)
takes_check r false = takes_refuse r

-- `need` takes no bytes, and its value is the one required.
pub takes_need : (r : ℕ) (m : Option ℕ) → Takes (λ a n. (n ≡ 0) × (m ≡ Some a)) (need r m)
unfolding need
takes_need r (Some a) = takes_yield a (refl, refl)
takes_need r None = takes_refuse r

-- ---- kinds of field

-- A field that must be v takes its w bytes.
pub takes_exactly : (w v r : ℕ) → Takes (λ _ n. n ≡ w) (exactly w v r)
unfolding exactly
takes_exactly w v r =
    takes_then _ _ _ (takes_field w) (λ x n e. takes_then _ _ _ (takes_check r _) (λ _ n₁ e₁. takes_yield x (omega (arith, e.0, e₁.0))))

-- A field that must be below a bound takes its w bytes.
pub takes_below : (w top r : ℕ) → Takes (λ _ n. n ≡ w) (below w top r)
unfolding below
takes_below w top r =
    takes_then _ _ _ (takes_field w) (λ x n e. takes_then _ _ _ (takes_check r _) (λ _ n₁ e₁. takes_yield x (omega (arith, e.0, e₁.0))))

-- a is base + 4 × a signed number of w bytes, and in 0 to highest: how addresses and references are stored.
pub record AddressIn (w base highest a : ℕ) : Type 0 where
  pub number : ℕ
  pub address_is : add_gap highest base (signed w number) ≡ Some a

-- An address takes its w bytes and satisfies `AddressIn`.
pub takes_address : (w base highest : ℕ) → Takes (λ a n. (n ≡ w) × AddressIn w base highest a) (address w base highest)
unfolding address
takes_address w base highest =
    takes_then _ _ _ (takes_field w) (λ v n e. takes_weaken (takes_need 8 _) (λ a m k.
    (omega (arith, e.0, k.0), record { number = v; address_is = k.1 })))

-- A reference takes its w bytes and satisfies `AddressIn`.
pub takes_ref : (w base highest : ℕ) → Takes (λ a n. (n ≡ w) × AddressIn w base highest a) (ref_field w base highest)
unfolding ref_field
takes_ref w base highest =
    takes_then _ _ _ (takes_address w base highest) (λ a n e. takes_then _ _ _ (takes_check 9 _) (λ _ m k.
    takes_yield a (omega (arith, e.0, k.0), e.1)))

-- a is a valid count, stored as a signed number of w bytes.
pub record CountIn (w a : ℕ) : Type 0 where
  pub number : ℕ
  pub counts : to_count (signed w number) ≡ Some a

-- A count takes its w bytes and satisfies `CountIn`.
pub takes_count : (w : ℕ) → Takes (λ a n. (n ≡ w) × CountIn w a) (count w)
unfolding count
takes_count w =
    takes_then _ _ _ (takes_field w) (λ v n e. takes_weaken (takes_need 12 _) (λ a m k.
    (omega (arith, e.0, k.0), record { number = v; counts = k.1 })))

-- A string takes two bytes for its length, and the bytes that it counts, at least `least`.
pub takes_string : (low least : ℕ) → Takes (λ (t : StringSpan) n. (n ≡ 2 + t.len) × (least ≤ t.len)) (string low least)
unfolding string
takes_string low least =
    takes_then _ _ _ (takes_field 2) (λ v n e. takes_then _ _ _ (takes_check 7 _) (λ _ n₁ e₁.
    takes_then _ _ _ takes_position (λ p n₂ e₂. takes_then _ _ _ (takes_raw v) (λ b n₃ e₃.
    takes_then _ _ _ (takes_check 7 _) (λ _ n₄ e₄. takes_yield _ (omega (arith, e.0, e₁.0, e₂, e₃.0, e₄.0), leb-true least v e₁.1))))))
