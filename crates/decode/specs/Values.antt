-- Properties of every value that a layout gives, and of every reply that it refuses with, derived from its parts.
-- Assumes nothing.
use Rattle.std.specs.Prelude.{◌≡◌, refl, ℕ, suc, ◌+◌, ◌-◌, ◌*◌, ◌^◌, ◌≤◌, ◌<◌, Bool, true, false, cond, ◌&&◌, List, length, take, drop, leb, ltb, ℤ, pos, negsuc, Option, Some, None}
use Rattle.std.proofs.Common.{sym, ap, subst, ◌∙◌, arith, leb-true, ltb-true}
use Rattle.std.proofs.Math.Decide.{dec_le}
use Rattle.std.proofs.lemmas.Bool.{eqb-false, not-true}
use Rattle.decode.specs.Numbers.{value, signed, in_range, add_gap, to_count}
use Rattle.decode.specs.Layout.{Layout, yield, refuse, bytes, Outcome, whole, stops, run, run_enough, run_short, run_then, then_inv, and_then, run_yield, run_refuse, run_position, end_in_bounds, ◌>>=◌, position, raw, field, check, need}
use Rattle.decode.specs.Fields.{exactly, below, address, ref_field, count, string}
use Rattle.decode.specs.declared.Stop.TheVariants.{Cut, Refused}

-- ---- tests

-- A property of both branches holds for the choice between them.
pub cond_elim {ℓ} : {X : Type ℓ} (P : X → Type 0) (b : Bool) (x y : X) → P x → P y → P (cond b x y)
cond_elim P true x y p q = p
cond_elim P false x y p q = q

-- `true` and `false` differ.
pub true_not_false : true ≡ false → ⊥
true_not_false e = let z : ◌≡◌ {A = ℕ} 0 1 = cc in omega arith

-- A statement about a test holds if it holds in both cases.
pub by_cases : (P : Bool → Type 0) (b : Bool) → (b ≡ true → P true) → (b ≡ false → P false) → P b
by_cases P true p q = p refl
by_cases P false p q = q refl

-- If a conjunction holds, so do its two parts.
pub and_left : (a b : Bool) → a && b ≡ true → a ≡ true
and_left true b e = refl
and_left false b e = e

pub and_right : (a b : Bool) → a && b ≡ true → b ≡ true
and_right true b e = e
and_right false b e = absurd (true_not_false (sym e))

-- A bit, 1 or 0 by a test, is at most 1.
pub bit_le_one : (b : Bool) → cond b 1 0 ≤ 1
bit_le_one true = omega arith
bit_le_one false = omega arith

-- ---- values given

-- P holds for every value that the layout gives at an offset within the dump s. P may depend on s.
pub record Gives {A : Type 0} (s : List ℕ) (P : A → Type 0) (l : Layout A) : Type 0 where
  pub each : (at : ℕ) (a : A) (e : ℕ) → at ≤ length s → run l s at ≡ whole a e → P a

-- `yield a` gives a and nothing else.
pub gives_yield : {A : Type 0} {s : List ℕ} {P : A → Type 0} (a : A) → P a → Gives s P (yield a)
gives_yield {A} {s} {P} a p = record { each = λ at b e l h. subst P (given at b e (rw run_yield at h)) p }
  where
    given : (at : ℕ) (b : A) (e : ℕ) → whole a at ≡ whole b e → a ≡ b
    given at b e h = cc

-- `refuse` gives no value, so every P holds.
pub gives_refuse : {A : Type 0} {s : List ℕ} {P : A → Type 0} (r : ℕ) → Gives s P (refuse r)
gives_refuse {A} {s} {P} r = record { each = λ at b e l h. absurd (never at b e (rw run_refuse at h)) }
  where
    never : (at : ℕ) (b : A) (e : ℕ) → stops (Refused r) ≡ whole b e → ⊥
    never at b e h = let z : ◌≡◌ {A = ℕ} 0 1 = cc in omega arith

-- In a sequence, the second layout may use what holds for the first one's value.
pub gives_then : {A B : Type 0} {s : List ℕ} (Q : A → Type 0) {P : B → Type 0} (l : Layout A) (f : A → Layout B)
    → Gives s Q l → ((a : A) → Q a → Gives s P (f a)) → Gives s P (l >>= f)
gives_then {A} {B} {s} Q {P} l f g k = record {
  each = λ at b e p h.
      let w = then_inv l f s at b e h in
      (k w.0 (g.each at w.0 w.1 p w.2)).each w.1 b e (end_in_bounds l s at w.0 w.1 p w.2) w.3;
}

-- A sequence satisfies P if the second layout does for every value of the first.
pub gives_then_any : {A B : Type 0} {s : List ℕ} {P : B → Type 0} (l : Layout A) (f : A → Layout B) → ((a : A) → Gives s P (f a)) → Gives s P (l >>= f)
gives_then_any l f k = gives_then (λ _. Unit {0}) l f (record { each = λ at a e p h. tt }) (λ a _. k a)

-- The property may be weakened.
pub gives_weaken : {A : Type 0} {s : List ℕ} {Q P : A → Type 0} {l : Layout A} → Gives s Q l → ((a : A) → Q a → P a) → Gives s P l
gives_weaken g w = record { each = λ at a e p h. w a (g.each at a e p h) }

-- A choice between two layouts satisfies P if both do.
pub gives_cond : {A : Type 0} {s : List ℕ} {P : A → Type 0} (b : Bool) (l m : Layout A) → Gives s P l → Gives s P m → Gives s P (cond b l m)
gives_cond {A} {s} {P} b l m g k = cond_elim (Gives s P) b l m g k

-- A choice between two layouts satisfies P if each does in its case.
pub gives_cases : {A : Type 0} {s : List ℕ} {P : A → Type 0} (b : Bool) (l m : Layout A) → (b ≡ true → Gives s P l) → (b ≡ false → Gives s P m) → Gives s P (cond b l m)
gives_cases true l m f g = f refl
gives_cases false l m f g = g refl

-- If reading continues after `check`, its test holds.
pub gives_check : {s : List ℕ} (r : ℕ) (b : Bool) → Gives s (λ _. b ≡ true) (check r b)
unfolding check
gives_check r true = gives_yield tt refl
gives_check r false = gives_refuse r

-- The value of `need` is the one required.
pub gives_need : {s : List ℕ} (r : ℕ) (m : Option ℕ) → Gives s (λ a. m ≡ Some a) (need r m)
unfolding need
gives_need r (Some a) = gives_yield a refl
gives_need r None = gives_refuse r

-- ---- replies of basic layouts

-- P holds for every reply that the layout refuses with.
pub record Refuses {A : Type 0} (P : ℕ → Type 0) (l : Layout A) : Type 0 where
  pub each : (s : List ℕ) (at r : ℕ) → run l s at ≡ stops (Refused r) → P r

-- `yield` refuses nothing.
pub refuses_yield : {A : Type 0} {P : ℕ → Type 0} (a : A) → Refuses P (yield a)
refuses_yield {A} a = record { each = λ s at r h. absurd (never at r (rw run_yield at h)) }
  where
    never : (at r : ℕ) → whole a at ≡ stops (Refused r) → ⊥
    never at r h = let z : ◌≡◌ {A = ℕ} 0 1 = cc in omega arith

-- `refuse r` refuses with r only.
pub refuses_refuse : {A : Type 0} {P : ℕ → Type 0} (r : ℕ) → P r → Refuses {A = A} P (refuse r)
refuses_refuse {A} {P} r p = record { each = λ s at x h. subst P (same_reply x (rw run_refuse at h)) p }
  where
    same_reply : (x : ℕ) → ◌≡◌ {A = Outcome A} (stops (Refused r)) (stops (Refused x)) → r ≡ x
    same_reply x h = cc

-- A sequence refuses with the replies of its two layouts.
pub refuses_then : {A B : Type 0} {P : ℕ → Type 0} (l : Layout A) (f : A → Layout B) → Refuses P l → ((a : A) → Refuses P (f a)) → Refuses P (l >>= f)
refuses_then {A} {B} {P} l f g k = record { each = λ s at r h. by s at r (run l s at) refl (sym (run_then l f s at) ∙ h) }
  where
    by : (s : List ℕ) (at r : ℕ) (o : Outcome A) → run l s at ≡ o → and_then (run l s at) (λ a p. run (f a) s p) ≡ stops (Refused r) → P r
    by s at r (whole a n) e h = (k a).each s n r (rw e at h)
    by s at r (stops w) e h =
        let q : stops w ≡ stops (Refused r) = rw e at h in
        let z : w ≡ Refused r = cc in
        g.each s at r (rw z at e)

-- Reading bytes and giving a value of them refuses nothing.
refuses_bytes : {A : Type 0} {P : ℕ → Type 0} (n : ℕ) (k : List ℕ → A) → Refuses P (bytes n (λ b. yield (k b)))
refuses_bytes {A} {P} n k = record {
  each = λ s at r h. elim (dec_le (at + n) (length s)) [ yes l ↦ enough s at r l h | no l ↦ absurd (short s at r (omega arith) h) ];
}
  where
    enough : (s : List ℕ) (at r : ℕ) → at + n ≤ length s → run (bytes n (λ b. yield (k b))) s at ≡ stops (Refused r) → P r
    enough s at r l h = (refuses_yield {P = P} (k (take n (drop at s)))).each s (at + n) r (rw (run_enough n (λ b. yield (k b)) s at l) at h)

    short : (s : List ℕ) (at r : ℕ) → length s < at + n → run (bytes n (λ b. yield (k b))) s at ≡ stops (Refused r) → ⊥
    short s at r l h =
        let c : stops (Cut (at + n - length s)) ≡ stops (Refused r) = rw (run_short n (λ b. yield (k b)) s at l) at h in
        let z : ◌≡◌ {A = ℕ} 0 1 = cc in
        omega arith

-- A field by itself refuses nothing.
pub refuses_field : {P : ℕ → Type 0} (n : ℕ) → Refuses P (field n)
unfolding field
refuses_field n = refuses_bytes n value

-- `raw` refuses nothing.
pub refuses_raw : {P : ℕ → Type 0} (n : ℕ) → Refuses P (raw n)
unfolding raw
refuses_raw n = refuses_bytes n (λ b. b)

-- `position` refuses nothing.
pub refuses_position : {P : ℕ → Type 0} → Refuses P position
refuses_position {P} = record { each = λ s at r h. absurd (never at r (rw run_position at h)) }
  where
    never : (at r : ℕ) → whole at at ≡ stops (Refused r) → ⊥
    never at r h = let z : ◌≡◌ {A = ℕ} 0 1 = cc in omega arith

-- A choice between two layouts refuses with the replies of both.
pub refuses_cond : {A : Type 0} {P : ℕ → Type 0} (b : Bool) (l m : Layout A) → Refuses P l → Refuses P m → Refuses P (cond b l m)
refuses_cond {A} {P} b l m g k = cond_elim (Refuses P) b l m g k

-- `check` refuses with its reply only.
pub refuses_check : {P : ℕ → Type 0} (r : ℕ) (b : Bool) → P r → Refuses P (check r b)
unfolding check
refuses_check r true p = refuses_yield tt
refuses_check r false p = refuses_refuse r p

-- `need` refuses with its reply only, and only if there is no value.
pub refuses_need_nothing : {P : ℕ → Type 0} (r : ℕ) (m : Option ℕ) → (m ≡ None → P r) → Refuses P (need r m)
unfolding need
refuses_need_nothing r (Some a) p = refuses_yield a
refuses_need_nothing r None p = refuses_refuse r (p refl)

-- `need` refuses with its reply only.
pub refuses_need : {P : ℕ → Type 0} (r : ℕ) (m : Option ℕ) → P r → Refuses P (need r m)
refuses_need r m p = refuses_need_nothing r m (λ _. p)

-- ---- range of addresses and references

-- If `in_range` gives a, then a is the sum and at most highest.
pub in_range_inv : (highest sum a : ℕ) → in_range highest sum ≡ Some a → (sum ≡ a) × (a ≤ highest)
in_range_inv highest sum a h = by (leb sum highest) refl h
  where
    by : (b : Bool) → leb sum highest ≡ b → cond b (Some sum) None ≡ Some a → (sum ≡ a) × (a ≤ highest)
    by true e g = let l : sum ≤ highest = leb-true _ _ e in let z : sum ≡ a = cc in (z, omega arith)
    by false e g = let z : ◌≡◌ {A = ℕ} 0 1 = cc in absurd (omega arith)

-- If `add_gap` gives an address, it is at most highest.
pub add_gap_le : (highest base : ℕ) (gap : ℤ) (a : ℕ) → add_gap highest base gap ≡ Some a → a ≤ highest
unfolding add_gap
add_gap_le highest base (pos n) a h = (in_range_inv highest (base + 4 * n) a h).1
add_gap_le highest base (negsuc n) a h = by (leb (4 * suc n) base) h
  where
    by : (b : Bool) → cond b (in_range highest (base - 4 * suc n)) None ≡ Some a → a ≤ highest
    by true g = (in_range_inv highest (base - 4 * suc n) a g).1
    by false g = let z : ◌≡◌ {A = ℕ} 0 1 = cc in absurd (omega arith)

-- An address that was read is at most highest.
pub gives_address : {s : List ℕ} (n base highest : ℕ) → Gives s (λ a. a ≤ highest) (address n base highest)
unfolding address
gives_address n base highest = gives_then_any _ _ (λ gap. gives_weaken (gives_need 8 _) (λ a e. add_gap_le highest base (signed n gap) a e))

-- A reference that was read is from 1 to highest.
pub gives_ref : {s : List ℕ} (n base highest : ℕ) → Gives s (λ r. (1 ≤ r) × (r ≤ highest)) (ref_field n base highest)
unfolding ref_field
gives_ref n base highest =
    gives_then _ _ _ (gives_address n base highest) (λ r l. gives_then _ _ _ (gives_check 9 _) (λ _ e.
    gives_yield r (let z : r ≡ 0 → ⊥ = eqb-false r 0 (not-true _ e) in omega arith, l)))

-- ---- range of counts

-- If `to_count` gives a count, it is the signed number itself, and below 2^31.
pub to_count_inv : (z : ℤ) (n : ℕ) → to_count z ≡ Some n → (z ≡ pos n) × (n < 2 ^ 31)
unfolding to_count
to_count_inv (pos m) n h = by (ltb m (2 ^ 31)) refl h
  where
    by : (b : Bool) → ltb m (2 ^ 31) ≡ b → cond b (Some m) None ≡ Some n → (pos m ≡ pos n) × (n < 2 ^ 31)
    by true e g = let l : m < 2 ^ 31 = ltb-true _ _ e in let z : m ≡ n = cc in (ap pos z, omega arith)
    by false e g = let z : ◌≡◌ {A = ℕ} 0 1 = cc in absurd (omega arith)
to_count_inv (negsuc m) n h = let z : ◌≡◌ {A = ℕ} 0 1 = cc in absurd (omega arith)

-- A valid count is below 2^31.
pub to_count_lt : (z : ℤ) (n : ℕ) → to_count z ≡ Some n → n < 2 ^ 31
to_count_lt z n h = (to_count_inv z n h).1

-- A count that was read is below 2^31.
pub gives_count : {s : List ℕ} (n : ℕ) → Gives s (λ c. c < 2 ^ 31) (count n)
unfolding count
gives_count n = gives_then_any _ _ (λ c. gives_weaken (gives_need 12 _) (λ a e. to_count_lt (signed n c) a e))

-- ---- replies of the kinds of field

-- A field that must be v refuses with its reply only.
pub refuses_exactly : {P : ℕ → Type 0} (n v r : ℕ) → P r → Refuses P (exactly n v r)
unfolding exactly
refuses_exactly n v r p = refuses_then _ _ (refuses_field n) (λ x. refuses_then _ _ (refuses_check r _ p) (λ _. refuses_yield x))

-- A field that must be below a bound refuses with its reply only.
pub refuses_below : {P : ℕ → Type 0} (n top r : ℕ) → P r → Refuses P (below n top r)
unfolding below
refuses_below n top r p = refuses_then _ _ (refuses_field n) (λ x. refuses_then _ _ (refuses_check r _ p) (λ _. refuses_yield x))

-- An address refuses with 8 only.
pub refuses_address : {P : ℕ → Type 0} (n base highest : ℕ) → P 8 → Refuses P (address n base highest)
unfolding address
refuses_address n base highest p = refuses_then _ _ (refuses_field n) (λ gap. refuses_need 8 _ p)

-- A reference refuses with 8 or 9 only.
pub refuses_ref : {P : ℕ → Type 0} (n base highest : ℕ) → P 8 → P 9 → Refuses P (ref_field n base highest)
unfolding ref_field
refuses_ref n base highest p q =
    refuses_then _ _ (refuses_address n base highest p) (λ r. refuses_then _ _ (refuses_check 9 _ q) (λ _. refuses_yield r))

-- A count refuses with 12 only.
pub refuses_count : {P : ℕ → Type 0} (n : ℕ) → P 12 → Refuses P (count n)
unfolding count
refuses_count n p = refuses_then _ _ (refuses_field n) (λ c. refuses_need 12 _ p)

-- A string refuses with 7 only.
pub refuses_string : {P : ℕ → Type 0} (low least : ℕ) → P 7 → Refuses P (string low least)
unfolding string
refuses_string low least p =
    refuses_then _ _ (refuses_field 2) (λ n. refuses_then _ _ (refuses_check 7 _ p) (λ _. refuses_then _ _ refuses_position (λ at.
    refuses_then _ _ (refuses_raw n) (λ text. refuses_then _ _ (refuses_check 7 _ p) (λ _. refuses_yield _)))))
