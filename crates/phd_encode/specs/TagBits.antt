-- The bit fields of each tag and flag byte: decoded, they give back the widths and counts of the form, and the hash kind.
-- Assumes nothing.
use Rattle.std.specs.Prelude.{◌≡◌, refl, ℕ, zero, suc, ◌+◌, ◌*◌, ◌/◌, ◌%◌, ◌≤◌, ◌<◌, Bool, true, false, cond, ◌&&◌, ◌||◌, get_or, ltb, eqb, Some, None}
use Rattle.std.proofs.Common.{sym, lit<, arith, eqb-true, eq-eqb, ne_eqb}
use Rattle.decode.specs.Values.{cond_elim, and_left, and_right, true_not_false}
use Rattle.phd.specs.Phd.{bit, slot, moved_bit, hashed_bit}
use Rattle.phd.specs.declared.cache.Cache.{Cache}
use Rattle.phd_plan.specs.FormChoice.{slot_holds, find_slot, hash_flags, class_flags}

-- ---- hash bits

-- The moved and hashed bits of a record decode to its hash kind k; `all` is whether the dump is all-hashed.
pub record HashBits (all : Bool) (k : ℕ) (moved hashed : Bool) : Type 0 where
  pub bits_clear : all && (moved || hashed) ≡ false
  pub kind : cond all 3 (cond moved 2 (cond hashed 1 0)) ≡ k

-- Hash kind 3 exactly in all-hashed dumps.
pub record HashKindValid (all : Bool) (k : ℕ) : Type 0 where
  pub all_hashed : all ≡ true → k ≡ 3
  pub not_all_hashed : all ≡ false → k < 3

-- The bit of value m is set in x if x / m is odd, and clear if it is even.
bit_set : (m x : ℕ) → x / m % 2 ≡ 1 → bit m x ≡ true
unfolding bit
bit_set m x e = rw e

bit_clear : (m x : ℕ) → x / m % 2 ≡ 0 → bit m x ≡ false
unfolding bit
bit_clear m x e = rw e

-- Hash kinds 0 and 3 have both bits clear.
no_hash_bits : (all : Bool) (k : ℕ) → HashKindValid all k → eqb k 1 || eqb k 2 ≡ false → HashBits all k false false
no_hash_bits true k a n = record { bits_clear = refl; kind = sym (a.all_hashed refl) }
no_hash_bits false zero a n = record { bits_clear = refl; kind = refl }
no_hash_bits false (suc zero) a n = absurd (true_not_false n)
no_hash_bits false (suc (suc zero)) a n = absurd (true_not_false n)
no_hash_bits false (suc (suc (suc k))) a n = absurd (omega (arith, a.not_all_hashed refl))

-- A record without a flag byte decodes to its hash kind, which is 0 or 3.
pub no_flag_byte_bits : (all : Bool) (k t : ℕ) → HashKindValid all k → eqb k 1 || eqb k 2 ≡ false → 0x20 ≤ t
    → HashBits all k (moved_bit t 0) (hashed_bit t 0)
unfolding moved_bit hashed_bit bit
no_flag_byte_bits all k t a n l = rw (ne_eqb t 6 (omega arith)) (no_hash_bits all k a n)

-- A flag byte of 16 q plus the hash bits 0x02 and 0x01 decodes to the hash kind.
pub hash_flag_bits : (all : Bool) (k q f : ℕ) → HashKindValid all k → f ≡ 16 * q + hash_flags k → HashBits all k (bit 0x02 f) (bit 0x01 f)
unfolding hash_flags
hash_flag_bits true k q f a e = three k (a.all_hashed refl) e
  where
    three : (k : ℕ) → k ≡ 3 → f ≡ 16 * q + hash_flags k → HashBits true k (bit 0x02 f) (bit 0x01 f)
    three k p e' =
        let z : f ≡ 16 * q + 0 = rw p at e' in
        rw (bit_clear 2 f (omega arith), bit_clear 1 f (omega arith)) (record { bits_clear = refl; kind = sym p })
hash_flag_bits false zero q f a e = rw (bit_clear 2 f (omega arith), bit_clear 1 f (omega arith)) (record { bits_clear = refl; kind = refl })
hash_flag_bits false (suc zero) q f a e = rw (bit_clear 2 f (omega arith), bit_set 1 f (omega arith)) (record { bits_clear = refl; kind = refl })
hash_flag_bits false (suc (suc zero)) q f a e = rw (bit_set 2 f (omega arith), bit_set 1 f (omega arith)) (record { bits_clear = refl; kind = refl })
hash_flag_bits false (suc (suc (suc k))) q f a e = absurd (omega (arith, a.not_all_hashed refl))

-- The flag byte of a class, whose only hash bit is 0x08, decodes to its hash kind, which is not 1.
pub class_flag_bits : (all : Bool) (k q f : ℕ) → HashKindValid all k → (k ≡ 1 → ⊥) → f ≡ 16 * q + class_flags k → HashBits all k (bit 0x08 f) false
unfolding class_flags
class_flag_bits true k q f a n e = three k (a.all_hashed refl) e
  where
    three : (k : ℕ) → k ≡ 3 → f ≡ 16 * q + class_flags k → HashBits true k (bit 0x08 f) false
    three k p e' =
        let z : f ≡ 16 * q + 0 = rw p at e' in
        rw (bit_clear 8 f (omega arith)) (record { bits_clear = refl; kind = sym p })
class_flag_bits false zero q f a n e = rw (bit_clear 8 f (omega arith)) (record { bits_clear = refl; kind = refl })
class_flag_bits false (suc zero) q f a n e = absurd (n refl)
class_flag_bits false (suc (suc zero)) q f a n e = rw (bit_set 8 f (omega arith)) (record { bits_clear = refl; kind = refl })
class_flag_bits false (suc (suc (suc k))) q f a n e = absurd (omega (arith, a.not_all_hashed refl))

-- The hash bits are in the low four bits of the flag byte.
pub hash_flags_lt : (k : ℕ) → hash_flags k < 16
unfolding hash_flags
hash_flags_lt k = by (eqb k 2) (eqb k 1)
  where
    by : (a b : Bool) → cond a 3 (cond b 1 0) < 16
    by true b = lit< tt
    by false true = lit< tt
    by false false = lit< tt

-- So is the hash bit of a class.
pub class_flags_lt : (k : ℕ) → class_flags k < 16
unfolding class_flags
class_flags_lt k = by (eqb k 2)
  where
    by : (a : Bool) → cond a 8 0 < 16
    by true = lit< tt
    by false = lit< tt

-- ---- bit fields of tags and flag bytes

-- The tag of a short object is 0x80 to 0xFF and gives back the slot s, the count n, and the width codes g and c of gap and
-- references.
pub short_tag : (s n g c : ℕ) → s < 4 → n ≤ 3 → g < 2 → c < 4 → let t = 0x80 + 0x20 * s + 0x08 * n + 0x04 * g + c in
    (t < 256) × (0x80 ≤ t) × (t / 0x20 % 4 ≡ s) × (t / 0x08 % 4 ≡ n) × (t / 0x04 % 2 ≡ g) × (t % 4 ≡ c)
short_tag s n g c p q u v = omega arith

-- The tag of a medium object is 0x40 to 0x7F and gives back the count n, and the width codes g and c of gap and references.
pub medium_tag : (n g c : ℕ) → n ≤ 7 → g < 2 → c < 4 → let t = 0x40 + 0x08 * n + 0x04 * g + c in
    (t < 0x80) × (0x40 ≤ t) × (t / 0x08 % 8 ≡ n) × (t / 0x04 % 2 ≡ g) × (t % 4 ≡ c)
medium_tag n g c q u v = omega arith

-- The tag of a primitive array is 0x20 to 0x3F and gives back the type y and the width code c.
pub primitive_tag : (y c : ℕ) → y < 8 → c < 4 → let t = 0x20 + 0x04 * y + c in
    (t < 0x40) × (0x20 ≤ t) × (t / 0x04 % 8 ≡ y) × (t % 4 ≡ c)
primitive_tag y c q u = omega arith

-- The flag byte of a long object, object array or class gives back the width codes g and c of gap and references; b is the hash
-- bits.
pub long_flags : (g c b : ℕ) → g < 4 → c < 4 → b < 16 → let f = 0x40 * g + 0x10 * c + b in
    (f < 256) × (f / 0x40 % 4 ≡ g) × (f / 0x10 % 4 ≡ c) × (f ≡ 16 * (4 * g + c) + b)
long_flags g c b p q u = omega arith

-- The flag byte of a long primitive array gives back the type y and the bit w for words; b is the hash bits.
pub long_primitive_flags : (y w b : ℕ) → y < 8 → w < 2 → b < 16 → let f = 0x20 * y + 0x10 * w + b in
    (f < 256) × (f / 0x20 % 8 ≡ y) × (f / 0x10 % 2 ≡ w) × (f ≡ 16 * (2 * y + w) + b)
long_primitive_flags y w b p q u = omega arith

-- ---- class cache

-- i is at most 4, and if it is a slot, below 4, that slot holds the class word w.
abbrev SlotFound : Cache → ℕ → ℕ → Type 0
SlotFound c w i = (i ≤ 4) × (i < 4 → slot c i ≡ Some w)

-- A step of the search keeps `SlotFound`.
slot_found_step : (c : Cache) (w i n : ℕ) → i ≤ 4 → SlotFound c w n → SlotFound c w (cond (slot_holds c w i) i n)
unfolding slot slot_holds
slot_found_step c w i n l g = by (slot_holds c w i) refl
  where
    by : (b : Bool) → slot_holds c w i ≡ b → SlotFound c w (cond b i n)
    by true e =
        let x : Bool = ltb i c.pushes in
        let y : Bool = eqb (get_or c.classes i 0) w in
        (l, λ m. rw (and_left x y e, eqb-true (get_or c.classes i 0) w (and_right x y e)))
    by false e = g

-- The result of `find_slot` satisfies `SlotFound`.
slot_found_any : (c : Cache) (w : ℕ) → SlotFound c w (find_slot c w)
unfolding find_slot
slot_found_any c w =
    let z : SlotFound c w 4 = (omega arith, λ l. absurd (omega arith)) in
    slot_found_step c w 0 _ (omega arith) (slot_found_step c w 1 _ (omega arith) (slot_found_step c w 2 _ (omega arith) (slot_found_step c w 3 4 (omega arith) z)))

-- `find_slot` gives at most 4; 4 means that no slot holds the class word.
pub find_slot_le : (c : Cache) (w : ℕ) → find_slot c w ≤ 4
find_slot_le c w = (slot_found_any c w).0

-- A slot that `find_slot` gives holds the class word.
pub find_slot_holds : (c : Cache) (w : ℕ) → find_slot c w < 4 → slot c (find_slot c w) ≡ Some w
find_slot_holds c w = (slot_found_any c w).1

-- A filled slot that holds the class word passes the test `slot_holds`.
slot_holds_of : (c : Cache) (w i : ℕ) → slot c i ≡ Some w → slot_holds c w i ≡ true
unfolding slot slot_holds
slot_holds_of c w i h = by (ltb i c.pushes) h
  where
    by : (b : Bool) → cond b (Some (get_or c.classes i 0)) None ≡ Some w → b && eqb (get_or c.classes i 0) w ≡ true
    by true g = let z : get_or c.classes i 0 ≡ w = cc in eq-eqb _ _ z
    by false g = let z : ◌≡◌ {A = ℕ} 0 1 = cc in absurd (omega arith)

-- If any slot holds the class word, `find_slot` gives a slot.
pub find_slot_complete : (c : Cache) (w i : ℕ) → i < 4 → slot c i ≡ Some w → find_slot c w < 4
unfolding find_slot
find_slot_complete c w i l h = by i l (slot_holds_of c w i h)
  where
    x₀ : Bool
    x₀ = slot_holds c w 0

    x₁ : Bool
    x₁ = slot_holds c w 1

    x₂ : Bool
    x₂ = slot_holds c w 2

    less : (b : Bool) (x y : ℕ) → x < 4 → y < 4 → cond b x y < 4
    less b x y p q = cond_elim (λ v. v < 4) b x y p q

    by : (i : ℕ) → i < 4 → slot_holds c w i ≡ true → cond x₀ 0 (cond x₁ 1 (cond x₂ 2 (cond (slot_holds c w 3) 3 4))) < 4
    by zero l e = rw e (lit< tt)
    by (suc zero) l e = rw e (less x₀ 0 1 (lit< tt) (lit< tt))
    by (suc (suc zero)) l e = rw e (less x₀ 0 (cond x₁ 1 2) (lit< tt) (less x₁ 1 2 (lit< tt) (lit< tt)))
    by (suc (suc (suc zero))) l e =
        rw e (less x₀ 0 (cond x₁ 1 (cond x₂ 2 3)) (lit< tt) (less x₁ 1 (cond x₂ 2 3) (lit< tt) (less x₂ 2 3 (lit< tt) (lit< tt))))
    by (suc (suc (suc (suc i)))) l e = absurd (omega arith)
