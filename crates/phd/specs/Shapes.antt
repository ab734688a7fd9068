-- Laws of tags and shapes: what a tag of each form is, that a field has at most 8 bytes, and how many bytes a record has.
-- A reader must believe `record_bytes`.
use Rattle.std.specs.Prelude.{◌≡◌, refl, ◌⊎◌, Bool, true, false, cond, ℕ, ◌+◌, ◌*◌, ◌/◌, ◌%◌, ◌≤◌, ◌<◌, leb, ltb, eqb, Some, None}
use Rattle.std.proofs.Common.{subst, inl, inr, mul-le-mul_left, mul-one, arith}
use Rattle.std.proofs.Math.Nat.{pow-le-pow_right, one-le-pow}
use Rattle.decode.specs.Values.{bit_le_one}
use Rattle.table.specs.declared.Row.{Row}
use Rattle.phd.specs.Phd.{bit, tag_form, width, shape, hash_bytes}
use Rattle.phd.specs.declared.Shape.{Shape}
use Rattle.phd.specs.declared.Form.{Form}
use Rattle.phd.specs.declared.Form.TheVariants.{Short, Medium, Long, Class, ObjectArray, Primitive, LongPrimitive}

-- W is 32 or 64.
abbrev pub ValidBits : ℕ → Type 0
ValidBits w = (w ≡ 32) ⊎ (w ≡ 64)

-- W in bytes is not 0.
pub bits_bytes_nonzero : (w : ℕ) → ValidBits w → eqb (w / 8) 0 ≡ false
bits_bytes_nonzero w (inl e) = rw e
bits_bytes_nonzero w (inr e) = rw e

-- Tests that every tag of the form passes (some of those in `tag_form`).
abbrev pub TagMatches : Form → ℕ → Type 0
TagMatches Short t = leb 0x80 t ≡ true
TagMatches Medium t = (leb 0x80 t ≡ false) × (leb 0x40 t ≡ true)
TagMatches Primitive t = (leb 0x80 t ≡ false) × (leb 0x20 t ≡ true)
TagMatches Long t = (leb 0x80 t ≡ false) × (eqb t 4 ≡ true)
TagMatches Class t = (leb 0x80 t ≡ false) × (eqb t 6 ≡ true)
TagMatches LongPrimitive t = (leb 0x80 t ≡ false) × (eqb t 7 ≡ true)
TagMatches ObjectArray t = (leb 0x80 t ≡ false) × (eqb t 8 ≡ true)

-- A tag that begins a form passes the tests of that form.
pub tag_matches : (t : ℕ) (fm : Form) → tag_form t ≡ Some fm → TagMatches fm t
unfolding tag_form
tag_matches t fm e = by _ _ _ _ _ _ _ refl refl refl refl refl refl refl e
  where
    is : {a : Form} → TagMatches a t → Some a ≡ Some fm → TagMatches fm t
    is {a} p d = let z : a ≡ fm = cc in subst (λ (x : Form). TagMatches x t) z p

    by : (a b c d e f g : Bool) → leb 0x80 t ≡ a → leb 0x40 t ≡ b → leb 0x20 t ≡ c → eqb t 4 ≡ d → eqb t 6 ≡ e → eqb t 7 ≡ f → eqb t 8 ≡ g
        → cond a (Some Short) (cond b (Some Medium) (cond c (Some Primitive) (cond d (Some Long) (cond e (Some Class)
        (cond f (Some LongPrimitive) (cond g (Some ObjectArray) None)))))) ≡ Some fm
        → TagMatches fm t
    by true b c d e f g p q r s u v w x = is {a = Short} p x
    by false true c d e f g p q r s u v w x = is {a = Medium} (p, q) x
    by false false true d e f g p q r s u v w x = is {a = Primitive} (p, r) x
    by false false false true e f g p q r s u v w x = is {a = Long} (p, s) x
    by false false false false true f g p q r s u v w x = is {a = Class} (p, u) x
    by false false false false false true g p q r s u v w x = is {a = LongPrimitive} (p, v) x
    by false false false false false false true p q r s u v w x = is {a = ObjectArray} (p, w) x
    by false false false false false false false p q r s u v w x = let z : ◌≡◌ {A = ℕ} 0 1 = cc in absurd (omega arith)

-- Every field that is read as a number has at most 8 bytes.
pub record WidthsLe8 (sh : Shape) : Type 0 where
  pub gap : sh.gap ≤ 8
  pub class : sh.class ≤ 8
  pub len : sh.len ≤ 8
  pub inst : sh.inst ≤ 8
  pub superclass : sh.superclass ≤ 8
  pub name : sh.name ≤ 8
  pub countwidth : sh.countwidth ≤ 8
  pub refwidth : sh.refwidth ≤ 8
  pub size : sh.size ≤ 8
  pub truelen : sh.truelen ≤ 8

-- A greater width code means at least as many bytes.
pub width_mono : (c k : ℕ) → c ≤ k → width c ≤ width k
unfolding width
width_mono c k h = pow-le-pow_right {n = 2} (omega arith) {i = c} {j = k} h

-- The greatest width code, 3, means 8 bytes.
pub width_le_8 : (c : ℕ) → c < 4 → width c ≤ 8
unfolding width
width_le_8 c h = width_mono c 3 (omega arith)

cond_le_8 : (b : Bool) (w : ℕ) → w ≤ 8 → cond b w 1 ≤ 8
cond_le_8 true w h = h
cond_le_8 false w h = omega arith

-- The widths of every shape are at most 8.
pub shape_widths_le_8 : (w : ℕ) (fm : Form) (t f : ℕ) → w ≤ 8 → WidthsLe8 (shape w fm t f)
unfolding shape
shape_widths_le_8 w Short t f h =
    let g : width (t / 0x04 % 2) ≤ 8 = width_le_8 _ (omega arith) in
    let l : width (t % 4) ≤ 8 = width_le_8 _ (omega arith) in
    omega arith
shape_widths_le_8 w Medium t f h =
    let g : width (t / 0x04 % 2) ≤ 8 = width_le_8 _ (omega arith) in
    let l : width (t % 4) ≤ 8 = width_le_8 _ (omega arith) in
    omega arith
shape_widths_le_8 w Long t f h =
    let g : width (f / 0x40 % 4) ≤ 8 = width_le_8 _ (omega arith) in
    let l : width (f / 0x10 % 4) ≤ 8 = width_le_8 _ (omega arith) in
    omega arith
shape_widths_le_8 w Class t f h =
    let g : width (f / 0x40 % 4) ≤ 8 = width_le_8 _ (omega arith) in
    let l : width (f / 0x10 % 4) ≤ 8 = width_le_8 _ (omega arith) in
    omega arith
shape_widths_le_8 w ObjectArray t f h =
    let g : width (f / 0x40 % 4) ≤ 8 = width_le_8 _ (omega arith) in
    let l : width (f / 0x10 % 4) ≤ 8 = width_le_8 _ (omega arith) in
    omega arith
shape_widths_le_8 w Primitive t f h = let g : width (t % 4) ≤ 8 = width_le_8 _ (omega arith) in omega arith
shape_widths_le_8 w LongPrimitive t f h = let g : cond (bit 0x10 f) w 1 ≤ 8 = cond_le_8 (bit 0x10 f) w h in omega arith

-- A reference has at most 8 bytes, whatever W is.
pub ref_width_le_8 : (w : ℕ) (fm : Form) (t f : ℕ) → (shape w fm t f).refwidth ≤ 8
unfolding shape
ref_width_le_8 w Short t f = width_le_8 _ (omega arith)
ref_width_le_8 w Medium t f = width_le_8 _ (omega arith)
ref_width_le_8 w Long t f = width_le_8 _ (omega arith)
ref_width_le_8 w Class t f = width_le_8 _ (omega arith)
ref_width_le_8 w ObjectArray t f = width_le_8 _ (omega arith)
ref_width_le_8 w Primitive t f = omega arith
ref_width_le_8 w LongPrimitive t f = omega arith

hash_cond_le_4 : (a b : Bool) → cond a 4 (cond b 2 0) ≤ 4
hash_cond_le_4 true b = omega arith
hash_cond_le_4 false true = omega arith
hash_cond_le_4 false false = omega arith

-- A hash has at most 4 bytes.
pub hash_bytes_le_4 : (k : ℕ) → hash_bytes k ≤ 4
unfolding hash_bytes
hash_bytes_le_4 k = hash_cond_le_4 (eqb k 2) (eqb k 3)

pub hash_bytes_le_8 : (k : ℕ) → hash_bytes k ≤ 8
hash_bytes_le_8 k = omega (arith, hash_bytes_le_4 k)

-- ---- length of a record in bytes

-- The number of bytes of a record: the tag t, the flag byte if there is one, and the fields of its shape in file order. Of its
-- row only the hash kind, the name length and the reference count matter.
unfoldable pub record_bytes : ℕ → Shape → Row → ℕ
record_bytes t sh r =
    1 + cond (ltb t 0x20) 1 0
    + (sh.gap + sh.class + sh.len)
    + (sh.inst + hash_bytes r.hashkind + sh.superclass)
    + (sh.name + r.namelen)
    + (sh.countwidth + r.count * sh.refwidth)
    + (sh.size + sh.truelen)

-- A width code means at least 1 byte.
width_positive : (c : ℕ) → 1 ≤ width c
unfolding width
width_positive c = one-le-pow c 2 (omega arith)

-- k references of one width take k to 8 * k bytes.
refs_bytes_bounds : (c k : ℕ) → c < 4 → (k ≤ k * width c) × (k * width c ≤ k * 8)
refs_bytes_bounds c k l = (let p = mul-le-mul_left k (width_positive c) in omega (arith, mul-one k), mul-le-mul_left k (width_le_8 c l))

-- A record has at least 2 bytes (tag and gap) and 1 for each reference. (Its count is in a field, or else in the shape.)
pub record_bytes_ge : (w : ℕ) (fm : Form) (t f : ℕ) (r : Row) → ((shape w fm t f).countwidth ≡ 0 → r.count ≡ (shape w fm t f).count)
    → 2 + r.count ≤ record_bytes t (shape w fm t f) r
unfolding shape record_bytes
record_bytes_ge w Short t f r e = omega (arith, width_positive (t / 0x04 % 2), (refs_bytes_bounds (t % 4) r.count (omega arith)).0)
record_bytes_ge w Medium t f r e = omega (arith, width_positive (t / 0x04 % 2), (refs_bytes_bounds (t % 4) r.count (omega arith)).0)
record_bytes_ge w Long t f r e = omega (arith, (refs_bytes_bounds (f / 0x10 % 4) r.count (omega arith)).0)
record_bytes_ge w Class t f r e = omega (arith, (refs_bytes_bounds (f / 0x10 % 4) r.count (omega arith)).0)
record_bytes_ge w ObjectArray t f r e = omega (arith, (refs_bytes_bounds (f / 0x10 % 4) r.count (omega arith)).0)
record_bytes_ge w Primitive t f r e = omega (arith, e refl)
record_bytes_ge w LongPrimitive t f r e = omega (arith, e refl)

-- A record has at most 34 bytes besides its name, and 8 for each reference. An object array with a gap of 8 bytes, W = 64 and a
-- 32-bit hash has that many.
pub record_bytes_le : (w : ℕ) (fm : Form) (t f : ℕ) (r : Row) → w ≤ 8 → record_bytes t (shape w fm t f) r ≤ 34 + r.namelen + r.count * 8
unfolding shape record_bytes
record_bytes_le w fm t f r h = by fm
  where
    flag : cond (ltb t 0x20) 1 0 ≤ 1
    flag = bit_le_one (ltb t 0x20)

    hash : hash_bytes r.hashkind ≤ 4
    hash = hash_bytes_le_4 r.hashkind

    by : (fm : Form) → record_bytes t (shape w fm t f) r ≤ 34 + r.namelen + r.count * 8
    by Short = omega (arith, flag, hash, width_le_8 (t / 0x04 % 2) (omega arith), (refs_bytes_bounds (t % 4) r.count (omega arith)).1)
    by Medium = omega (arith, flag, hash, width_le_8 (t / 0x04 % 2) (omega arith), (refs_bytes_bounds (t % 4) r.count (omega arith)).1)
    by Long = omega (arith, flag, hash, width_le_8 (f / 0x40 % 4) (omega arith), (refs_bytes_bounds (f / 0x10 % 4) r.count (omega arith)).1)
    by Class = omega (arith, flag, hash, width_le_8 (f / 0x40 % 4) (omega arith), (refs_bytes_bounds (f / 0x10 % 4) r.count (omega arith)).1)
    by ObjectArray = omega (arith, flag, hash, width_le_8 (f / 0x40 % 4) (omega arith), (refs_bytes_bounds (f / 0x10 % 4) r.count (omega arith)).1)
    by Primitive = omega (arith, flag, hash, width_le_8 (t % 4) (omega arith))
    by LongPrimitive = omega (arith, flag, hash, cond_le_8 (bit 0x10 f) w h)
