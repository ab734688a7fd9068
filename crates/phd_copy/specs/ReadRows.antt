-- The row of a record that was read from bytes satisfies the bounds of its shape (`RowBounds`). GoodForms derives the writer's
-- checks from them.
-- Assumes nothing.
use Rattle.std.specs.Prelude.{◌≡◌, refl, Bool, true, false, cond, leb, ltb, eqb, length, get_or, set, Some, None}
use Rattle.std.proofs.Common.{sym, ◌∙◌, arith, get_or-set_same, get_or-set_other, eq-eqb}
use Rattle.std.proofs.Math.Path.{ap}
use Prim.Native.Nat.{ℕ, zero, suc, ◌/◌, ◌%◌, ◌^◌, ◌≤◌, ◌<◌}
use Rattle.std.proofs.Math.Decide.{dec_lt, ℕ_discrete}
use mathlib.Core.List.{List, [], ◌∷◌}
use Rattle.std.proofs.Math.Seq.{set_out}
use Rattle.decode.specs.Fields.{no_string}
use Rattle.decode.specs.Values.{Gives, gives_yield, gives_then, gives_then_any, gives_weaken, gives_cases, gives_count, gives_address, gives_ref, true_not_false}
use Rattle.decode.specs.ByteValues.{AllBytes, StringAt, gives_and, gives_field, gives_count_bounds, gives_address_aligned, gives_ref_aligned, gives_string}
use Rattle.decode.specs.declared.StringSpan.{StringSpan}
use Rattle.table.specs.Rows.{row_at}
use Rattle.table.specs.declared.Row.{Row}
use Rattle.phd.specs.Phd.{max_address, initial_context, empty_cache, push, slot, slot_class, hash_bytes, front, middle, class_name, ref_count, ref_list, SpannedRefs, spanned_refs, tail, field_or, row, RecordContext, Item, end_item, item, from_ref_count, fields}
use Rattle.phd.specs.declared.cache.Cache.{Cache}
use Rattle.phd.specs.declared.Header.{Header}
use Rattle.phd.specs.declared.Front.{Front}
use Rattle.phd.specs.declared.Middle.{Middle}
use Rattle.phd.specs.declared.Origin.{Origin}
use Rattle.phd.specs.declared.Shape.{Shape}
use Rattle.phd.specs.declared.Tail.{Tail}
use Rattle.phd_check.specs.WellFormed.{GoodRefs}
use Rattle.phd_read.specs.LengthBounds.{AtLeastCount, gives_true_length}

-- The context between records is good: the address of the record before is a multiple of 4, and the class words in the cache lie
-- in 0 to 2^W - 1.
pub record GoodContext (h : Header) (k : RecordContext) : Type 0 where
  pub aligned : k.address % 4 ≡ 0
  pub classes : (i : ℕ) → get_or k.cache.classes i 0 ≤ max_address h.bits

-- The context before the first record is good.
pub good_context_start : (h : Header) → GoodContext h initial_context
unfolding empty_cache
good_context_start h = record { aligned = refl; classes = none }
  where
    none : (i : ℕ) → get_or (0 ∷ 0 ∷ 0 ∷ 0 ∷ []) i 0 ≤ max_address h.bits
    none zero = omega arith
    none (suc zero) = omega arith
    none (suc (suc zero)) = omega arith
    none (suc (suc (suc zero))) = omega arith
    none (suc (suc (suc (suc i)))) = omega arith

-- If all numbers of a list are at most `top`, they still are after one of them is set to such a number.
set_le : (l : List ℕ) (j a top : ℕ) → ((i : ℕ) → get_or l i 0 ≤ top) → a ≤ top → (i : ℕ) → get_or (set l j a) i 0 ≤ top
set_le l j a top m k i = elim (ℕ_discrete i j) [
  | yes e ↦ elim (dec_lt j (length l)) [
    | yes b ↦ rw (e, get_or-set_same l j a 0 b) k
    | no b ↦ rw (set_out l j a (omega arith)) (m i)
  ]
  | no e ↦ rw (get_or-set_other l j i a 0 e) (m i)
]

-- If all class words in the cache are at most `top`, they still are after one such word is pushed, or none.
pub push_le : (c : Cache) (b : Bool) (w top : ℕ) → ((i : ℕ) → get_or c.classes i 0 ≤ top) → w ≤ top → (i : ℕ) → get_or (cond b (push c w) c).classes i 0 ≤ top
unfolding push
push_le c true w top m k = set_le c.classes (c.pushes % 4) w top m k
push_le c false w top m k = m

-- Then the class word of a short object, from its slot, is at most `top` too.
pub known_le : (c : Cache) (t known top : ℕ) → ((i : ℕ) → get_or c.classes i 0 ≤ top) → slot_class c t ≡ Some known → known ≤ top
unfolding slot_class slot
known_le c t known top m e = by (leb 0x80 t) (ltb (t / 0x20 % 4) c.pushes) e
  where
    by : (x y : Bool) → cond x (cond y (Some (get_or c.classes (t / 0x20 % 4) 0)) None) (Some 0) ≡ Some known → known ≤ top
    by true true e = let z : get_or c.classes (t / 0x20 % 4) 0 ≡ known = cc in omega (arith, m (t / 0x20 % 4))
    by true false e = let z : ◌≡◌ {A = ℕ} 0 1 = cc in absurd (omega arith)
    by false y e = let z : 0 ≡ known = cc in omega arith

-- ---- the parts of a record

-- The address, the class word and the array length, within the widths of the shape.
record FrontBounds (top : ℕ) (sh : Shape) (v : Front) : Type 0 where
  pub aligned : v.address % 4 ≡ 0
  pub most : v.address ≤ top
  pub class : v.class < 256 ^ sh.class
  pub len : (v.len < 2 ^ 31) × (sh.len ≡ 0 → v.len ≡ 0)

-- The instance size, the hash of hb bytes and the superclass word.
record MiddleBounds (sh : Shape) (hb : ℕ) (m : Middle) : Type 0 where
  pub inst : m.inst < 2 ^ 31
  pub hash : m.hash < 256 ^ hb
  pub superclass : m.superclass < 256 ^ sh.superclass

-- A good name, if its length has a field (of n bytes); otherwise none.
pub record NameBounds (s : List ℕ) (n : ℕ) (t : StringSpan) : Type 0 where
  pub none : n ≡ 0 → (t.place ≡ 0) × (t.len ≡ 0)
  pub some : eqb n 0 ≡ false → StringAt s 0x21 1 t

-- A count in a field of n bytes; if there is no such field, the count known from the tag.
pub record CountBounds (n known v : ℕ) : Type 0 where
  pub fixed : n ≡ 0 → v ≡ known
  pub countwidth : eqb n 0 ≡ false → v < 2 ^ 31

-- n references, each of them good.
pub record RefsBounds (top n : ℕ) (rs : List ℕ) : Type 0 where
  pub many : length rs ≡ n
  pub good : GoodRefs top rs

-- The size and the true length, of an array with n references.
record TailBounds (wide truelen n : ℕ) (t : Tail) : Type 0 where
  pub size : t.size < 256 ^ wide
  pub long : AtLeastCount truelen n t.truelen

module _ {s : List ℕ} (b : AllBytes s) where
  gives_front : (top before : ℕ) (sh : Shape) → before % 4 ≡ 0 → Gives s (FrontBounds top sh) (front top before sh)
  unfolding front
  gives_front top before sh z =
      gives_then _ _ _ (gives_and (gives_address_aligned sh.gap before top z) (gives_address sh.gap before top)) (λ a k.
      gives_then _ _ _ (gives_field b sh.class) (λ class l. gives_then _ _ _ (gives_count_bounds b sh.len) (λ len m.
      gives_yield _ (record { aligned = k.0; most = k.1; class = l; len = m }))))

  gives_middle : (sh : Shape) (hb : ℕ) → Gives s (MiddleBounds sh hb) (middle sh hb)
  unfolding middle
  gives_middle sh hb =
      gives_then _ _ _ (gives_count sh.inst) (λ inst k. gives_then _ _ _ (gives_field b hb) (λ hash l.
      gives_then _ _ _ (gives_field b sh.superclass) (λ superclass m. gives_yield _ (record { inst = k; hash = l; superclass = m }))))

  gives_name : (n : ℕ) → Gives s (NameBounds s n) (class_name n)
  unfolding class_name
  gives_name n =
      gives_cases (eqb n 0) _ _ (λ e. gives_yield no_string (record { none = λ _. (refl, refl); some = λ f. absurd (true_not_false (sym e ∙ f)) }))
      (λ e. gives_weaken (gives_string b 0x21 1) (λ t k. record { none = λ z. absurd (true_not_false (sym (eq-eqb n 0 z) ∙ e)); some = λ _. k }))

  gives_ref_count : (n known : ℕ) → Gives s (CountBounds n known) (ref_count n known)
  unfolding ref_count
  gives_ref_count n known =
      gives_cases (eqb n 0) _ _ (λ e. gives_yield known (record { fixed = λ _. refl; countwidth = λ f. absurd (true_not_false (sym e ∙ f)) }))
      (λ e. gives_weaken (gives_count n) (λ v k. record { fixed = λ z. absurd (true_not_false (sym (eq-eqb n 0 z) ∙ e)); countwidth = λ _. k }))

  gives_refs : (w a top n : ℕ) → a % 4 ≡ 0 → Gives s (RefsBounds top n) (ref_list w a top n)
  unfolding ref_list
  gives_refs w a top zero z = gives_yield [] (record { many = refl; good = tt })
  gives_refs w a top (suc n) z =
      gives_then _ _ _ (gives_and (gives_ref w a top) (gives_ref_aligned w a top z)) (λ r k. gives_then _ _ _ (gives_refs w a top n z) (λ rs l.
      gives_yield (r ∷ rs) (record { many = ap suc l.many; good = (record { aligned = k.1; some = k.0.0; most = k.0.1 }, l.good) })))

  gives_spanned_refs : (w a top n : ℕ) → a % 4 ≡ 0 → Gives s (λ (ls : SpannedRefs). RefsBounds top n ls.list) (spanned_refs w a top n)
  unfolding spanned_refs
  gives_spanned_refs w a top n z = gives_then_any _ _ (λ p. gives_then _ _ _ (gives_refs w a top n z) (λ rs l. gives_yield _ l))

  gives_tail : (size truelen n : ℕ) → Gives s (TailBounds size truelen n) (tail size truelen n)
  unfolding tail
  gives_tail size truelen n =
      gives_then _ _ _ (gives_field b size) (λ z k. gives_then _ _ _ (gives_true_length truelen n) (λ t l. gives_yield _ (record { size = k; long = l })))

-- ---- the row of a record

-- Bounds on the row r and the references rs of a record that was read from s by the shape sh; `known` is the class word of a
-- short object, hk the hash kind, and `index` the number of references before the record.
pub record RowBounds (top known hk index : ℕ) (s : List ℕ) (sh : Shape) (r : Row) (rs : List ℕ) : Type 0 where
  pub kind : r.kind ≡ sh.kind
  pub aligned : r.address % 4 ≡ 0
  pub most : r.address ≤ top
  pub class_in_field : eqb sh.class 0 ≡ false → r.class < 256 ^ sh.class
  pub superclass : sh.class ≡ 0 → eqb sh.superclass 0 ≡ false → r.class < 256 ^ sh.superclass
  pub class_known : sh.class ≡ 0 → sh.superclass ≡ 0 → r.class ≡ known
  pub hashkind : r.hashkind ≡ hk
  pub hash : r.hash < 256 ^ hash_bytes hk
  pub first : r.first ≡ index
  pub count : CountBounds sh.countwidth sh.count r.count
  pub refs : RefsBounds top r.count rs
  pub inst : eqb sh.inst 0 ≡ false → r.size < 2 ^ 31
  pub size : sh.inst ≡ 0 → r.size < 256 ^ sh.size
  pub long : eqb sh.truelen 0 ≡ false → (r.len < 2 ^ 31) × (r.count ≤ r.len)
  pub len : sh.truelen ≡ 0 → (r.len < 2 ^ 31) × (sh.len ≡ 0 → r.len ≡ 0)
  pub name : NameBounds s sh.name (record { present = true; place = r.place; len = r.namelen })
  pub prim : r.prim ≡ sh.prim

-- `RowBounds` of the record in an item; no bounds for the end tag.
abbrev pub ItemBounds : (top known hk index : ℕ) → List ℕ → Shape → Item → Type 0
ItemBounds top known hk index s sh end_item = Unit {0}
ItemBounds top known hk index s sh (item r rs sp k) = RowBounds top known hk index s sh (row_at r 0) rs

-- The fields of a record give an item within these bounds.
pub gives_fields : {s : List ℕ} → AllBytes s → (top before : ℕ) (c : Cache) (origin : Origin) (known hk : ℕ) (sh : Shape) → before % 4 ≡ 0
    → Gives s (ItemBounds top known hk origin.index s sh) (fields top before c origin known hk sh)
unfolding fields from_ref_count row field_or row_at
gives_fields {s} b top before c origin known hk sh z =
    gives_then _ _ _ (gives_front b top before sh z) (λ v p. gives_then _ _ _ (gives_middle b sh (hash_bytes hk)) (λ m q.
    gives_then _ _ _ (gives_name b sh.name) (λ name o. gives_then _ _ _ (gives_ref_count b sh.countwidth sh.count) (λ n e.
    gives_then _ _ _ (gives_spanned_refs b sh.refwidth v.address top n p.aligned) (λ ls l. gives_then _ _ _ (gives_tail b sh.size sh.truelen n) (λ t k.
    gives_yield _ (record {
      kind = refl;
      aligned = p.aligned;
      most = p.most;
      class_in_field = λ x. rw x p.class;
      superclass = λ x y. rw (x, y) q.superclass;
      class_known = λ x y. rw (x, y);
      hashkind = refl;
      hash = q.hash;
      first = refl;
      count = e;
      refs = l;
      inst = λ x. rw x q.inst;
      size = λ x. rw x k.size;
      long = λ x. rw x (k.long.0, k.long.1 x);
      len = λ x. rw x p.len;
      name = record { none = o.none; some = λ x. let y = o.some x in record { is_present = refl; enough = y.enough; short = y.short; inside = y.inside; bytes = y.bytes } };
      prim = refl;
    })))))))
