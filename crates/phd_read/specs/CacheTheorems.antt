-- The class cache in a reading (docs/FORMAT.md 3.5): after any records its slots hold the class words of the medium and long
-- objects among them, push number k in slot k modulo 4, and a short object has the class word of the slot that its tag names.
-- A reader must believe `tag_at`, `pushes_class`, `classes_pushed`, `CacheAtRow` and `EmptySlot`.
use Rattle.std.specs.Prelude.{◌≡◌, Bool, true, false, leb, eqb, get_or, take, drop, Option, Some, None}
use Rattle.std.proofs.Math.Path.{refl, sym, ap, subst}
use Rattle.std.proofs.Common.{◌∙◌, arith, get_or-take, length-take-le}
use Prim.Native.Nat.{ℕ, zero, suc, ◌+◌, ◌-◌, ◌*◌, ◌/◌, ◌%◌, ◌<◌}
use Rattle.std.proofs.Math.Decide.{dec_le}
use Rattle.std.proofs.Math.Bool.{cond}
use mathlib.Core.List.{List, [], ◌∷◌, ◌++◌}
use Rattle.std.proofs.Math.ListN.{length}
use Rattle.decode.specs.Numbers.{value}
use Rattle.decode.specs.Layout.{yield, whole, stops, run, run_then, run_field, run_field_short, reply_of, missing_of}
use Rattle.decode.specs.Values.{Gives, gives_yield, gives_refuse, gives_then, gives_then_any, gives_weaken, gives_cond, gives_need, refuses_yield, refuses_cond, true_not_false}
use Rattle.decode.specs.declared.Stop.{Stop}
use Rattle.decode.specs.declared.Stop.TheVariants.{Cut, Refused}
use Rattle.table.specs.Table.{row_width, offset_number, row_count, row_slice, number, number_row_slice, whole_append, row_count_snoc, number_append, number_last}
use Rattle.reader.specs.Reader.{next_item, append_item, initial_state, ended, no_records}
use Rattle.reader.specs.Steps.{OnTransition, read_induction}
use Rattle.reader.proofs.Steps.{step_cases}
use Rattle.reader.specs.RowOrigins.{offset_of, StateAfter, RowOrigin}
use Rattle.phd.specs.Phd.{slot_after, push, slot, tag_form, need_form, slot_class, shape, field_or, row, from_ref_count, fields, record_body, from_tag, RecordContext, Item, end_item, item, entry, header, State, Result, Transition, phd, capacity, go, halt, read_result}
use Rattle.phd.specs.ClassCache.{push_all}
use Rattle.phd.proofs.ClassCache.{slot_push_all}
use Rattle.phd.specs.EntryLaws.{origin_at, entry_from_tag}
use Rattle.phd.specs.Shapes.{ValidBits, bits_bytes_nonzero, tag_matches}
use Rattle.phd.specs.declared.cache.Cache.{Cache}
use Rattle.phd.specs.declared.Header.{Header}
use Rattle.phd.specs.declared.Form.{Form}
use Rattle.phd.specs.declared.Form.TheVariants.{Short, Medium, Long, Class, ObjectArray, Primitive, LongPrimitive}
use Rattle.phd.specs.declared.Origin.{Origin}
use Rattle.phd.specs.declared.Shape.{Shape}
use Rattle.phd.specs.declared.Span.{Span}
use Rattle.phd_read.specs.RecordProperties.{entry_advances, entry_read_from}
use Rattle.phd_read.specs.PhdLaws.{phd_always}
use Rattle.phd_read.specs.RowTags.{phd_row_origins}
use Rattle.phd_read.specs.ReadReplies.{FieldReply, header_refuses, record_body_refuses}
use Rattle.phd_header.specs.HeaderOutcomes.{header_bits}

-- The tag at a place of a dump.
abbrev pub tag_at : List ℕ → ℕ → ℕ
tag_at s place = value (take 1 (drop place s))

-- Whether a record with such a tag pushes its class word: medium and long objects do, no other record does.
unfoldable pub pushes_class : Option Form → Bool
pushes_class (Some Medium) = true
pushes_class (Some Long) = true
pushes_class (Some Short) = false
pushes_class (Some Class) = false
pushes_class (Some ObjectArray) = false
pushes_class (Some Primitive) = false
pushes_class (Some LongPrimitive) = false
pushes_class None = false

-- The class words that the records of the first n rows pushed, the last one first. (Number 2 of a row is its class word.)
unfoldable pub classes_pushed : List ℕ → List ℕ → ℕ → List ℕ
classes_pushed s rows zero = []
classes_pushed s rows (suc i) =
    cond (pushes_class (tag_form (tag_at s (offset_of rows i)))) (number rows i 2 ∷ classes_pushed s rows i) (classes_pushed s rows i)

-- ---- one record

-- A record with the tag t pushes its class word or leaves the cache c unchanged, and a short object has the class word of the
-- slot that its tag names.
abbrev CacheStep : Cache → ℕ → Item → Type 0
CacheStep c t end_item = Unit {0}
CacheStep c t (item r rs sp k) =
    (k.cache ≡ cond (pushes_class (tag_form t)) (push c (get_or r 2 0)) c) × (tag_form t ≡ Some Short → slot c (t / 0x20 % 4) ≡ Some (get_or r 2 0))

-- The shape of a form pushes a class word exactly if `pushes_class` holds, and then it has a field for one.
record ShapeCaches (fm : Form) (sh : Shape) : Type 0 where
  pub cached : sh.cached ≡ pushes_class (Some fm)
  pub has_class : sh.cached ≡ true → eqb sh.class 0 ≡ false

-- Every shape satisfies `ShapeCaches`, if a class word has at least one byte.
shape_caches : (w : ℕ) → eqb w 0 ≡ false → (fm : Form) (t f : ℕ) → ShapeCaches fm (shape w fm t f)
unfolding shape pushes_class
shape_caches w n Short t f = record { cached = refl; has_class = λ e. absurd (true_not_false (sym e)) }
shape_caches w n Medium t f = record { cached = refl; has_class = λ _. n }
shape_caches w n Long t f = record { cached = refl; has_class = λ _. n }
shape_caches w n Class t f = record { cached = refl; has_class = λ e. absurd (true_not_false (sym e)) }
shape_caches w n ObjectArray t f = record { cached = refl; has_class = λ e. absurd (true_not_false (sym e)) }
shape_caches w n Primitive t f = record { cached = refl; has_class = λ e. absurd (true_not_false (sym e)) }
shape_caches w n LongPrimitive t f = record { cached = refl; has_class = λ e. absurd (true_not_false (sym e)) }

-- A short object has no field for a class word.
short_no_class : (w : ℕ) (fm : Form) (t f : ℕ) → Some fm ≡ Some Short → ((shape w fm t f).class ≡ 0) × ((shape w fm t f).superclass ≡ 0)
unfolding shape
short_no_class w fm t f e =
    let z : Short ≡ fm = cc in
    subst (λ (x : Form). ((shape w x t f).class ≡ 0) × ((shape w x t f).superclass ≡ 0)) z (refl, refl)

-- `CacheStep` by the shape of the record; `known` is the class word of a short object, from its slot.
abbrev CacheStepByShape : Cache → ℕ → Shape → Item → Type 0
CacheStepByShape c known sh end_item = Unit {0}
CacheStepByShape c known sh (item r rs sp k) =
    (k.cache ≡ cond sh.cached (push c (get_or r 2 0)) c) × (sh.class ≡ 0 → sh.superclass ≡ 0 → get_or r 2 0 ≡ known)

push_if_same_class : (c : Cache) (b x : Bool) (v o : ℕ) → (b ≡ true → x ≡ false) → cond b (push c v) c ≡ cond b (push c (cond x o v)) c
push_if_same_class c true x v o e = rw (e refl)
push_if_same_class c false x v o e = refl

gives_fields : {s : List ℕ} (top before : ℕ) (c : Cache) (origin : Origin) (known hk : ℕ) (sh : Shape) → (sh.cached ≡ true → eqb sh.class 0 ≡ false)
    → Gives s (CacheStepByShape c known sh) (fields top before c origin known hk sh)
unfolding fields from_ref_count row field_or
gives_fields top before c origin known hk sh has_class =
    gives_then_any _ _ (λ v. gives_then_any _ _ (λ m. gives_then_any _ _ (λ name. gives_then_any _ _ (λ n. gives_then_any _ _ (λ ls. gives_then_any _ _ (λ t.
    gives_yield _ (push_if_same_class c sh.cached (eqb sh.class 0) v.class _ has_class, λ z y. rw (z, y))))))))

-- The form that `need_form` gives is that of the tag.
pub gives_need_form : {s : List ℕ} (g : Option Form) → Gives s (λ fm. g ≡ Some fm) (need_form g)
unfolding need_form
gives_need_form (Some fm) = gives_yield fm refl
gives_need_form None = gives_refuse 6

module _ (h : Header) (before : ℕ) (c : Cache) (w : eqb (h.bits / 8) 0 ≡ false) where
  gives_record_body : {s : List ℕ} (origin : Origin) (t : ℕ) → Gives s (CacheStep c t) (record_body h before c origin t)
  unfolding record_body slot_class
  gives_record_body {s} origin t =
      gives_then _ _ _ (gives_need_form (tag_form t)) (λ fm e. gives_then _ _ _ (gives_need 10 _) (λ known d. gives_then_any _ _ (λ f.
      gives_weaken (gives_fields _ before c origin known _ _ (shape_caches _ w fm t f).has_class) (by fm known f e d))))
    where
      by : (fm : Form) (known f : ℕ) → tag_form t ≡ Some fm → slot_class c t ≡ Some known
          → (i : Item) → CacheStepByShape c known (shape (h.bits / 8) fm t f) i → CacheStep c t i
      by fm known f e d end_item x = tt
      by fm known f e d (item r rs sp k) x =
          let g = shape_caches _ w fm t f in (
            x.0 ∙ ap (λ (b : Bool). cond b (push c (get_or r 2 0)) c) (g.cached ∙ sym (ap pushes_class e)),
            λ l.
                let q = short_no_class _ fm t f (sym e ∙ l) in
                rw (x.1 q.0 q.1) (rw (tag_matches t Short l) at d),
          )

-- Every record that was read satisfies `CacheStep`.
pub entry_cache_step : (h : Header) (s : List ℕ) (before : ℕ) (c : Cache) (index at : ℕ) (r rs : List ℕ) (sp : Span) (k : RecordContext) (n : ℕ) → ValidBits h.bits
    → run (entry h before c index) s at ≡ whole (item r rs sp k) n → CacheStep c (tag_at s at) (item r rs sp k)
unfolding from_tag
entry_cache_step h s before c index at r rs sp k n w e =
    let f = entry_advances h before c index s at (item r rs sp k) n e in
    (gives_cond (eqb (tag_at s at) 3) _ _ (gives_yield end_item tt) (gives_record_body h before c (bits_bytes_nonzero h.bits w) (origin_at at index) (tag_at s at))
    ).each (at + 1) (item r rs sp k) n (omega arith) (rw (entry_from_tag, run_then, run_field 1 s at (omega arith)) at e)

-- ---- a sequence of records

-- Tables with the same first n rows give the same class words.
classes_pushed_cong : (s rows rows' : List ℕ) (n : ℕ) → ((i k : ℕ) → i < n → k < row_width → number rows i k ≡ number rows' i k) → classes_pushed s rows n ≡ classes_pushed s rows' n
unfolding classes_pushed
classes_pushed_cong s rows rows' zero e = refl
classes_pushed_cong s rows rows' (suc n) e =
    rw (e n offset_number (omega arith) (omega arith), e n 2 (omega arith) (omega arith), classes_pushed_cong s rows rows' n (λ i k l b. e i k (omega arith) b))

-- The invariant between records: the cache is the one after pushing the class words of all records so far.
pub record CacheFilled (s : List ℕ) (st : State) : Type 0 where
  pub whole_rows : length st.rows % row_width ≡ 0
  pub cache : st.context.cache ≡ push_all (classes_pushed s st.rows (row_count st.rows))

push_if_push_all : (c : Cache) (b : Bool) (w : ℕ) (ws : List ℕ) → c ≡ push_all ws → cond b (push c w) c ≡ push_all (cond b (w ∷ ws) ws)
push_if_push_all c true w ws e = ap (λ (x : Cache). push x w) e
push_if_push_all c false w ws e = e

module _ (h : Header) (s : List ℕ) (R F : ℕ) (w : ValidBits h.bits) where
  module _ (st : State) (t : CacheFilled s st) (r rs : List ℕ) (m : Span) (k : RecordContext) (n : ℕ) (e : next_item phd h s st ≡ whole (item r rs m k) n) where
    cache_filled_step : CacheFilled s (append_item st r rs k n)
    unfolding classes_pushed
    cache_filled_step =
        let l : length r ≡ row_width = phd_always h st.context (length st.refs) s st.at r rs m k n e in
        let o = (entry_read_from h s st.context.address st.context.cache (length st.refs) st.at r rs m k n e).offset in
        let a = (entry_cache_step h s st.context.address st.context.cache (length st.refs) st.at r rs m k n w e).0 in
        let p = classes_pushed_cong s (st.rows ++ r) st.rows (row_count st.rows) (λ i j b c. number_append st.rows r t.whole_rows l i j b c) in
        record {
          whole_rows = whole_append st.rows r t.whole_rows l;
          cache = rw (row_count_snoc st.rows r t.whole_rows l, number_last st.rows r t.whole_rows l offset_number, number_last st.rows r t.whole_rows l 2, o, p) (a ∙ push_if_push_all st.context.cache (pushes_class (tag_form (tag_at s st.at))) (get_or r 2 0) (classes_pushed s st.rows (row_count st.rows)) t.cache);
        }

  abbrev AfterStep : Transition → Type 0
  AfterStep (go st) = CacheFilled s st
  AfterStep (halt r) = Unit {0}

  -- The invariant holds after any number of records.
  pub cache_filled_after : (n i : ℕ) (st : State) → StateAfter phd h s (capacity R F) n i st → CacheFilled s st
  unfolding classes_pushed row_count initial_state
  cache_filled_after n zero st a = subst (CacheFilled s) (sym a) (record { whole_rows = refl; cache = refl })
  cache_filled_after n (suc i) st a =
      let t = cache_filled_after n i a.0 a.1 in
      rw a.2 at (step_cases phd AfterStep h s (capacity R F) a.0 (λ m e. tt) (λ r rs m k n e _ _. cache_filled_step a.0 t r rs m k n e) tt tt (λ x e. tt))

-- ---- the rows of a reading

-- Properties of row i of the rows that a reading of the dump s stored, and of the cache c before its record.
pub record CacheAtRow (s rows : List ℕ) (i : ℕ) (c : Cache) : Type 0 where
  -- Each slot holds the last class word pushed into it by the records before, push number k going into slot k modulo 4.
  pub slots : (j : ℕ) → j < 4 → slot c j ≡ slot_after (classes_pushed s rows i) j
  -- A short object has the class word of the slot that its tag names.
  pub short : tag_form (tag_at s (offset_of rows i)) ≡ Some Short → slot_after (classes_pushed s rows i) (tag_at s (offset_of rows i) / 0x20 % 4) ≡ Some (number rows i 2)

-- Every stored row satisfies `CacheAtRow`.
pub read_cache_at_row : (s : List ℕ) (R F i : ℕ) (l : i < row_count (read_result s R F).rows)
    → CacheAtRow s (read_result s R F).rows i ((phd_row_origins s R F).each i l).before.context.cache
unfolding row_count
read_cache_at_row s R F i l = record {
  slots = slots;
  short = λ b. sym (slots _ (omega arith)) ∙ rw (x.offset, number_row_slice rows i 2 (omega arith)) (record_short (rw x.offset at b));
}
  where
    rows : List ℕ
    rows = (read_result s R F).rows

    h : Header
    h = (read_result s R F).header

    x : RowOrigin phd h s (capacity R F) rows (read_result s R F).refs i
    x = (phd_row_origins s R F).each i l

    st : State
    st = x.before

    w : ValidBits h.bits
    w = header_bits s h x.start x.header_whole

    -- There are i rows before row i.
    counted : row_count st.rows ≡ i
    counted = let k : length st.rows ≡ i * row_width = ap length x.rows_before ∙ length-take-le (i * row_width) rows (omega arith) in omega arith

    alike : classes_pushed s st.rows i ≡ classes_pushed s rows i
    alike = classes_pushed_cong s st.rows rows i (λ j k b c. ap (λ (y : List ℕ). number y j k) x.rows_before ∙ get_or-take (i * row_width) rows (j * row_width + k) 0 (omega arith))

    slots : (j : ℕ) → j < 4 → slot st.context.cache j ≡ slot_after (classes_pushed s rows i) j
    slots j b =
        let c : st.context.cache ≡ push_all (classes_pushed s rows i) = rw (counted, alike) at (cache_filled_after h s R F w x.start x.count st x.reached).cache in
        rw c (slot_push_all (classes_pushed s rows i) j b)

    record_short : tag_form (tag_at s st.at) ≡ Some Short → slot st.context.cache (tag_at s st.at / 0x20 % 4) ≡ Some (get_or (row_slice rows i) 2 0)
    record_short = (entry_cache_step h s st.context.address st.context.cache (length st.refs) st.at (row_slice rows i) x.list x.note x.context x.end w x.item_is).1

-- ---- an empty slot

-- The reason for reply 10 at a place of the dump s, after these rows: the tag there is a short object's, and no class word has
-- been pushed into the slot that it names.
pub record EmptySlot (s rows : List ℕ) (place : ℕ) : Type 0 where
  pub short : tag_form (tag_at s place) ≡ Some Short
  pub never_filled : slot_after (classes_pushed s rows (row_count rows)) (tag_at s place / 0x20 % 4) ≡ None

-- A reply that refuses a field is not 10.
field_reply_not_10 : {Q : Type 0} (r : ℕ) → FieldReply r → r ≡ 10 → Q
field_reply_not_10 r k e = absurd (true_not_false (sym (rw e at k)))

-- A record is refused with 10 only if it is a short object whose slot is empty.
slot_empty : (h : Header) (s : List ℕ) (before : ℕ) (c : Cache) (index at : ℕ) → run (entry h before c index) s at ≡ stops (Refused 10)
    → (tag_form (tag_at s at) ≡ Some Short) × (slot c (tag_at s at / 0x20 % 4) ≡ None)
unfolding from_tag slot_class tag_form
slot_empty h s before c index at e = elim (dec_le (at + 1) (length s)) [
  | yes l ↦ by (leb 0x80 t) refl (refused (rw (entry_from_tag, run_then, run_field 1 s at l) at e))
  | no l ↦
      let x : stops (Cut (at + 1 - length s)) ≡ stops (Refused 10) = rw (entry_from_tag, run_then, run_field_short 1 s at (omega arith)) at e in
      let z : ◌≡◌ {A = ℕ} 0 1 = cc in
      absurd (omega arith)
]
  where
    t : ℕ
    t = tag_at s at

    refused : run (cond (eqb t 3) (yield end_item) (record_body h before c (origin_at at index) t)) s (at + 1) ≡ stops (Refused 10) → slot_class c t ≡ None
    refused x =
        (refuses_cond {P = λ r. r ≡ 10 → slot_class c t ≡ None} (eqb t 3) _ _ (refuses_yield end_item)
        (record_body_refuses (λ r. r ≡ 10 → slot_class c t ≡ None) field_reply_not_10 h before c (origin_at at index) t (λ k _. k))).each s (at + 1) 10 x refl

    by : (b : Bool) → leb 0x80 t ≡ b → cond b (slot c (t / 0x20 % 4)) (Some 0) ≡ None → (tag_form t ≡ Some Short) × (slot c (t / 0x20 % 4) ≡ None)
    by true d k = (rw d, k)
    by false d k = let z : ◌≡◌ {A = ℕ} 0 1 = cc in absurd (omega arith)

module _ (s : List ℕ) (R F : ℕ) where
  abbrev EmptySlotAt10 : Result → Type 0
  EmptySlotAt10 r = r.reply ≡ 10 → EmptySlot s r.rows r.place

  abbrev BitsAndCache : Header → State → Type 0
  BitsAndCache h st = ValidBits h.bits × CacheFilled s st

  -- A record that ends the reading with 10 names an empty slot.
  stop_empty_slot : (h : Header) (st : State) → BitsAndCache h st → (w : Stop) → next_item phd h s st ≡ stops w → EmptySlotAt10 (ended h st (reply_of w) st.at (missing_of w))
  unfolding ended reply_of
  stop_empty_slot h st g (Cut n) e z = absurd (omega arith)
  stop_empty_slot h st g (Refused r) e z =
      let x = slot_empty h s st.context.address st.context.cache (length st.refs) st.at (rw z at e) in
      let c = g.1.cache in
      record { short = x.0; never_filled = sym (slot_push_all _ _ (omega arith)) ∙ rw c at x.1 }

  header_empty_slot : (w : Stop) → run header s 0 ≡ stops w → EmptySlotAt10 (no_records phd (reply_of w) (missing_of w))
  unfolding no_records reply_of
  header_empty_slot (Cut n) e z = absurd (omega arith)
  header_empty_slot (Refused r) e z = (header_refuses (λ r. r ≡ 10 → EmptySlot s [] 0) field_reply_not_10).each s 0 r e z

  -- A reading that ends with 10 satisfies `EmptySlot` at its place.
  pub read_empty_slot : (read_result s R F).reply ≡ 10 → EmptySlot s (read_result s R F).rows (read_result s R F).place
  unfolding no_records ended initial_state classes_pushed row_count
  read_empty_slot =
      read_induction phd s (capacity R F) BitsAndCache EmptySlotAt10 (λ z. absurd (omega arith)) header_empty_slot
      (λ h n e. (header_bits s h n e, record { whole_rows = refl; cache = refl }))
      (λ h st g. step_cases phd (OnTransition (BitsAndCache h) EmptySlotAt10) h s (capacity R F) st (λ n e z. absurd (omega arith))
      (λ r rs m k n e _ _. (g.0, cache_filled_step h s R F g.0 st g.1 r rs m k n e))
      (λ z. absurd (omega arith)) (λ z. absurd (omega arith)) (stop_empty_slot h st g))
      (λ h st g z. absurd (omega arith))
