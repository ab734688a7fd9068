-- Every row that a reading of bytes stores passes the writer's checks: the invariant `GoodState` holds after each record.
-- Assumes nothing.
use Rattle.std.specs.Prelude.{◌≡◌, refl, ℕ, suc, ◌+◌, ◌/◌, ◌%◌, ◌≤◌, true, List, [], ◌∷◌, ◌++◌, eqb, length, get_or, drop, Some, None}
use Rattle.std.proofs.Common.{zero-add, add-zero, arith, length-append, length-drop}
use Rattle.std.proofs.lemmas.List.{take-append-le, drop-append-le}
use Rattle.decode.specs.Numbers.{all_within}
use Rattle.decode.specs.Layout.{whole, run}
use Rattle.decode.specs.Values.{Gives, gives_yield, gives_then, gives_then_any, gives_weaken, gives_cond, gives_need}
use Rattle.decode.specs.ByteValues.{AllBytes}
use Rattle.table.specs.Table.{row_width, whole_append}
use Rattle.table.specs.Rows.{row_at, rows_of, rows_of_snoc, refs_of, name_of}
use Rattle.table.specs.Sums.{sum, sum_snoc}
use Rattle.table.specs.declared.Row.{Row}
use Rattle.phd.specs.Phd.{max_address, tag_form, slot_class, shape, hash_kind, RecordContext, Item, end_item, item, record_body, from_tag, entry, State, phd, make_context}
use Rattle.phd.specs.EntryLaws.{origin_at, entry_from_tag}
use Rattle.phd.specs.Shapes.{ValidBits}
use Rattle.phd.specs.declared.cache.Cache.{Cache}
use Rattle.phd.specs.declared.Header.{Header}
use Rattle.phd.specs.declared.Form.{Form}
use Rattle.phd.specs.declared.Origin.{Origin}
use Rattle.phd.specs.declared.Span.{Span}
use Rattle.phd_counts.specs.Counts.{row_ref_count}
use Rattle.phd_check.specs.GoodRows.{all_true, good_hash, good_kind, good_addresses, good_numbers, good_refs, good_row, first_bad_from, first_bad}
use Rattle.phd_check.specs.WellFormed.{all_true_at, row_first, spans_in_bounds, none_bad}
use Rattle.phd_read.specs.RecordProperties.{entry_advances, entry_read_from}
use Rattle.phd_read.specs.PhdLaws.{phd_always}
use Rattle.phd_read.specs.CacheTheorems.{tag_at, pushes_class, gives_need_form, entry_cache_step}
use Rattle.reader.specs.Reader.{next_item, append_item}
use Rattle.phd_copy.specs.ReadRows.{GoodContext, push_le, known_le, ItemBounds, gives_fields}
use Rattle.phd_copy.specs.GoodForms.{span_good, row_good}

-- ---- lists of rows

-- The checks that a good row passes.
good_row_checks : (h : Header) (names refs : List ℕ) (index : ℕ) (r : Row) → good_row h names refs index r ≡ true
    → (good_numbers h index (length refs) (length names) r ≡ true) × (good_refs (max_address h.bits) (refs_of refs r) ≡ true) × (all_within 0x21 0x7E (name_of names r) ≡ true)
unfolding good_row
good_row_checks h names refs index r g = let t = all_true_at _ g in (t 0, t 1, t 2)

good_numbers_checks : (h : Header) (index refs names : ℕ) (r : Row) → good_numbers h index refs names r ≡ true
    → (good_addresses (max_address h.bits) r ≡ true) × (good_hash h.hashed r ≡ true) × (good_kind names r ≡ true)
unfolding good_numbers
good_numbers_checks h index refs names r g = let t = all_true_at _ g in (t 0, t 2, t 3)

-- A good row stays good if references are appended to the table.
good_row_append : (h : Header) (names refs rs : List ℕ) (index : ℕ) (r : Row) → good_row h names refs index r ≡ true → good_row h names (refs ++ rs) index r ≡ true
unfolding good_row good_numbers all_true refs_of
good_row_append h names refs rs index r g =
    let l = spans_in_bounds h names refs index r g in
    let m : r.first + r.count ≤ length (refs ++ rs) = simp length-append (omega (arith, l.span)) in
    let k : r.count ≤ length (drop r.first refs) = simp length-drop (omega (arith, l.span)) in
    let t = good_row_checks h names refs index r g in
    let n = good_numbers_checks h index (length refs) (length names) r t.0 in
    rw (
      n.0,
      span_good index (length (refs ++ rs)) r (row_first h names refs index r t.0) m l.few,
      n.1,
      n.2,
      drop-append-le r.first refs rs (omega (arith, l.span)),
      take-append-le r.count (drop r.first refs) rs k,
      t.1,
      t.2,
    )

-- Rows of which none is bad stay so if references are appended to the table.
first_bad_append : (h : Header) (names refs rs : List ℕ) (i index : ℕ) (rows : List Row) → first_bad_from h names refs i index rows ≡ None
    → first_bad_from h names (refs ++ rs) i index rows ≡ None
unfolding first_bad_from
first_bad_append h names refs rs i index [] e = refl
first_bad_append h names refs rs i index (r ∷ rows) e =
    let b = none_bad h names refs i index r rows e in
    rw (good_row_append h names refs rs index r b.0) (first_bad_append h names refs rs (suc i) (index + r.count) rows b.1)

-- Rows of which none is bad stay so if a good row is appended.
first_bad_snoc : (h : Header) (names refs : List ℕ) (i index : ℕ) (rows : List Row) (r : Row) → first_bad_from h names refs i index rows ≡ None
    → good_row h names refs (index + sum row_ref_count rows) r ≡ true → first_bad_from h names refs i index (rows ++ (r ∷ [])) ≡ None
unfolding first_bad_from sum
first_bad_snoc h names refs i index [] r e g = rw (rw add-zero at g)
first_bad_snoc h names refs i index (x ∷ rows) r e g =
    let b = none_bad h names refs i index x rows e in
    let a : index + (x.count + sum row_ref_count rows) ≡ index + x.count + sum row_ref_count rows = omega arith in
    rw b.0 (first_bad_snoc h names refs (suc i) (index + x.count) rows r b.1 (rw a at g))

-- ---- a record

-- A record with the row r and the references rs, read after the references `refs`, is good.
record GoodRecord (h : Header) (s : List ℕ) (refs : List ℕ) (r : Row) (rs : List ℕ) : Type 0 where
  pub good : good_row h s (refs ++ rs) (length refs) r ≡ true
  pub class : r.class ≤ max_address h.bits
  pub aligned : r.address % 4 ≡ 0
  pub count : length rs ≡ r.count

module _ (h : Header) (w : ValidBits h.bits) (s : List ℕ) (b : AllBytes s) (before : ℕ) (c : Cache) (g : GoodContext h (make_context before c)) (refs : List ℕ) where
  abbrev GoodItem : Item → Type 0
  GoodItem end_item = Unit {0}
  GoodItem (item r rs sp k) = GoodRecord h s refs (row_at r 0) rs

  gives_record : (origin : Origin) (t : ℕ) → origin.index ≡ length refs → Gives s GoodItem (record_body h before c origin t)
  unfolding record_body
  gives_record origin t e =
      gives_then _ _ _ (gives_need_form (tag_form t)) (λ fm a. gives_then _ _ _ (gives_need 10 _) (λ known d. gives_then_any _ _ (λ f.
      gives_weaken (gives_fields b (max_address h.bits) before c origin known (hash_kind h t f) (shape (h.bits / 8) fm t f) g.aligned) (by fm known f a d))))
    where
      by : (fm : Form) (known f : ℕ) → tag_form t ≡ Some fm → slot_class c t ≡ Some known
          → (i : Item) → ItemBounds (max_address h.bits) known (hash_kind h t f) origin.index s (shape (h.bits / 8) fm t f) i → GoodItem i
      by fm known f a d end_item x = tt
      by fm known f a d (item r rs sp k) x =
          let q = row_good h w s c t f known origin.index (row_at r 0) rs d (known_le c t known _ g.classes d) fm refs a e x in
          record { good = q.0; class = q.1; aligned = x.aligned; count = x.refs.many }

  -- A record that is read at an offset is good, and so is the context after it.
  entry_good : (at : ℕ) (r rs : List ℕ) (sp : Span) (k : RecordContext) (n : ℕ) → run (entry h before c (length refs)) s at ≡ whole (item r rs sp k) n
      → GoodRecord h s refs (row_at r 0) rs × GoodContext h k
  unfolding from_tag row_at
  entry_good at r rs sp k n e =
      let f = entry_advances h before c (length refs) s at (item r rs sp k) n e in
      let x : GoodRecord h s refs (row_at r 0) rs =
      (gives_then_any _ _ (λ t. gives_cond (eqb t 3) _ _ (gives_yield end_item tt) (gives_record (origin_at at (length refs)) t refl))
      ).each at (item r rs sp k) n (omega arith) (rw entry_from_tag at e) in
      let a = (entry_read_from h s before c (length refs) at r rs sp k n e).address in
      let m = (entry_cache_step h s before c (length refs) at r rs sp k n w e).0 in
      (x, record { aligned = omega (arith, a, x.aligned); classes = rw m (push_le c (pushes_class (tag_form (tag_at s at))) (get_or r 2 0) (max_address h.bits) g.classes x.class) })

-- ---- the invariant

-- The invariant of a reading between records: the context is good, no stored row is bad, and the counts of the rows add up to the
-- number of stored references.
pub record GoodState (h : Header) (s : List ℕ) (st : State) : Type 0 where
  pub bits : ValidBits h.bits
  pub before : GoodContext h st.context
  pub whole_rows : length st.rows % row_width ≡ 0
  pub counts : sum row_ref_count (rows_of st.rows) ≡ length st.refs
  pub good : first_bad h s st.refs (rows_of st.rows) ≡ None

-- Storing the next record keeps the invariant.
pub good_state_step : (h : Header) (s : List ℕ) → AllBytes s → (st : State) → GoodState h s st → (r rs : List ℕ) (m : Span) (k : RecordContext) (n : ℕ)
    → next_item phd h s st ≡ whole (item r rs m k) n → GoodState h s (append_item st r rs k n)
good_state_step h s b st g r rs m k n e =
    let x = entry_good h g.bits s b st.context.address st.context.cache g.before st.refs st.at r rs m k n e in
    let l : length r ≡ row_width = phd_always h st.context (length st.refs) s st.at r rs m k n e in
    let rows : List Row = rows_of st.rows in
    let a = rows_of_snoc st.rows r g.whole_rows l in
    record {
      bits = g.bits;
      before = x.1;
      whole_rows = whole_append st.rows r g.whole_rows l;
      counts = rw a (simp (sum_snoc row_ref_count rows (row_at r 0), length-append st.refs rs) (omega (arith, g.counts, x.0.count)));
      good = rw a (first_bad_snoc h s (st.refs ++ rs) 0 0 rows (row_at r 0) (first_bad_append h s st.refs rs 0 0 rows g.good) (rw (zero-add, g.counts) x.0.good));
    }
