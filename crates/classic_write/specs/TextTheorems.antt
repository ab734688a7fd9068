-- The theorems about the text and its size query, `text_rows` and `text_rows_size`, in reading order.
-- A reader must believe the statements and their records, those of Search, SizeQuery and OffsetsIgnored (table), those of
-- ClassRows (classic), and `with_nulls` (ExactCounts). Assumes nothing.
use Rattle.std.specs.Prelude.{◌≡◌, refl, ◌↔◌, ◌⊎◌, ℕ, ◌+◌, ◌*◌, ◌≤◌, ◌<◌, true, false, List, [], ◌∷◌, length, leb, Option, Some, None}
use Rattle.std.proofs.Common.{ap, ◌∙◌, arith, length-append, le-leb, leb-true, leb-false}
use Rattle.std.proofs.lemmas.Bool.{lt-leb}
use Rattle.table.specs.declared.Row.{Row}
use Rattle.table.specs.Buffer.{overwrite, overwrite_all}
use Rattle.encode.specs.Encode.{join}
use Rattle.phd.specs.declared.Header.{Header}
use Rattle.phd_check.specs.GoodRows.{good_header, first_bad, TablesGood}
use Rattle.table.specs.CheckOrder.{WriteResult, done, CheckReplies}
use Rattle.table.specs.OffsetsIgnored.{EqualExceptOffsets, rows_of_equal}
use Rattle.table.specs.SizeQuery.{QueryAgrees}
use Rattle.table.specs.Sums.{sum}
use Rattle.table.specs.declared.Answer.{Answer}
use Rattle.phd_counts.specs.Counts.{nulls, tally_of}
use Rattle.phd_counts.specs.ExactCounts.{with_nulls, exact_counts as all_exact}
use Rattle.table.specs.Rows.{nth}
use Rattle.table.specs.Search.{first_row, found_row, IsFirst, NoneSatisfies}
use Rattle.table.proofs.SearchLaws.{first_row_at, first_row_none}
use Rattle.digits.specs.Digits.{ascii, text_decimal}
use Rattle.classic.specs.ClassicText.{is_class_named, class_named, class_missing, primitive_array_type, primitive_class, row_lines, totals_line, text_lines, text_of, text_rows, text_rows_size, text_result, text_size_result}
use Rattle.table.specs.RowBytes.{is_class_at, class_at, ClassRow, is_class_at_iff}
use Rattle.classic.specs.RowBounds.{all_refs_in_bounds}
use Rattle.classic_write.specs.TextParts.{version_text, rows_size, tally_trailers, text_parts}
use Rattle.classic_write.specs.TextSizes.{length_rows_text}
use Rattle.classic.specs.ClassRows.{ClassNamed, ClassMissing, is_class_named_iff, class_missing_iff}
use Rattle.classic_write.specs.TextOutcomes.{text_by_checks, size_query_as_text, size_query_agrees}

-- ---- each reply exactly in its case

-- What the result w of writing these tables as text satisfies, with an output of `out_capacity` bytes.
pub record TextReplies (h : Header) (names refs : List ℕ) (rows : List Row) (out_capacity : ℕ) (w : WriteResult) : Type 0 where
  -- 15: the header is bad.
  pub header : (w.answer.reply ≡ 15) ↔ (good_header h names rows refs ≡ false)
  -- 16 with the place i: the header is good, and the first bad row is row i.
  pub row : (i : ℕ) → ((w.answer.reply ≡ 16) × (w.answer.place ≡ i))
      ↔ ((good_header h names rows refs ≡ true) × (first_bad h names refs rows ≡ Some i))
  -- 18 with the place i: the header is good, no row is bad, and the first row whose class row is missing is row i.
  pub no_class : (i : ℕ) → ((w.answer.reply ≡ 18) × (w.answer.place ≡ i)) ↔ ((TablesGood h names refs rows) × (first_row (class_missing rows) rows ≡ Some i))
  -- 17: the header is good, no row is bad, no class row is missing, and the text is longer than the output.
  pub too_small : (w.answer.reply ≡ 17)
      ↔ ((TablesGood h names refs rows) × (first_row (class_missing rows) rows ≡ None) × (out_capacity < length (text_of h names refs rows)))
  -- 0: the same, but the text fits the output.
  pub done : (w.answer.reply ≡ 0)
      ↔ ((TablesGood h names refs rows) × (first_row (class_missing rows) rows ≡ None) × (length (text_of h names refs rows) ≤ out_capacity))
  -- There is no other reply.
  pub reply_cases : (w.answer.reply ≡ 0) ⊎ ((w.answer.reply ≡ 15) ⊎ ((w.answer.reply ≡ 16) ⊎ ((w.answer.reply ≡ 17) ⊎ (w.answer.reply ≡ 18))))
  -- 15 and 17 have the place 0.
  pub place_15 : w.answer.reply ≡ 15 → w.answer.place ≡ 0
  pub place_17 : w.answer.reply ≡ 17 → w.answer.place ≡ 0
  -- A refusal writes nothing.
  pub no_bytes : (w.answer.reply ≡ 0 → ⊥) → w.bytes ≡ []
  -- With 0 the bytes are the text, and the place is their number.
  pub bytes : w.answer.reply ≡ 0 → w.bytes ≡ text_of h names refs rows
  pub place_0 : w.answer.reply ≡ 0 → w.answer.place ≡ length w.bytes

-- The result of writing satisfies this for any header, any tables and any output.
pub text_replies : (h : Header) (names refs : List ℕ) (rows : List Row) (out_capacity : ℕ) → TextReplies h names refs rows out_capacity (text_rows h names refs rows out_capacity)
unfolding done
text_replies h names refs rows out_capacity = record {
  header = t.header;
  row = t.row;
  no_class = λ i. (λ z. let s = (t.no_class i).0 z in ((s.0, s.1), s.2), λ e. (t.no_class i).1 (e.0.0, e.0.1, e.1));
  too_small = (λ z. let s = t.too_small.0 z in ((s.0, s.1), s.2, leb-false _ _ s.3), λ e. t.too_small.1 (e.0.0, e.0.1, e.1, lt-leb _ _ e.2));
  done = (λ z. let s = t.all_good.0 z in ((s.0, s.1), s.2, leb-true _ _ s.3), λ e. t.all_good.1 (e.0.0, e.0.1, e.1, le-leb _ _ e.2));
  reply_cases = t.reply_cases;
  place_15 = t.place_15;
  place_17 = t.place_17;
  no_bytes = t.no_bytes;
  bytes = λ z. rw (t.written z);
  place_0 = λ z. rw (t.written z);
}
  where
    text : List ℕ
    text = text_of h names refs rows

    t : CheckReplies (good_header h names rows refs) (first_bad h names refs rows) (first_row (class_missing rows) rows) (leb (length text) out_capacity) text (text_rows h names refs rows out_capacity)
    t = text_by_checks h names refs rows out_capacity

-- ---- the size query

-- What the answer of a size query for the text of these tables satisfies.
pub record TextSizeReplies (h : Header) (names refs : List ℕ) (rows : List Row) (query : Answer) : Type 0 where
  -- It is the answer of writing the text to an output of exactly its length, so each reply is returned exactly in its case above.
  pub as_write : query ≡ (text_rows h names refs rows (length (text_of h names refs rows))).answer
  -- 0: the header is good, no row is bad and no class row is missing; the place is the number of bytes of the text.
  pub done : (query.reply ≡ 0) ↔ ((TablesGood h names refs rows) × (first_row (class_missing rows) rows ≡ None))
  pub count : query.reply ≡ 0 → query.place ≡ length (text_of h names refs rows)
  -- Never 17: the text has no limit but the output.
  pub never_17 : query.reply ≡ 17 → ⊥

-- The size query satisfies this for any header and any tables.
pub text_size_replies : (h : Header) (names refs : List ℕ) (rows : List Row) → TextSizeReplies h names refs rows (text_rows_size h names refs rows)
text_size_replies h names refs rows = record {
  as_write = e;
  done = rw e (λ z. let s = x.done.0 z in (s.0, s.1), λ s. x.done.1 (s.0, s.1, omega arith));
  count = rw e (λ z. x.place_0 z ∙ ap length (x.bytes z));
  never_17 = rw e (λ z. let s = x.too_small.0 z in omega (arith, s.2));
}
  where
    x : TextReplies h names refs rows (length (text_of h names refs rows)) (text_rows h names refs rows (length (text_of h names refs rows)))
    x = text_replies h names refs rows (length (text_of h names refs rows))

    e : text_rows_size h names refs rows ≡ (text_rows h names refs rows (length (text_of h names refs rows))).answer
    e = size_query_as_text h names refs rows

-- For any output: writing returns 0 exactly if the size query returns 0 and its count fits the output, with the same place; a
-- refusal other than 17 is the same from both (`QueryAgrees`, SizeQuery of table).
pub text_after_size_query : (h : Header) (names refs : List ℕ) (rows : List Row) (out_capacity : ℕ) → QueryAgrees (text_rows_size h names refs rows) out_capacity (text_rows h names refs rows out_capacity)
text_after_size_query h names refs rows out_capacity = size_query_agrees h names refs rows _ out_capacity refl

-- An output of exactly the size query's count is enough: the text fills it.
pub exact_capacity : (h : Header) (names refs : List ℕ) (rows : List Row) (out : List ℕ) → (text_rows_size h names refs rows).reply ≡ 0 → length out ≡ (text_rows_size h names refs rows).place
    → overwrite out (text_rows h names refs rows (length out)).bytes ≡ text_of h names refs rows
exact_capacity h names refs rows out z l =
    let d = (text_after_size_query h names refs rows (length out)).done.1 (z, omega arith) in
    rw ((text_replies h names refs rows (length out)).bytes d) (overwrite_all out (text_of h names refs rows) (l ∙ (text_size_replies h names refs rows).count z))

-- ---- offsets of the rows

-- Offsets are ignored: tables that differ only in them, or after their last whole row, give the same text and size.
pub text_ignores_offsets : (h : Header) (names refs : List ℕ) {table table' : List ℕ} (out_capacity : ℕ) → EqualExceptOffsets table table'
    → (text_result h names refs table out_capacity ≡ text_result h names refs table' out_capacity) × (text_size_result h names refs table ≡ text_size_result h names refs table')
text_ignores_offsets h names refs out_capacity a = (ap (λ rows. text_rows h names refs rows out_capacity) (rows_of_equal a), ap (text_rows_size h names refs) (rows_of_equal a))

-- ---- missing class rows, and the class row of an address

-- The search for missing class rows finds row i exactly if it is the first object or object array for whose class word there is
-- no class row.
pub first_class_missing : (rows : List Row) (i : ℕ) → (first_row (class_missing rows) rows ≡ Some i) ↔ IsFirst (ClassMissing rows) rows i
first_class_missing rows = first_row_at (ClassMissing rows) (class_missing rows) (class_missing_iff rows) rows

-- It finds no row exactly if there is no such object or object array.
pub no_class_missing : (rows : List Row) → (first_row (class_missing rows) rows ≡ None) ↔ NoneSatisfies (ClassMissing rows) rows
no_class_missing rows = first_row_none (ClassMissing rows) (class_missing rows) (class_missing_iff rows) rows

-- The reply is 18 with the place i exactly if the tables are good and row i is the first whose class row is missing.
pub reply_18_row : (h : Header) (names refs : List ℕ) (rows : List Row) (out_capacity i : ℕ)
    → (((text_rows h names refs rows out_capacity).answer.reply ≡ 18) × ((text_rows h names refs rows out_capacity).answer.place ≡ i))
    ↔ ((TablesGood h names refs rows) × IsFirst (ClassMissing rows) rows i)
reply_18_row h names refs rows out_capacity i =
    let x = (text_replies h names refs rows out_capacity).no_class i in
    (λ z. ((x.0 z).0, (first_class_missing rows i).0 (x.0 z).1), λ e. x.1 (e.0, (first_class_missing rows i).1 e.1))

-- The class row of an address is the first class row with this address.
pub class_at_first : (rows : List Row) (a i : ℕ) → (class_at rows a ≡ Some i) ↔ IsFirst (ClassRow a) rows i
class_at_first rows a = first_row_at (ClassRow a) (is_class_at a) (is_class_at_iff a) rows

-- No class row is found exactly if none has this address.
pub class_at_none : (rows : List Row) (a : ℕ) → (class_at rows a ≡ None) ↔ NoneSatisfies (ClassRow a) rows
class_at_none rows a = first_row_none (ClassRow a) (is_class_at a) (is_class_at_iff a) rows

-- ---- the class row of a name

-- The class row of a name is the first class row with this name.
pub class_named_first : (names : List ℕ) (rows : List Row) (name : List ℕ) (i : ℕ) → (class_named names rows name ≡ Some i) ↔ IsFirst (ClassNamed names name) rows i
class_named_first names rows name = first_row_at (ClassNamed names name) (is_class_named names name) (is_class_named_iff names name) rows

-- No class row is found exactly if none has this name.
pub class_named_none : (names : List ℕ) (rows : List Row) (name : List ℕ) → (class_named names rows name ≡ None) ↔ NoneSatisfies (ClassNamed names name) rows
class_named_none names rows name = first_row_none (ClassNamed names name) (is_class_named names name) (is_class_named_iff names name) rows

-- The class word of a primitive array is the address of the first class row that is named as its type.
pub primitive_class_first : (names : List ℕ) (rows : List Row) (type i : ℕ) → IsFirst (ClassNamed names (primitive_array_type type)) rows i
    → primitive_class names rows type ≡ (nth rows i).address
unfolding primitive_class found_row
primitive_class_first names rows type i f = ap (λ (found : Option ℕ). (found_row rows found).address) ((class_named_first names rows (primitive_array_type type) i).1 f)

-- It is 0 if no class row is named so.
pub primitive_class_none : (names : List ℕ) (rows : List Row) (type : ℕ) → NoneSatisfies (ClassNamed names (primitive_array_type type)) rows → primitive_class names rows type ≡ 0
unfolding primitive_class found_row
primitive_class_none names rows type n = ap (λ (found : Option ℕ). (found_row rows found).address) ((class_named_none names rows (primitive_array_type type)).1 n)

-- ---- totals of the last line

-- The reference total of good tables includes the nulls: it is the sum of the true lengths of object arrays and the reference
-- counts of all other rows. The nulls of an object array are defined in Counts of phd_counts (`nulls_of`).
pub totals_of_good_tables : (h : Header) (names refs : List ℕ) (rows : List Row) → TablesGood h names refs rows
    → totals_line rows ≡ join (text_decimal "// EOF:  Total 'Objects',Refs(null) : " (length rows) ∷ text_decimal "," (sum with_nulls rows) ∷ text_decimal "(" (nulls rows) ∷ ascii ")" ∷ [])
unfolding totals_line
totals_of_good_tables h names refs rows a = rw (all_exact h names refs rows a).total

-- ---- length of the text

-- The text of good tables is as long as the sum of its parts' sizes, which the functions compute before they write a byte.
pub text_length : (h : Header) (names refs : List ℕ) (rows : List Row) → TablesGood h names refs rows
    → length (text_of h names refs rows) ≡ length (version_text names h.vm) + rows_size h.bits names rows + length (tally_trailers (tally_of rows))
text_length h names refs rows a =
    let l = length_rows_text h.bits names refs rows (all_refs_in_bounds h names refs rows a) in
    rw (text_parts h names refs rows, length-append, length-append, l) (omega arith)

-- The text has two lines for each row, and three more: the version line and the trailers.
pub line_count : (h : Header) (names refs : List ℕ) (rows : List Row) → length (text_lines h names refs rows) ≡ 2 * length rows + 3
unfolding text_lines row_lines
line_count h names refs rows = let e = of rows in simp length-append (omega arith)
  where
    of : (some : List Row) → length (row_lines h.bits names refs rows some) ≡ 2 * length some
    of [] = refl
    of (r ∷ some) = let e = of some in omega arith
