-- The theorems about reading: about `read_result`, and about what a caller sees of it.
-- A reader must believe the statements and their records. Assumes nothing.
use Rattle.std.specs.Prelude.{◌≡◌, ℕ, suc, ◌+◌, ◌-◌, ◌*◌, ◌≤◌, ◌<◌, true, List, ◌∷◌, ◌++◌, map, length, take}
use Rattle.std.proofs.Common.{ap, length-append, length-drop, arith}
use Rattle.decode.specs.Numbers.{all_within}
use Rattle.table.specs.Table.{row_width, row_count, number}
use Rattle.phd.specs.Phd.{limit, max_address, Result, phd, capacity, read_result}
use Rattle.phd.specs.ReadCases.{unfold_all, dump, dump_header, dump_rows, case_f, cases, actual, cases_hold}
use Rattle.table.specs.Buffer.{overwrite}
use Rattle.phd_read.specs.ReadContract.{read_answer}
use Rattle.reader.specs.Prefixes.{Final, ResultPrefix}
use Rattle.reader.proofs.Prefixes.{append_prefix, cuts_prefix}
use Rattle.reader.specs.MissingBytes.{MissingOf, subtract_missing}
use Rattle.reader.proofs.MissingBytes.{read_missing, read_cut_append, missing_le_appended, completed_end_after}
use Rattle.reader.specs.RowOrigins.{offset_of, AllRowOrigins}
use Rattle.reader.proofs.RowOrigins.{origin_count, next_offset_end}
use Rattle.reader.proofs.WithinCapacity.{read_within_capacity}
use Rattle.reader.specs.PrefixTables as AnyFormat
use Rattle.reader.proofs.PrefixTables as AnyFormatLaws
use Rattle.phd_read.specs.Ranges.{refs_within, addresses_within}
use Rattle.phd_read.specs.LengthBounds.{LengthsInBounds, read_lengths_in_bounds}
use Rattle.phd_read.specs.PhdLaws.{phd_lawful, phd_always}
use Rattle.phd_read.specs.RowTags.{TagAt, phd_row_origins, read_row_tag}
use Rattle.phd_read.specs.ReadReplies.{read_reply_le_14}
use Rattle.phd_read.specs.StoredCounts.{stored_counts}
use Rattle.phd_read.specs.CacheTheorems.{CacheAtRow, EmptySlot, read_cache_at_row, read_empty_slot}
use Rattle.phd_read.specs.RecordBytes.{header_min, record_min, max_rows, max_refs, RowBytesBounds, stored_fits_dump, max_rows_enough, max_refs_enough, row_bytes}

-- ---- demand 1, for reading

-- Properties of the result of a reading into tables of R numbers for rows and F for references.
pub record Sound (r : Result) (R F : ℕ) : Type 0 where
  -- The reply is one of 0 to 14.
  pub reply : r.reply ≤ 14
  -- No more is stored than the tables have capacity for.
  pub rows_fit : length r.rows ≤ R
  pub refs_fit : length r.refs ≤ F
  -- The counts returned are those of the whole rows and of the references stored.
  pub rows_counted : (read_answer r).rows * row_width ≡ length r.rows
  pub refs_counted : (read_answer r).refs ≡ length r.refs
  -- The address of each row lies in 0 to 2^W - 1, and each reference in 1 to 2^W - 1.
  pub addresses_in_range : (i : ℕ) → i < row_count r.rows → number r.rows i 1 ≤ max_address r.header.bits
  pub refs_within : all_within 1 (max_address r.header.bits) r.refs ≡ true
  -- The length of each row is below 2^31, and an object array has no more references than its true length.
  pub lengths : LengthsInBounds r.rows

-- Reading any bytes into tables of any length satisfies `Sound`.
pub sound : (s : List ℕ) (R F : ℕ) → Sound (read_result s R F) R F
sound s R F = record {
  reply = read_reply_le_14 s R F;
  rows_fit = (read_within_capacity phd phd_lawful s (capacity R F)).rows_fit;
  refs_fit = (read_within_capacity phd phd_lawful s (capacity R F)).refs_fit;
  rows_counted = (stored_counts s R F).0;
  refs_counted = (stored_counts s R F).1;
  addresses_in_range = addresses_within s R F;
  refs_within = refs_within s R F;
  lengths = read_lengths_in_bounds s R F;
}

-- Overwriting the start of a table with a list that fits does not change the length of the table.
pub overwrite_length : (table xs : List ℕ) → length xs ≤ length table → length (overwrite table xs) ≡ length table
unfolding overwrite
overwrite_length table xs h = simp (length-append, length-drop) (omega arith)

-- ---- demand 3, first part

-- For any two prefixes of the same bytes (the empty one and the whole included), both within the size limit, the longer read into
-- tables at least as large: the rows and references stored from the shorter are the first of those stored from the longer; and if
-- the shorter's reply is not 1 (cut), 13 or 14 (no capacity), the results are the same.
pub prefix_agrees : (b : List ℕ) (m n R R' F F' : ℕ) → m ≤ n → length (take n b) ≤ limit → R ≤ R' → F ≤ F'
    → ResultPrefix (read_result (take m b) R F) (read_result (take n b) R' F')
prefix_agrees b m n R R' F F' h l p q = cuts_prefix phd b m n (capacity R F) (capacity R' F') h l (record { rows = p; refs = q })

-- The same as callers see it: r is the result of the shorter, read into the tables rows and refs, and r' that of the longer, read
-- into rows' and refs'.
pub record PrefixAnswers (r r' : Result) (rows rows' refs refs' : List ℕ) : Type 0 where
  -- At least as many rows and references are stored from the longer.
  pub rows_le : (read_answer r).rows ≤ (read_answer r').rows
  pub refs_le : (read_answer r).refs ≤ (read_answer r').refs
  -- The longer's tables begin with all rows and references stored from the shorter.
  pub rows_prefix : take ((read_answer r).rows * row_width) (overwrite rows' r'.rows) ≡ take ((read_answer r).rows * row_width) (overwrite rows r.rows)
  pub refs_prefix : take (read_answer r).refs (overwrite refs' r'.refs) ≡ take (read_answer r).refs (overwrite refs r.refs)
  -- If the shorter's reply is not 1, 13 or 14, the longer has the same answer, and the same rows and references are stored.
  pub same : Final (read_answer r).reply → read_answer r' ≡ read_answer r
  pub rows_same : Final (read_answer r).reply → r'.rows ≡ r.rows
  pub refs_same : Final (read_answer r).reply → r'.refs ≡ r.refs

prefix_answers_of : (r r' : Result) (rows rows' refs refs' : List ℕ) → AnyFormat.PrefixTables r r' rows rows' refs refs' → PrefixAnswers r r' rows rows' refs refs'
unfolding read_answer
prefix_answers_of r r' rows rows' refs refs' a = record {
  rows_le = a.rows_le;
  refs_le = a.refs_le;
  rows_prefix = a.rows_prefix;
  refs_prefix = a.refs_prefix;
  same = λ f. ap read_answer (a.same f);
  rows_same = λ f. ap (λ x. x.rows) (a.same f);
  refs_same = λ f. ap (λ x. x.refs) (a.same f);
}

-- `PrefixAnswers` holds for any two prefixes under the conditions of `prefix_agrees`.
pub prefix_answers : (b : List ℕ) (m n : ℕ) (rows rows' refs refs' : List ℕ) → m ≤ n → length (take n b) ≤ limit
    → length rows ≤ length rows' → length refs ≤ length refs'
    → PrefixAnswers (read_result (take m b) (length rows) (length refs)) (read_result (take n b) (length rows') (length refs')) rows rows' refs refs'
prefix_answers b m n rows rows' refs refs' h l p q = prefix_answers_of _ _ rows rows' refs refs' (AnyFormatLaws.cuts_prefix_tables phd phd_lawful b m n rows rows' refs refs' h l p q)

-- ---- origins of rows

-- The offset of each stored row is the place of a record; reading one record there, from the state before it, gives that row; and
-- the offsets increase strictly. (Two prefixes of the same bytes agree in the offsets as in every number of a row:
-- `prefix_agrees`.)
pub row_origins : (s : List ℕ) (R F : ℕ) → AllRowOrigins phd s (capacity R F) (read_result s R F)
row_origins = phd_row_origins

-- The byte at the offset of each stored row is a record's tag.
pub row_tag : (s : List ℕ) (R F i : ℕ) → i < row_count (read_result s R F).rows → TagAt s (offset_of (read_result s R F).rows i)
row_tag = read_row_tag

-- Every record has a row: row i came from record i, counted from 0.
pub row_record_number : (s : List ℕ) (R F i : ℕ) (l : i < row_count (read_result s R F).rows) → ((row_origins s R F).each i l).count ≡ i
row_record_number s R F i l = origin_count phd _ s (capacity R F) phd_always _ _ i l ((row_origins s R F).each i l)

-- The record of a row ends at the offset of the next row.
pub next_row_offset : (s : List ℕ) (R F i : ℕ) (l : i < row_count (read_result s R F).rows) → suc i < row_count (read_result s R F).rows
    → offset_of (read_result s R F).rows (suc i) ≡ ((row_origins s R F).each i l).end
next_row_offset s R F i l k = next_offset_end phd _ s (capacity R F) phd_always _ _ i k ((row_origins s R F).each i l) ((row_origins s R F).each (suc i) k)

-- ---- the class cache

-- Before the record of each stored row the slots hold the class words of the medium and long objects among the records before it,
-- as in docs/FORMAT.md 3.5, and a short object has the class word of the slot that its tag names.
pub slots_before_row : (s : List ℕ) (R F i : ℕ) (l : i < row_count (read_result s R F).rows)
    → CacheAtRow s (read_result s R F).rows i ((row_origins s R F).each i l).before.context.cache
unfolding row_origins
slots_before_row = read_cache_at_row

-- Reply 10 occurs only for a slot into which no class word has been pushed.
pub empty_slot : (s : List ℕ) (R F : ℕ) → (read_result s R F).reply ≡ 10 → EmptySlot s (read_result s R F).rows (read_result s R F).place
empty_slot = read_empty_slot

-- ---- bounds by the length of the dump

-- Bounds on the result of reading the bytes s, for any tables.
pub record StoredBounds (s : List ℕ) (r : Result) : Type 0 where
  -- A dump of n bytes gives at most (n - 31) / 2 rows, and at most n - 31 references.
  pub rows : (read_answer r).rows ≤ max_rows (length s)
  pub refs : (read_answer r).refs ≤ max_refs (length s)
  -- Rows and references share the bytes: the header has at least 31, the record of a row 2, and a reference 1.
  pub together : (read_answer r).rows * record_min 0 + (read_answer r).refs ≤ length s - header_min

-- Reading any bytes into tables of any length satisfies `StoredBounds`.
pub stored_bounds : (s : List ℕ) (R F : ℕ) → StoredBounds s (read_result s R F)
unfolding read_answer
stored_bounds s R F = let b = stored_fits_dump s R F in record { rows = omega (arith, b); refs = omega (arith, b); together = b }

-- With capacity for `max_rows` rows, reply 13 does not occur.
pub rows_never_full : (s : List ℕ) (R F : ℕ) → max_rows (length s) * row_width ≤ R → (read_result s R F).reply ≡ 13 → ⊥
rows_never_full = max_rows_enough

-- With capacity for `max_refs` references, reply 14 does not occur.
pub refs_never_full : (s : List ℕ) (R F : ℕ) → max_refs (length s) ≤ F → (read_result s R F).reply ≡ 14 → ⊥
refs_never_full = max_refs_enough

-- The record of each stored row, from its offset to its end, has at least 2 bytes and one for each reference, and at most 34
-- bytes, those of its name, and 8 for each reference.
pub row_bytes_bounds : (s : List ℕ) (R F i : ℕ) (l : i < row_count (read_result s R F).rows)
    → RowBytesBounds (read_result s R F).rows i (offset_of (read_result s R F).rows i) ((row_origins s R F).each i l).end
unfolding row_origins
row_bytes_bounds s R F i l = rw ((row_origins s R F).each i l).offset (row_bytes s R F i l)

-- ---- missing bytes

-- With reply 1 the missing bytes are those that one field lacks at the end of the dump; with every other reply they are 0.
pub missing_bytes : (s : List ℕ) (R F : ℕ) → MissingOf s (read_result s R F)
missing_bytes s R F = read_missing phd phd_lawful s (capacity R F)

-- If fewer bytes than the missing ones are appended, within the size limit, and the tables are at least as large, the result is
-- the same, with as many fewer missing.
pub append_below_missing : (s t : List ℕ) (R R' F F' : ℕ) → length (s ++ t) ≤ limit → R ≤ R' → F ≤ F' → length t < (read_result s R F).missing
    → read_result (s ++ t) R' F' ≡ subtract_missing (length t) (read_result s R F)
append_below_missing s t R R' F F' l p q = read_cut_append phd s t (capacity R F) (capacity R' F') l (record { rows = p; refs = q })

-- If appended bytes change reply 1 to another reply, they are at least as many as were missing.
pub uncut_needs_missing : (s t : List ℕ) (R R' F F' : ℕ) → length (s ++ t) ≤ limit → R ≤ R' → F ≤ F' → (read_result s R F).reply ≡ 1
    → ((read_result (s ++ t) R' F').reply ≡ 1 → ⊥) → (read_result s R F).missing ≤ length t
uncut_needs_missing s t R R' F F' l p q = missing_le_appended phd s t (capacity R F) (capacity R' F') l (record { rows = p; refs = q })

-- If appended bytes complete a cut dump, the offset after its end tag is at least the old length plus the missing bytes, whatever
-- follows the end tag.
pub complete_needs_missing : (s t : List ℕ) (R R' F F' : ℕ) → length (s ++ t) ≤ limit → R ≤ R' → F ≤ F' → (read_result s R F).reply ≡ 1
    → (read_result (s ++ t) R' F').reply ≡ 0 → length s + (read_result s R F).missing ≤ (read_result (s ++ t) R' F').place
complete_needs_missing s t R R' F F' l p q e = completed_end_after phd s t (capacity R F) (capacity R' F') l (record { rows = p; refs = q }) e phd_lawful

-- ---- the scope paper's cases

-- Case (f) for all bytes that may follow the scope paper's dump (docs/FORMAT.md 9), within the size limit.
pub case_f_append : (more : List ℕ) → length (dump ++ more) ≤ limit → actual (case_f more) ≡ (case_f more).expected
unfolding unfold_all dump dump_header dump_rows case_f
case_f_append more l = (append_prefix phd dump more (capacity (4 * row_width) 1) (capacity (4 * row_width) 1) l (record { rows = omega arith; refs = omega arith })).same (λ e. omega arith, λ e. omega arith, λ e. omega arith)

-- All cases (a) to (j).
pub all_cases : (more : List ℕ) → length (dump ++ more) ≤ limit → map actual (case_f more ∷ cases) ≡ map (λ c. c.expected) (case_f more ∷ cases)
all_cases more l = rw (case_f_append more l, cases_hold)
