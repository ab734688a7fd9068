-- What a step does, by the outcome at the cursor: the laws of any format, applied to the layout of a record and its length.
-- Assumes nothing.
use borrow.Author.Tests.{eq-eqb, ne_eqb}
use mathlib.Core.Path.{◌≡◌, refl}
use mathlib.Core.Bool.{Bool, true, false, cond}
use mathlib.Core.List.{List, [], ◌∷◌}
use Rattle.std.specs.Prelude.{Ok, Err}
use Prim.Native.Nat.{ℕ, ◌+◌, ◌*◌, ◌%◌, ◌≤◌, ◌<◌}
use native.Mathlib.Omega.{arith}
use lib.ListN.{length, get_or}
use lib.Seq.{sets}
use lib.Dec.{eqb}
use Rattle.decode.specs.Layout.{whole, stops, run, field, raw, run_then, run_yield, reply_of, missing_of}
use Rattle.decode.specs.declared.Stop.{Stop}
use Rattle.table.specs.Table.{row_width}
use Rattle.reader.specs.Reader.{ended, item}
use Rattle.reader.specs.TableSteps as AnyFormat
use Rattle.reader.proofs.TableSteps as AnyFormatLaws
use Rattle.reader_toy.specs.Toy.{row, toy_record, toy, run_toy_record}
use Rattle.reader_toy.proofs.Toy.{lawful}
use Rattle.reader_toy.specs.ReaderSpecs.{answer, records_from, record_row_width, cursor_of, CursorValid, StepContract}
use Rattle.reader_toy.specs.declared.Cursor.{Cursor}

-- A record's row has `record_row_width` numbers.
row_length : (letter count n b at : ℕ) → length (row letter count n b at) ≡ record_row_width b
unfolding row
row_length letter count n b at = by (eqb (b % 2) 0)
  where
    by : (t : Bool) → length (cond t [] (letter ∷ count ∷ n ∷ 0 ∷ 0 ∷ 0 ∷ 0 ∷ 0 ∷ 0 ∷ 0 ∷ 0 ∷ 0 ∷ at ∷ [])) ≡ cond t 0 row_width
    by true = refl
    by false = refl

-- A record of the bytes b is at the cursor, and ends before offset `next`.
pub record RecordAt (letter : ℕ) (s : List ℕ) (k : Cursor) (b : List ℕ) (next : ℕ) : Type 0 where
  pub some : 1 ≤ length b
  pub is : run (toy.entry letter k.count k.refs) s k.at ≡ whole (item (row letter k.count (length b) (get_or b 0 0) k.at) b tt (k.count + 1)) next

module _ (letter : ℕ) {s rows refs : List ℕ} {k : Cursor} (fits : CursorValid s rows refs k) where
  -- The contract of a step that ends the reading and leaves the tables and the cursor unchanged.
  abbrev EndsWith : (reply place missing : ℕ) → Type 0
  EndsWith reply place missing = StepContract letter s k rows refs rows refs k (Err (record { reply = reply; place = place; missing = missing }))

  -- If the length cannot be read, the step ends the reading with that stop's reply.
  pub step_ends_stop : (w : Stop) → run (field 1) s k.at ≡ stops w → EndsWith (reply_of w) k.at (missing_of w)
  unfolding toy_record
  step_ends_stop w e = AnyFormatLaws.step_ends_stop toy lawful letter fits.inside w (rw (run_toy_record, run_then, e))

  -- The length n was read, which ends before offset `from`.
  module _ {n from : ℕ} (got : run (field 1) s k.at ≡ whole n from) where
    -- Length 0 is the end: reply 0.
    pub step_ends_end : n ≡ 0 → EndsWith 0 from 0
    unfolding toy_record
    step_ends_end e = AnyFormatLaws.step_ends_end toy lawful letter fits.inside from (rw (run_toy_record, run_then, got, eq-eqb n 0 e, run_yield))

    -- If its bytes cannot be read, the step ends the reading with that stop's reply.
    pub step_ends_bytes : (n ≡ 0 → ⊥) → (w : Stop) → run (raw n) s from ≡ stops w → EndsWith (reply_of w) k.at (missing_of w)
    unfolding toy_record
    step_ends_bytes z w e = AnyFormatLaws.step_ends_stop toy lawful letter fits.inside w (rw (run_toy_record, run_then, got, ne_eqb n 0 z, run_then, e))

    -- If they were read, a record is at the cursor.
    pub record_at : (n ≡ 0 → ⊥) → {b : List ℕ} {next : ℕ} → run (raw n) s from ≡ whole b next → length b ≡ n → RecordAt letter s k b next
    unfolding toy_record
    record_at z {b} {next} e l =
        record {
          some = omega arith;
          is = rw (l, run_toy_record, run_then, got, ne_eqb n 0 z, run_then, e, run_yield);
        }

  -- A record was found.
  module _ {b : List ℕ} {next : ℕ} (g : RecordAt letter s k b next) where
    -- If there is no capacity for its row, the reply is 13.
    pub step_ends_rows : length rows < k.rows * row_width + record_row_width (get_or b 0 0) → EndsWith 13 k.at 0
    step_ends_rows l = AnyFormatLaws.step_ends_rows toy lawful letter fits.inside g.is (rw row_length l)

    -- If its row fits and its references do not, the reply is 14.
    pub step_ends_refs : k.rows * row_width + record_row_width (get_or b 0 0) ≤ length rows → length refs < k.refs + length b → EndsWith 14 k.at 0
    step_ends_refs l q = AnyFormatLaws.step_ends_refs toy lawful letter fits.inside g.is (rw row_length l) q

    -- If it fits, it is stored; the table then has i rows.
    pub step_continues : (i : ℕ) → i * row_width ≡ k.rows * row_width + record_row_width (get_or b 0 0) → k.rows * row_width + record_row_width (get_or b 0 0) ≤ length rows
        → k.refs + length b ≤ length refs
        → StepContract letter s k rows refs (sets rows (k.rows * row_width) (row letter k.count (length b) (get_or b 0 0) k.at)) (sets refs k.refs b)
        (record { at = next; count = k.count + 1; rows = i; refs = k.refs + length b }) (Ok tt)
    step_continues i e l q =
        let f = lawful.advances letter k.count k.refs s k.at _ _ g.is in
        (AnyFormatLaws.step_continues toy lawful letter fits.inside g.is i (k.refs + length b) (rw row_length e) refl (rw row_length l) q, omega (arith, fits.few))

-- If a step ended the reading, its numbers are the answer of the whole.
pub end_answer : {letter : ℕ} {s : List ℕ} {at : ℕ} {rows₀ refs₀ rows refs rows' refs' : List ℕ} {k k' : Cursor} {reply place missing : ℕ}
    → AnyFormat.LoopInvariant toy letter s at rows₀ refs₀ rows refs (cursor_of k) → AnyFormat.StepEnds toy letter s (cursor_of k) rows refs rows' refs' (cursor_of k') reply place missing
    → record { reply = reply; place = place; missing = missing; rows = k'.rows; refs = k'.refs; letter = letter }
    ≡ answer (records_from letter s at rows₀ refs₀)
unfolding answer ended
end_answer w g = rw (AnyFormat.end_row_count toy lawful w g, AnyFormat.end_ref_count toy lawful w g, AnyFormat.invariant_end toy lawful w g)
