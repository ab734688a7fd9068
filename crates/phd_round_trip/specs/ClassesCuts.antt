-- Demand 3, second part, with a list of class summaries: of a written dump, a cut gives exactly the records that lie whole within it, if
-- tables and list have capacity for the whole dump. The list holds the summaries of these rows (`classes_answer` and the contract of
-- phd_classes::read).
-- Assumes nothing.
use Rattle.std.specs.Prelude.{◌≡◌, refl, ℕ, ◌*◌, ◌≤◌, List, [], ◌∷◌, length, take, drop}
use Rattle.std.proofs.Common.{sym, ap, ◌∙◌, arith, take_all}
use Rattle.std.proofs.Math.Decide.{dec_le}
use Rattle.std.proofs.Math.Seq.{take-length}
use Rattle.table.specs.Table.{row_width, row_count}
use Rattle.table.specs.Rows.{Rec, without_place, rec_of, recs}
use Rattle.table.specs.declared.Row.{Row}
use Rattle.summaries.specs.Summaries.{Key, key_of, keyed, keys_from, keys, summaries}
use Rattle.summaries.specs.SummaryTotals.{length_is}
use Rattle.summaries.specs.KeyCounts.{keys_grow}
use Rattle.phd.specs.Phd.{limit, read_result}
use Rattle.phd.specs.declared.Header.{Header}
use Rattle.phd_read.specs.ReadTheorems.{prefix_agrees}
use Rattle.phd_write.specs.Write.{write_rows}
use Rattle.phd_write.specs.WriteTheorems.{written_dump}
use Rattle.classes_read.specs.ClassesRead.{classes_result}
use Rattle.classes_read.specs.ClassesTheorems.{read_rows, enough_entries, rows_first}
use Rattle.phd_round_trip.specs.CutRecords.{all_refs}
use Rattle.phd_round_trip.specs.RoundTripTheorems.{RoundTrip, round_trip, PrefixRead, prefix_read}

-- ---- the keys of records

-- The rows of records, without the places of their names.
rows_in : List Rec → List Row
rows_in [] = []
rows_in (r ∷ rs) = r.row ∷ rows_in rs

keys_without : (ks : List Key) (names refs : List ℕ) (rows : List Row) → keys_from ks (rows_in (recs names refs rows)) ≡ keys_from ks rows
unfolding rows_in recs rec_of without_place keys_from keyed key_of
keys_without ks names refs [] = refl
keys_without ks names refs (r ∷ rows) = keys_without (keyed r ks) names refs rows

-- Rows with the same records have the same keys.
keys_same : (names names' refs refs' : List ℕ) (a b : List Row) → recs names refs a ≡ recs names' refs' b → keys a ≡ keys b
unfolding keys
keys_same names names' refs refs' a b e = sym (keys_without [] names refs a) ∙ (ap (λ (x : List Rec). keys_from [] (rows_in x)) e ∙ keys_without [] names' refs' b)

-- ---- cuts

-- With entries for the whole, a cut needs no more.
cut_enough : (b : List ℕ) (m R F C : ℕ) → length b ≤ limit → length (keys (read_rows b R F)) ≤ C → classes_result (take m b) R F C ≡ read_result (take m b) R F
cut_enough b m R F C l k =
    let t : take (length b) b ≡ b = take-length b in
    elim (dec_le m (length b)) [
      | yes y ↦
          let p = rw t at (prefix_agrees b m (length b) R R F F y (rw t l) (omega arith) (omega arith)).rows in
          let e = rows_first (take m b) b R R F F p in
          let g = keys_grow (read_rows (take m b) R F) (drop (row_count (read_result (take m b) R F).rows) (read_rows b R F)) in
          let n = rw (← e) at g in
          enough_entries (take m b) R F C (rw (length_is (read_rows (take m b) R F)) (omega arith))
      | no y ↦
          let e : take m b ≡ b = take_all m b (omega arith) in
          rw e (enough_entries b R F C (rw (length_is (read_rows b R F)) k))
    ]

module _ (h : Header) (names refs : List ℕ) (rows : List Row) (out_capacity R F C : ℕ) (z : (write_rows h names refs rows out_capacity).answer.reply ≡ 0)
    (p : length rows * row_width ≤ R) (q : length (all_refs (recs names refs rows)) ≤ F) (c : length (summaries rows) ≤ C) where
  abbrev bytes : List ℕ
  bytes = (write_rows h names refs rows out_capacity).bytes

  within_limit : length bytes ≤ limit
  within_limit = (written_dump h names refs rows out_capacity z).within_limit

  -- The whole dump has the keys of the rows passed in.
  whole_keys : keys (read_rows bytes R F) ≡ keys rows
  whole_keys = keys_same bytes names _ refs (read_rows bytes R F) rows (round_trip h names refs rows out_capacity R F z p q).records

  whole_fits : length (keys (read_rows bytes R F)) ≤ C
  whole_fits = rw (whole_keys, ← length_is rows) c

  -- The round trip.
  pub classes_round_trip : RoundTrip h names refs rows bytes (classes_result bytes R F C)
  classes_round_trip = rw (enough_entries bytes R F C (rw (length_is (read_rows bytes R F)) whole_fits)) (round_trip h names refs rows out_capacity R F z p q)

  -- Any cut.
  pub classes_cut : (m : ℕ) → PrefixRead h names refs rows bytes m (classes_result (take m bytes) R F C)
  classes_cut m = rw (cut_enough bytes m R F C within_limit whole_fits) (prefix_read h names refs rows out_capacity m R F z p q)
