-- A dump written with reply 0 is good, and its references lie within those passed in.
-- Assumes nothing.
use Rattle.std.specs.Prelude.{◌≡◌, ℕ, suc, ◌+◌, ◌*◌, ◌≤◌, None}
use Rattle.std.proofs.Math.Path.{refl}
use Rattle.std.proofs.Common.{ap}
use mathlib.Core.List.{List, [], ◌∷◌}
use Rattle.std.proofs.Math.ListN.{length, length-append}
use native.Mathlib.Omega.{arith}
use Rattle.table.specs.Table.{row_width}
use Rattle.table.specs.Rows.{without_place, refs_of, rec_of, recs}
use Rattle.table.specs.declared.Row.{Row}
use Rattle.phd.specs.declared.Header.{Header}
use Rattle.phd_check.specs.GoodRows.{first_bad_from}
use Rattle.phd_check.specs.WellFormed.{good_rec, spans_in_bounds, none_bad, header_bits_good, header_vm_good}
use Rattle.phd_write.specs.Write.{write_rows}
use Rattle.phd_write.specs.WriteOutcomes.{reply_0_means}
use Rattle.phd_round_trip.specs.CutRecords.{all_refs}
use Rattle.phd_round_trip.specs.CutRecordLaws.{AllGood}
use Rattle.phd_round_trip.specs.DumpRoundTrip.{GoodDump}

module _ (h : Header) (names refs : List ℕ) where
  -- Rows of which none is bad give good records.
  recs_good : (rows : List Row) (i index : ℕ) → first_bad_from h names refs i index rows ≡ None → AllGood h index (recs names refs rows)
  unfolding recs rec_of without_place
  recs_good [] i index e = tt
  recs_good (r ∷ rows) i index e =
      let b = none_bad h names refs i index r rows e in
      (record { good = good_rec h names refs index r b.0; place_zero = refl }, recs_good rows (suc i) (index + r.count) b.1)

  -- The references of rows of which none is bad lie within those passed in.
  pub refs_in_bounds : (rows : List Row) (i index : ℕ) → first_bad_from h names refs i index rows ≡ None → index ≤ length refs
      → index + length (all_refs (recs names refs rows)) ≤ length refs
  unfolding recs all_refs rec_of without_place
  refs_in_bounds [] i index e l = omega arith
  refs_in_bounds (r ∷ rows) i index e l =
      let b = none_bad h names refs i index r rows e in
      let g = good_rec h names refs index r b.0 in
      let k : length (refs_of refs r) ≡ r.count = g.count in
      let f : r.first ≡ index = g.first in
      let s : r.first + r.count ≤ length refs = (spans_in_bounds h names refs index r b.0).span in
      let ih = refs_in_bounds rows (suc i) (index + r.count) b.1 (omega arith) in
      simp length-append (omega arith)

  -- A dump written with reply 0 is good.
  pub written_is_good : (rows : List Row) (out_capacity : ℕ) → (write_rows h names refs rows out_capacity).answer.reply ≡ 0 → GoodDump names h (recs names refs rows)
  written_is_good rows out_capacity z =
      let s = reply_0_means h names refs rows out_capacity z in
      record {
        bits = header_bits_good h names rows refs s.0.0;
        vm = header_vm_good h names rows refs s.0.0;
        records = recs_good rows 0 0 s.0.1;
        size = s.2;
      }

-- There is one record for each row.
pub length_recs : (names refs : List ℕ) (rows : List Row) → length (recs names refs rows) ≡ length rows
unfolding recs
length_recs names refs [] = refl
length_recs names refs (r ∷ rows) = ap suc (length_recs names refs rows)

-- Capacity for the rows is capacity for their records.
pub rows_capacity : (names refs : List ℕ) (rows : List Row) (R : ℕ) → length rows * row_width ≤ R → row_width * length (recs names refs rows) ≤ R
rows_capacity names refs rows R l = let e = length_recs names refs rows in omega arith
