-- A reading into a smaller row table that still holds all rows stored stores the same, for any format.
-- Assumes nothing.
use Rattle.std.specs.Prelude.{◌≡◌, Bool, true, false, List, ◌++◌, leb}
use Rattle.std.proofs.Math.Path.{refl}
use Rattle.std.proofs.Common.{sym, ap, ◌∙◌}
use Prim.Native.Nat.{ℕ, zero, suc, ◌+◌, ◌≤◌, ◌<◌}
use Rattle.std.proofs.Math.Decide.{dec_le}
use native.Mathlib.Omega.{arith}
use Rattle.std.proofs.Math.ListN.{length, length-append}
use Rattle.decode.specs.Layout.{Outcome, whole, stops, run}
use Rattle.reader.specs.Reader.{limit, Capacity, capacity, end_item, item, Format, ItemOf, State, Result, halt, ended, append_item, next_item, step, records, initial_state, no_records, from_header, read_result}
use Rattle.reader.specs.Steps.{records_go, records_halt, step_end, step_item, step_no_row, step_stop}
use Rattle.reader.proofs.Steps.{step_no_refs}
use Rattle.reader.proofs.Prefixes.{records_extend}
use Rattle.reader.specs.SmallerTables.{SameTables}

same_tables : {D : Format} {x y : Result D} → x ≡ y → SameTables x y
same_tables e = record { rows = ap (λ r. r.rows) e; refs = ap (λ r. r.refs) e }

module _ (D : Format) (h : D.Header) (s : List ℕ) (R R' F : ℕ) (le : R' ≤ R) where
  abbrev A : Capacity
  A = capacity R F

  abbrev A' : Capacity
  A' = capacity R' F

  -- The tables of a state are not longer than those that a reading from it ends with.
  rows_le : (f : ℕ) (st : State D) → length st.rows ≤ length (records D f h s A st).rows
  rows_le f st =
      let p = (records_extend D h s A f st).0 in
      let e : length st.rows + length p.more ≡ length (records D f h s A st).rows = sym (length-append st.rows p.more) ∙ ap length p.all in
      omega arith

  halts : (f : ℕ) (st : State D) (x y : Result D) → step D h s A st ≡ halt x → step D h s A' st ≡ halt y → SameTables y x → SameTables (records D (suc f) h s A' st) (records D (suc f) h s A st)
  halts f st x y e e' t = rw (records_halt D f h s A st x e, records_halt D f h s A' st y e') t

  -- If the rows that a reading ends with fit the smaller table, a reading into it ends with the same tables.
  pub smaller_from : (f : ℕ) (st : State D) → length (records D f h s A st).rows ≤ R' → SameTables (records D f h s A' st) (records D f h s A st)
  unfolding records ended
  smaller_from zero st l = record { rows = refl; refs = refl }
  smaller_from (suc f) st l = by (next_item D h s st) refl (smaller_from f)
    where
      by : (o : Outcome (ItemOf D)) → next_item D h s st ≡ o → ((st' : State D) → length (records D f h s A st').rows ≤ R' → SameTables (records D f h s A' st') (records D f h s A st'))
          → SameTables (records D (suc f) h s A' st) (records D (suc f) h s A st)
      by (whole end_item n) e ih = halts f st _ _ (step_end D h s A st n e) (step_end D h s A' st n e) (record { rows = refl; refs = refl })
      by (stops w) e ih = halts f st _ _ (step_stop D h s A st w e) (step_stop D h s A' st w e) (record { rows = refl; refs = refl })
      by (whole (item r rs m c) n) e ih = elim (dec_le (length st.rows + length r) R) [
        | no p ↦
            let q : R < length st.rows + length r = omega arith in
            halts f st _ _ (step_no_row D h s A st r rs m c n e q) (step_no_row D h s A' st r rs m c n e (omega arith)) (record { rows = refl; refs = refl })
        | yes p ↦ elim (dec_le (length st.refs + length rs) F) [
          | yes q ↦
              let g = step_item D h s A st r rs m c n e p q in
              let st' : State D = append_item st r rs c n in
              let t : records D (suc f) h s A st ≡ records D f h s A st' = records_go D f h s A st st' g in
              let k : length (records D f h s A st').rows ≤ R' = rw (← t) l in
              let x = rows_le f st' in
              let z : length (st.rows ++ r) ≡ length st.rows + length r = length-append st.rows r in
              let y : length st.rows + length r ≤ R' = omega arith in
              rw (t, records_go D f h s A' st st' (step_item D h s A' st r rs m c n e y q)) (ih st' k)
          | no q ↦ elim (dec_le (length st.rows + length r) R') [
            | yes y ↦ halts f st _ _ (step_no_refs D h s A st r rs m c n e p (omega arith)) (step_no_refs D h s A' st r rs m c n e y (omega arith)) (record { rows = refl; refs = refl })
            | no y ↦ halts f st _ _ (step_no_refs D h s A st r rs m c n e p (omega arith)) (step_no_row D h s A' st r rs m c n e (omega arith)) (record { rows = refl; refs = refl })
          ]
        ]
      ]

-- The same of a whole reading.
pub smaller_tables : (D : Format) (s : List ℕ) (R R' F : ℕ) → R' ≤ R → length (read_result D s (capacity R F)).rows ≤ R'
    → SameTables (read_result D s (capacity R' F)) (read_result D s (capacity R F))
unfolding read_result from_header
smaller_tables D s R R' F le = by_size (leb (length s) limit)
  where
    by_header : (o : Outcome D.Header) → length (from_header D s (capacity R F) o).rows ≤ R' → SameTables (from_header D s (capacity R' F) o) (from_header D s (capacity R F) o)
    by_header (whole h n) l = smaller_from D h s R R' F le (suc limit) (initial_state D (D.start h) n) l
    by_header (stops w) l = record { rows = refl; refs = refl }

    sized : Bool → Capacity → Result D
    sized b A = elim b [ true ↦ from_header D s A (run D.header s 0) | false ↦ no_records D 2 0 ]

    by_size : (b : Bool) → length (sized b (capacity R F)).rows ≤ R' → SameTables (sized b (capacity R' F)) (sized b (capacity R F))
    by_size true l = by_header (run D.header s 0) l
    by_size false l = record { rows = refl; refs = refl }
