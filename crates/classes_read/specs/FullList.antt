-- Reply 20 is at the tag of the first record that has no entry: a reading with capacity for n rows, of a dump that gives more, ends with 13
-- at the offset of row n.
-- Assumes nothing.
use Rattle.std.specs.Prelude.{◌≡◌, Bool, true, false, List, ◌++◌, leb, length, get_or}
use Rattle.std.proofs.Math.Path.{refl}
use Rattle.std.proofs.Common.{sym, ap, ◌∙◌, arith, length-append, get_or-append-add}
use Prim.Native.Nat.{ℕ, zero, suc, ◌+◌, ◌*◌, ◌≤◌, ◌<◌}
use Rattle.std.proofs.Math.Decide.{dec_le}
use Rattle.std.proofs.Math.ListN.{get_or-append}
use Rattle.decode.specs.Layout.{Outcome, whole, stops, run}
use Rattle.table.specs.Table.{row_width}
use Rattle.reader.specs.Reader.{limit, Capacity, capacity, end_item, item, Format, ItemOf, State, Result, ended, append_item, next_item, records, initial_state, no_records, from_header, read_result}
use Rattle.reader.specs.Steps.{Lawful, ValidRow, empty_row, full_row, records_go, records_halt, step_end, step_item, step_no_row, step_stop}
use Rattle.reader.proofs.Steps.{step_no_refs}
use Rattle.reader.proofs.Prefixes.{records_extend}
use Rattle.reader.specs.RowOrigins.{offset_of}

-- The reading ended with 13 at the offset of row n of these rows.
pub record EndsAtRow {D : Format} (r : Result D) (rows : List ℕ) (n : ℕ) : Type 0 where
  pub reply : r.reply ≡ 13
  pub place : r.place ≡ offset_of rows n

module _ (D : Format) (lawful : Lawful D) (h : D.Header) (s : List ℕ) (R F n : ℕ) (le : n * row_width ≤ R) where
  abbrev A : Capacity
  A = capacity R F

  abbrev A' : Capacity
  A' = capacity (n * row_width) F

  -- Row n is the row of the record at the state, whose offset is its number 12.
  row_offset : (st : State D) (r rs : List ℕ) (c : D.Context) (e f : ℕ) → length st.rows ≡ n * row_width → ValidRow st.at r → 0 < length r
      → st.at ≡ offset_of (records D f h s A (append_item st r rs c e)).rows n
  row_offset st r rs c e f l (empty_row z) p = absurd (omega arith)
  row_offset st r rs c e f l (full_row z o) p =
      let x = (records_extend D h s A f (append_item st r rs c e)).0 in
      let a : get_or ((st.rows ++ r) ++ x.more) (n * row_width + 12) 0 ≡ st.at =
      get_or-append (st.rows ++ r) x.more 0 (n * row_width + 12) (rw (length-append st.rows r) (omega arith)) ∙ (rw (← l) (get_or-append-add st.rows r 12 0) ∙ o) in
      sym (rw x.all at a)

  -- From a state with at most n rows.
  cut_from : (f : ℕ) (st : State D) (m : ℕ) → length st.rows ≡ m * row_width → m ≤ n → n * row_width < length (records D f h s A st).rows
      → EndsAtRow (records D f h s A' st) (records D f h s A st).rows n
  unfolding records ended
  cut_from zero st m w l k = absurd (omega arith)
  cut_from (suc f) st m w l k = by (next_item D h s st) refl (cut_from f)
    where
      Goal : Type 0
      Goal = EndsAtRow (records D (suc f) h s A' st) (records D (suc f) h s A st).rows n

      none : {x : Result D} → records D (suc f) h s A st ≡ x → x.rows ≡ st.rows → Goal
      none e q = absurd (let z = ap (λ (y : Result D). length y.rows) e ∙ ap length q in omega arith)

      stored : (r rs : List ℕ) (c : D.Context) (e : ℕ) (note : D.Note) → next_item D h s st ≡ whole (item r rs note c) e → ValidRow st.at r → length st.rows + length r ≤ R → length st.refs + length rs ≤ F
          → ((st' : State D) (j : ℕ) → length st'.rows ≡ j * row_width → j ≤ n → n * row_width < length (records D f h s A st').rows → EndsAtRow (records D f h s A' st') (records D f h s A st').rows n)
          → Goal
      stored r rs c e note is v p q ih =
          let st' : State D = append_item st r rs c e in
          let g : records D (suc f) h s A st ≡ records D f h s A st' = records_go D f h s A st st' (step_item D h s A st r rs note c e is p q) in
          let k' : n * row_width < length (records D f h s A st').rows = rw (← g) k in
          let len = length-append st.rows r in
          elim (dec_le (length st.rows + length r) (n * row_width)) [
            | yes y ↦
                let g' : records D (suc f) h s A' st ≡ records D f h s A' st' = records_go D f h s A' st st' (step_item D h s A' st r rs note c e is y q) in
                rw (g, g') (ih st' (rows_with v) (len ∙ rows_are v) (rows_le v y) k')
            | no y ↦
                let x : records D (suc f) h s A' st ≡ ended h st 13 st.at 0 = records_halt D f h s A' st _ (step_no_row D h s A' st r rs note c e is (omega arith)) in
                rw (g, x) (record { reply = refl; place = row_offset st r rs c e f (at_n v y) v (long y) })
          ]
        where
          rows_with : ValidRow st.at r → ℕ
          rows_with (empty_row z) = m
          rows_with (full_row z o) = m + 1

          rows_are : (v : ValidRow st.at r) → length st.rows + length r ≡ rows_with v * row_width
          rows_are (empty_row z) = omega arith
          rows_are (full_row z o) = omega arith

          rows_le : (v : ValidRow st.at r) → length st.rows + length r ≤ n * row_width → rows_with v ≤ n
          rows_le (empty_row z) y = l
          rows_le (full_row z o) y = omega arith

          long : (length st.rows + length r ≤ n * row_width → ⊥) → 0 < length r
          long y = omega arith

          at_n : ValidRow st.at r → (length st.rows + length r ≤ n * row_width → ⊥) → length st.rows ≡ n * row_width
          at_n (empty_row z) y = absurd (y (omega arith))
          at_n (full_row z o) y = omega arith

      by : (o : Outcome (ItemOf D)) → next_item D h s st ≡ o
          → ((st' : State D) (j : ℕ) → length st'.rows ≡ j * row_width → j ≤ n → n * row_width < length (records D f h s A st').rows → EndsAtRow (records D f h s A' st') (records D f h s A st').rows n)
          → Goal
      by (whole end_item e) is ih = none (records_halt D f h s A st _ (step_end D h s A st e is)) refl
      by (stops w') is ih = none (records_halt D f h s A st _ (step_stop D h s A st w' is)) refl
      by (whole (item r rs note c) e) is ih = elim (dec_le (length st.rows + length r) R) [
        | no p ↦ none (records_halt D f h s A st _ (step_no_row D h s A st r rs note c e is (omega arith))) refl
        | yes p ↦ elim (dec_le (length st.refs + length rs) F) [
          | no q ↦ none (records_halt D f h s A st _ (step_no_refs D h s A st r rs note c e is p (omega arith))) refl
          | yes q ↦ stored r rs c e note is (lawful.row h st.context (length st.refs) s st.at r rs note c e is) p q ih
        ]
      ]

-- The same of a whole reading.
pub cut_short : (D : Format) → Lawful D → (s : List ℕ) (R F n : ℕ) → n * row_width ≤ R → n * row_width < length (read_result D s (capacity R F)).rows
    → EndsAtRow (read_result D s (capacity (n * row_width) F)) (read_result D s (capacity R F)).rows n
unfolding read_result from_header initial_state no_records
cut_short D lawful s R F n le = by_size (leb (length s) limit)
  where
    by_header : (o : Outcome D.Header) → n * row_width < length (from_header D s (capacity R F) o).rows → EndsAtRow (from_header D s (capacity (n * row_width) F) o) (from_header D s (capacity R F) o).rows n
    by_header (whole h e) l = cut_from D lawful h s R F n le (suc limit) (initial_state D (D.start h) e) 0 refl (omega arith) l
    by_header (stops w) l = absurd (omega arith)

    sized : Bool → Capacity → Result D
    sized b A = elim b [ true ↦ from_header D s A (run D.header s 0) | false ↦ no_records D 2 0 ]

    by_size : (b : Bool) → n * row_width < length (sized b (capacity R F)).rows → EndsAtRow (sized b (capacity (n * row_width) F)) (sized b (capacity R F)).rows n
    by_size true l = by_header (run D.header s 0) l
    by_size false l = absurd (omega arith)
