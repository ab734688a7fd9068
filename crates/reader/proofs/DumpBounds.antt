-- The length of a dump bounds the rows and references that any reading of it stores, for any format; tables of that capacity are
-- never too small.
-- A reader must believe `LeastBytes`, the least number of bytes that a format's header and records take, and the statements.
use Rattle.std.specs.Prelude.{◌≡◌, refl, ℕ, ◌+◌, ◌-◌, ◌*◌, ◌/◌, ◌%◌, ◌≤◌, ◌<◌, ◌⊎◌, List, ◌++◌}
use Rattle.std.proofs.Common.{add-mul, le-div_iff_mul-le, arith, inl, inr}
use Rattle.std.proofs.Math.Decide.{dec_le}
use Rattle.std.proofs.Math.ListN.{length, length-append}
use Rattle.decode.specs.Layout.{Outcome, whole, stops, run, end_in_bounds}
use Rattle.decode.specs.Values.{Refuses}
use Rattle.table.specs.Table.{row_width, row_count}
use Rattle.reader.specs.Reader.{Capacity, end_item, item, Format, ItemOf, State, Transition, ended, append_item, next_item, step, initial_state, no_records, read_result}
use Rattle.reader.specs.Steps.{Lawful, OnTransition, step_end, step_stop, step_item, step_no_row, read_induction}
use Rattle.reader.proofs.Steps.{step_no_refs, step_cases}
use Rattle.reader.specs.WithinCapacity.{whole_rows_append, stop_reply}
use Rattle.reader.specs.DumpBounds.{LeastBytes}

-- Appending to whole rows adds the numbers of rows.
row_count_append : (rows r : List ℕ) → length rows % row_width ≡ 0 → row_count (rows ++ r) ≡ row_count rows + row_count r
unfolding row_count
row_count_append rows r w = simp length-append (omega arith)

module _ (D : Format) (lawful : Lawful D) (min_header min_record : ℕ) (least : LeastBytes D min_header min_record) (s : List ℕ) (A : Capacity) where
  -- The invariant between records: the header and all that is stored have their least bytes before the offset reached.
  record BytesBefore (st : State D) : Type 0 where
    pub whole_rows : length st.rows % row_width ≡ 0
    pub bytes : min_header + (row_count st.rows * min_record + length st.refs) ≤ st.at
    pub within : st.at ≤ length s

  bytes_before_start : (h : D.Header) (n : ℕ) → run D.header s 0 ≡ whole h n → BytesBefore (initial_state D (D.start h) n)
  unfolding initial_state row_count
  bytes_before_start h n e =
      let l = least.header s h n e in
      record { whole_rows = refl; bytes = omega arith; within = end_in_bounds D.header s 0 h n (omega arith) e }

  -- The invariant holds after one more record.
  module _ (h : D.Header) (st : State D) (g : BytesBefore st) (r rs : List ℕ) (m : D.Note) (c : D.Context) (n : ℕ)
      (e : next_item D h s st ≡ whole (item r rs m c) n) where
    bytes_before_next : BytesBefore (append_item st r rs c n)
    bytes_before_next =
        let l = least.entry h st.context (length st.refs) s st.at r rs m c n e in
        let p = lawful.advances h st.context (length st.refs) s st.at _ n e in
        let k : row_count (st.rows ++ r) * min_record ≡ row_count st.rows * min_record + row_count r * min_record =
        rw (row_count_append st.rows r g.whole_rows, add-mul) in
        record {
          whole_rows = whole_rows_append st.rows r g.whole_rows (lawful.row h st.context (length st.refs) s st.at r rs m c n e);
          bytes = simp length-append (omega (arith, g.bytes));
          within = p.1;
        }

  -- Rows times `min_record`, plus references, are at most the length of the dump minus `min_header`.
  pub stored_bound : row_count (read_result D s A).rows * min_record + length (read_result D s A).refs ≤ length s - min_header
  unfolding ended no_records row_count
  stored_bound =
      read_induction D s A (λ h st. BytesBefore st) (λ r. row_count r.rows * min_record + length r.refs ≤ length s - min_header)
      (omega arith) (λ w e. omega arith) bytes_before_start
      (λ h st g. step_cases D (OnTransition BytesBefore (λ r. row_count r.rows * min_record + length r.refs ≤ length s - min_header)) h s A st
      (λ n e. held st g) (λ r rs m c n e p q. bytes_before_next h st g r rs m c n e) (held st g) (held st g) (λ w e. held st g))
      (λ h st g. held st g)
    where
      held : (st : State D) → BytesBefore st → row_count st.rows * min_record + length st.refs ≤ length s - min_header
      held st g = omega (arith, g.bytes, g.within)

  -- ---- sufficient capacity

  -- There is capacity for as many rows as the dump can have.
  abbrev pub RowsEnough : Type 0
  RowsEnough = (length s - min_header) / min_record * row_width ≤ A.rows

  -- There is capacity for as many references as the dump can have.
  abbrev pub RefsEnough : Type 0
  RefsEnough = length s - min_header ≤ A.refs

  module _ (some : 0 < min_record) (st : State D) (g : BytesBefore st) where
    -- With that capacity, the rows and references of such a state fit.
    rows_fit : RowsEnough → length st.rows ≤ A.rows
    unfolding row_count
    rows_fit h =
        let l : row_count st.rows ≤ (length s - min_header) / min_record = (le-div_iff_mul-le some).1 (omega (arith, g.bytes, g.within)) in
        omega (arith, g.whole_rows, l)

    refs_fit : RefsEnough → length st.refs ≤ A.refs
    refs_fit h = omega (arith, g.bytes, g.within)

  -- P holds for the reply of a reading if it holds for 0, 1, 2 and the replies that the format's layouts refuse with, for 13
  -- unless there is enough capacity for rows, and for 14 unless there is enough for references.
  module _ (some : 0 < min_record) (P : ℕ → Type 0) (done : P 0) (cut : P 1) (long : P 2) (head : Refuses P D.header)
      (body : (h : D.Header) (c : D.Context) (index : ℕ) → Refuses P (D.entry h c index)) (rows : RowsEnough ⊎ P 13) (refs : RefsEnough ⊎ P 14) where
    abbrev BytesOrReply : Transition D → Type 0
    BytesOrReply = OnTransition BytesBefore (λ r. P r.reply)

    module _ (h : D.Header) (st : State D) (g : BytesBefore st) (r rs : List ℕ) (m : D.Note) (c : D.Context) (n : ℕ)
        (e : next_item D h s st ≡ whole (item r rs m c) n) where
      on : BytesBefore (append_item st r rs c n)
      on = bytes_before_next h st g r rs m c n e

      by_rows : A.rows < length st.rows + length r → RowsEnough ⊎ P 13 → BytesOrReply (step D h s A st)
      unfolding ended
      by_rows p (inl l) = absurd (let k : length st.rows + length r ≤ A.rows = rw length-append at (rows_fit some _ on l) in omega arith)
      by_rows p (inr x) = rw (step_no_row D h s A st r rs m c n e p) x

      by_refs : length st.rows + length r ≤ A.rows → A.refs < length st.refs + length rs → RefsEnough ⊎ P 14 → BytesOrReply (step D h s A st)
      unfolding ended
      by_refs p q (inl l) = absurd (let k : length st.refs + length rs ≤ A.refs = rw length-append at (refs_fit some _ on l) in omega arith)
      by_refs p q (inr x) = rw (step_no_refs D h s A st r rs m c n e p q) x

      by_item : BytesOrReply (step D h s A st)
      by_item = elim (dec_le (length st.rows + length r) A.rows) [
        | no p ↦ by_rows (omega arith) rows
        | yes p ↦ elim (dec_le (length st.refs + length rs) A.refs) [
          | no q ↦ by_refs p (omega arith) refs
          | yes q ↦ rw (step_item D h s A st r rs m c n e p q) on
        ]
      ]

    by_outcome : (h : D.Header) (st : State D) (g : BytesBefore st) (o : Outcome (ItemOf D)) → next_item D h s st ≡ o → BytesOrReply (step D h s A st)
    unfolding ended
    by_outcome h st g (whole end_item n) e = rw (step_end D h s A st n e) done
    by_outcome h st g (whole (item r rs m c) n) e = by_item h st g r rs m c n e
    by_outcome h st g (stops w) e = rw (step_stop D h s A st w e) (stop_reply (D.entry h st.context (length st.refs)) cut (body h _ _) s st.at w e)

    -- In particular, with enough capacity the reply is neither 13 nor 14, unless a layout refuses with them.
    pub reply_when_enough : P (read_result D s A).reply
    unfolding ended no_records
    reply_when_enough =
        read_induction D s A (λ h st. BytesBefore st) (λ r. P r.reply) long (λ w e. stop_reply D.header cut head s 0 w e) bytes_before_start
        (λ h st g. by_outcome h st g (next_item D h s st) refl)
        (λ h st g. done)
