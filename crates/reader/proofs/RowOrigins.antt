-- Every row that a reading stores has its origin, for any format; a record ends at or before the offset of every later row, and where
-- every record has a row, row i came from record i.
use Rattle.std.specs.Prelude.{◌≡◌, refl, List, [], ◌∷◌, ◌++◌, get_or, take}
use Rattle.std.proofs.Math.Path.{sym, ap}
use Rattle.std.proofs.Common.{subst, ◌∙◌, zero-add, suc-add, append-nil, length-append, take_at}
use Prim.Native.Nat.{ℕ, zero, suc, ◌+◌, ◌-◌, ◌*◌, ◌%◌, ◌≤◌, ◌<◌}
use Rattle.std.proofs.Math.Decide.{dec_le}
use native.Mathlib.Omega.{arith}
use Rattle.std.proofs.Math.ListN.{length}
use Rattle.std.proofs.lemmas.List.{take-append-le}
use Rattle.std.proofs.Math.Seq.{length-take-le}
use Rattle.decode.specs.Layout.{whole, run, end_in_bounds}
use Rattle.table.specs.Table.{row_width, offset_number, row_count, whole_append, whole_length, row_slice_append, number_append, row_slice_last, number_last, every_row_snoc}
use Rattle.reader.specs.Reader.{Capacity, item, Format, ItemOf, State, Transition, go, halt, ended, append_item, next_item, step, initial_state, no_records, read_result}
use Rattle.reader.specs.Prefixes.{prefix_append}
use Rattle.reader.specs.Steps.{ValidRow, empty_row, full_row, Lawful, step_item, Advances, OnTransition, read_induction}
use Rattle.reader.proofs.Steps.{step_cases, step_advances}
use Rattle.reader.specs.RowOrigins.{offset_of, StateAfter, RowOrigin, AllRowOrigins, AlwaysRow}

-- ---- appending a record

-- The invariant of the tables between records: whole rows, each with its origin, at increasing offsets before `at`.
record OriginRows (D : Format) (h : D.Header) (s : List ℕ) (A : Capacity) (at : ℕ) (rows refs : List ℕ) : Type 0 where
  pub whole_rows : length rows % row_width ≡ 0
  pub each : (i : ℕ) → i < row_count rows → RowOrigin D h s A rows refs i
  pub offset_lt : (i : ℕ) → i < row_count rows → offset_of rows i < at
  pub increasing : (i j : ℕ) → i < j → j < row_count rows → offset_of rows i < offset_of rows j

-- The invariant of the state between records.
record OriginState (D : Format) (h : D.Header) (s : List ℕ) (A : Capacity) (st : State D) : Type 0 where
  pub start : ℕ
  pub header_whole : run D.header s 0 ≡ whole h start
  pub count : ℕ
  pub here : StateAfter D h s A start count st
  pub within : st.at ≤ length s
  pub rows : OriginRows D h s A st.at st.rows st.refs

module _ (D : Format) (lawful : Lawful D) (h : D.Header) (s : List ℕ) (A : Capacity) where
  origin_start : (n : ℕ) → run D.header s 0 ≡ whole h n → OriginState D h s A (initial_state D (D.start h) n)
  unfolding initial_state row_count
  origin_start n e = record {
    start = n;
    header_whole = e;
    count = 0;
    here = refl;
    within = end_in_bounds D.header s 0 h n (omega arith) e;
    rows = record {
      whole_rows = refl;
      each = λ i l. absurd (omega arith);
      offset_lt = λ i l. absurd (omega arith);
      increasing = λ i j l k. absurd (omega arith);
    };
  }

  origin_end : (st : State D) (reply place missing : ℕ) → OriginState D h s A st → AllRowOrigins D s A (ended h st reply place missing)
  unfolding ended
  origin_end st reply place missing g =
      record { each = g.rows.each; inside = λ i l. omega (arith, g.rows.offset_lt i l, g.within); increasing = g.rows.increasing }

  module _ (st : State D) (g : OriginState D h s A st) (r rs : List ℕ) (m : D.Note) (c : D.Context) (n : ℕ)
      (e : next_item D h s st ≡ whole (item r rs m c) n)
      (p : length st.rows + length r ≤ A.rows) (q : length st.refs + length rs ≤ A.refs) where
    abbrev rows : List ℕ
    rows = st.rows

    w : length rows % row_width ≡ 0
    w = g.rows.whole_rows

    in_dump : (st.at < n) × (n ≤ length s)
    in_dump = lawful.advances h st.context (length st.refs) s st.at _ n e

    -- A record with no row: the rows keep their origins.
    origin_rows_no_row : OriginRows D h s A n rows (st.refs ++ rs)
    origin_rows_no_row = record {
      whole_rows = w;
      each = λ i b. let x = g.rows.each i b in record {
        start = x.start;
        header_whole = x.header_whole;
        count = x.count;
        before = x.before;
        reached = x.reached;
        rows_before = x.rows_before;
        refs_before = prefix_append x.refs_before rs;
        offset = x.offset;
        list = x.list;
        note = x.note;
        context = x.context;
        end = x.end;
        item_is = x.item_is;
      };
      offset_lt = λ i b. omega (arith, g.rows.offset_lt i b, in_dump.0);
      increasing = g.rows.increasing;
    }

    -- A record with a row.
    module _ (l : length r ≡ row_width) (o : get_or r offset_number 0 ≡ st.at) where
      offset_append : (i : ℕ) → i < row_count rows → offset_of (rows ++ r) i ≡ offset_of rows i
      offset_append i b = number_append rows r w l i offset_number b (omega arith)

      offset_last : offset_of (rows ++ r) (row_count rows) ≡ st.at
      offset_last = number_last rows r w l offset_number ∙ o

      -- The rows before it keep their origins.
      origin_append : (i : ℕ) → i < row_count rows → RowOrigin D h s A (rows ++ r) (st.refs ++ rs) i
      origin_append i b =
          let x = g.rows.each i b in
          record {
            start = x.start;
            header_whole = x.header_whole;
            count = x.count;
            before = x.before;
            reached = x.reached;
            rows_before = x.rows_before ∙ sym (take-append-le (i * row_width) rows r (omega (arith, whole_length rows r w l)));
            refs_before = prefix_append x.refs_before rs;
            offset = offset_append i b ∙ x.offset;
            list = x.list;
            note = x.note;
            context = x.context;
            end = x.end;
            item_is = rw (row_slice_append rows r w l i b) x.item_is;
          }

      -- The last row came from the state st.
      origin_last : RowOrigin D h s A (rows ++ r) (st.refs ++ rs) (row_count rows)
      origin_last = record {
        start = g.start;
        header_whole = g.header_whole;
        count = g.count;
        before = st;
        reached = g.here;
        rows_before = sym (take_at rows r (row_count rows * row_width) (whole_length rows r w l));
        refs_before = record { more = rs; all = refl };
        offset = offset_last;
        list = rs;
        note = m;
        context = c;
        end = n;
        item_is = rw (row_slice_last rows r w l) e;
      }

      origin_rows_row : OriginRows D h s A n (rows ++ r) (st.refs ++ rs)
      origin_rows_row = record {
        whole_rows = whole_append rows r w l;
        each = every_row_snoc rows r w l (RowOrigin D h s A (rows ++ r) (st.refs ++ rs)) origin_append origin_last;
        offset_lt = every_row_snoc rows r w l (λ i. offset_of (rows ++ r) i < n)
            (λ i b. rw (offset_append i b) (omega (arith, g.rows.offset_lt i b, in_dump.0)))
            (rw offset_last in_dump.0);
        increasing = λ i j b k. every_row_snoc rows r w l (λ j. (i : ℕ) → i < j → offset_of (rows ++ r) i < offset_of (rows ++ r) j)
            (λ j k i b. rw (offset_append i (omega arith), offset_append j k) (g.rows.increasing i j b k))
            (λ i b. rw (offset_append i b, offset_last) (g.rows.offset_lt i b)) j k i b;
      }

    origin_rows_next : ValidRow st.at r → OriginRows D h s A n (rows ++ r) (st.refs ++ rs)
    origin_rows_next (empty_row z) = rw (no_row r z, append-nil) origin_rows_no_row
      where
        no_row : (r : List ℕ) → length r ≡ 0 → r ≡ []
        no_row [] z = refl
        no_row (x ∷ xs) z = absurd (omega arith)
    origin_rows_next (full_row l o) = origin_rows_row l o

    origin_next : OriginState D h s A (append_item st r rs c n)
    origin_next = record {
      start = g.start;
      header_whole = g.header_whole;
      count = suc g.count;
      here = (st, g.here, step_item D h s A st r rs m c n e p q);
      within = in_dump.1;
      rows = origin_rows_next (lawful.row h st.context (length st.refs) s st.at r rs m c n e);
    }

-- ---- the whole reading

row_origins_none : (D : Format) (s : List ℕ) (A : Capacity) (reply missing : ℕ) → AllRowOrigins D s A (no_records D reply missing)
unfolding no_records row_count
row_origins_none D s A reply missing =
    record { each = λ i l. absurd (omega arith); inside = λ i l. absurd (omega arith); increasing = λ i j l k. absurd (omega arith) }

-- Every reading satisfies `AllRowOrigins`, for any bytes and any capacity.
pub read_row_origins : (D : Format) → Lawful D → (s : List ℕ) (A : Capacity) → AllRowOrigins D s A (read_result D s A)
read_row_origins D lawful s A =
    read_induction D s A (λ h st. OriginState D h s A st) (AllRowOrigins D s A)
    (row_origins_none D s A 2 0)
    (λ w e. row_origins_none D s A _ _)
    (λ h n e. origin_start D lawful h s A n e)
    (λ h st g. step_cases D (OnTransition (OriginState D h s A) (AllRowOrigins D s A)) h s A st
    (λ n e. origin_end D lawful h s A st 0 n 0 g)
    (origin_next D lawful h s A st g)
    (origin_end D lawful h s A st 13 st.at 0 g)
    (origin_end D lawful h s A st 14 st.at 0 g)
    (λ w e. origin_end D lawful h s A st _ st.at _ g))
    (λ h st g. origin_end D lawful h s A st 0 st.at 0 g)

-- ---- consecutive records

module _ (D : Format) (h : D.Header) (s : List ℕ) (A : Capacity) where
  -- Only one state is reached after i records.
  state_after_unique : (n i : ℕ) (a b : State D) → StateAfter D h s A n i a → StateAfter D h s A n i b → a ≡ b
  state_after_unique n zero a b p q = p ∙ sym q
  state_after_unique n (suc i) a b p q =
      let e : p.0 ≡ q.0 = state_after_unique n i p.0 q.0 p.1 q.1 in
      let g : step D h s A q.0 ≡ go a = rw e at p.2 in
      let y : go a ≡ go b = sym g ∙ q.2 in
      cc

  -- A step that goes on leads to the end of the record found.
  module _ (st : State D) (i : ItemOf D) (n : ℕ) (e : next_item D h s st ≡ whole i n) where
    abbrev EndsAt : Transition D → Type 0
    EndsAt (go st') = st'.at ≡ n
    EndsAt (halt r) = Unit {0}

    step_ends_at : EndsAt (step D h s A st)
    step_ends_at =
        step_cases D EndsAt h s A st (λ m g. tt)
        (λ r rs m c k g _ _. let y : whole (item r rs m c) k ≡ whole i n = sym g ∙ e in let x : k ≡ n = cc in x)
        tt tt (λ w g. tt)

    step_place : (st' : State D) → step D h s A st ≡ go st' → st'.at ≡ n
    step_place st' g = rw g at step_ends_at

  -- A step that goes on removes no row.
  module _ (st : State D) where
    abbrev RowsGrow : Transition D → Type 0
    RowsGrow (go st') = length st.rows ≤ length st'.rows
    RowsGrow (halt r) = Unit {0}

    step_rows_grow : RowsGrow (step D h s A st)
    step_rows_grow = step_cases D RowsGrow h s A st (λ m g. tt) (λ r rs m c k g _ _. simp length-append (omega arith)) tt tt (λ w g. tt)

  after_rows_grow : (n i j : ℕ) (a b : State D) → StateAfter D h s A n i a → StateAfter D h s A n (j + i) b → length a.rows ≤ length b.rows
  after_rows_grow n i zero a b p q = let e : a ≡ b = state_after_unique n i a b p (rw zero-add at q) in rw e (omega arith)
  after_rows_grow n i (suc j) a b p q =
      let t : StateAfter D h s A n (suc (j + i)) b = rw (suc-add j i) at q in
      let l = after_rows_grow n i j a t.0 p t.1 in
      let k : length t.0.rows ≤ length b.rows = rw t.2 at (step_rows_grow t.0) in
      omega arith

  module _ (lawful : Lawful D) where
    -- If b is a state after a, the step from a goes on, and its end is at or before b.
    later_place : (n i j : ℕ) (a b : State D) → StateAfter D h s A n i a → StateAfter D h s A n (suc (j + i)) b
        → (st : State D) × (step D h s A a ≡ go st) × (st.at ≤ b.at)
    later_place n i zero a b p q =
        let t : StateAfter D h s A n (suc i) b = rw zero-add at q in
        let e : t.0 ≡ a = state_after_unique n i t.0 a t.1 p in
        (b, rw e at t.2, omega arith)
    later_place n i (suc j) a b p q =
        let t : StateAfter D h s A n (suc (suc (j + i))) b = rw (suc-add j i) at q in
        let m = later_place n i j a t.0 p t.1 in
        let o : Advances t.0 s (go b) = rw t.2 at (step_advances D lawful h s A t.0) in
        (m.0, m.1, omega (arith, m.2, o.0))

    -- A record ends at or before the offset of every later row.
    pub record_ends_before : (rows refs : List ℕ) (i j : ℕ) → i < j → j < row_count rows → (x : RowOrigin D h s A rows refs i) (y : RowOrigin D h s A rows refs j)
        → x.end ≤ offset_of rows j
    unfolding row_count
    record_ends_before rows refs i j l b x y =
        let u : whole h y.start ≡ whole h x.start = sym y.header_whole ∙ x.header_whole in
        let m : y.start ≡ x.start = cc in
        let q : StateAfter D h s A x.start y.count y.before = rw m at y.reached in
        let f : length x.before.rows ≡ i * row_width = ap length x.rows_before ∙ length-take-le (i * row_width) rows (omega arith) in
        let g : length y.before.rows ≡ j * row_width = ap length y.rows_before ∙ length-take-le (j * row_width) rows (omega arith) in
        elim (dec_le y.count x.count) [
          | yes c ↦
              let e : x.count - y.count + y.count ≡ x.count = omega arith in
              let k = after_rows_grow x.start y.count (x.count - y.count) y.before x.before q (rw e x.reached) in
              absurd (omega arith)
          | no c ↦
              let e : suc (y.count - suc x.count + x.count) ≡ y.count = omega arith in
              let t = later_place x.start x.count (y.count - suc x.count) x.before y.before x.reached (subst (λ (k : ℕ). StateAfter D h s A x.start k y.before) (sym e) q) in
              let z = step_place x.before _ x.end x.item_is t.0 t.1 in
              omega (arith, t.2, y.offset, z)
        ]

  -- ---- formats in which every record has a row

  module _ (always : AlwaysRow D) where
    -- A step that goes on adds one row.
    module _ (st : State D) where
      abbrev AddsRow : Transition D → Type 0
      AddsRow (go st') = length st'.rows ≡ length st.rows + row_width
      AddsRow (halt r) = Unit {0}

      step_adds_row : AddsRow (step D h s A st)
      step_adds_row =
          step_cases D AddsRow h s A st (λ m g. tt)
          (λ r rs m c k g _ _. let l = always h st.context (length st.refs) s st.at r rs m c k g in simp length-append (omega arith))
          tt tt (λ w g. tt)

    -- After i records there are i rows.
    after_rows : (n i : ℕ) (st : State D) → StateAfter D h s A n i st → length st.rows ≡ i * row_width
    unfolding initial_state
    after_rows n zero st a = rw a
    after_rows n (suc i) st a =
        let l = after_rows n i a.0 a.1 in
        let k : length st.rows ≡ length a.0.rows + row_width = rw a.2 at (step_adds_row a.0) in
        omega arith

    module _ (rows refs : List ℕ) (i : ℕ) (b : i < row_count rows) (x : RowOrigin D h s A rows refs i) where
      -- Row i came from record i, both counted from 0.
      pub origin_count : x.count ≡ i
      unfolding row_count
      origin_count =
          let l = after_rows x.start x.count x.before x.reached in
          let k : length x.before.rows ≡ length (take (i * row_width) rows) = ap length x.rows_before in
          let j : length (take (i * row_width) rows) ≡ i * row_width = length-take-le (i * row_width) rows (omega arith) in
          omega arith

    -- A record ends at the offset of the next row.
    pub next_offset_end : (rows refs : List ℕ) (i : ℕ) → suc i < row_count rows → (x : RowOrigin D h s A rows refs i) (y : RowOrigin D h s A rows refs (suc i))
        → offset_of rows (suc i) ≡ x.end
    next_offset_end rows refs i b x y =
        let u : whole h y.start ≡ whole h x.start = sym y.header_whole ∙ x.header_whole in
        let m : y.start ≡ x.start = cc in
        let j = origin_count rows refs i (omega arith) x in
        let k = origin_count rows refs (suc i) b y in
        let a : StateAfter D h s A x.start i x.before = rw j at x.reached in
        let p : StateAfter D h s A x.start (suc i) y.before = rw (m, k) at y.reached in
        let e : p.0 ≡ x.before = state_after_unique x.start i p.0 x.before p.1 a in
        let g : step D h s A x.before ≡ go y.before = rw e at p.2 in
        y.offset ∙ step_place x.before _ x.end x.item_is y.before g
