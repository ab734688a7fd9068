-- Steps of a reading, for any format: the laws that a format must satisfy, and induction over steps. Theorems: proofs/Steps.antt.
-- A reader must believe `Lawful`, the laws that a format must satisfy.
use Rattle.std.specs.Prelude.{◌≡◌, Bool, get_or, take, drop}
use Rattle.std.proofs.Math.Path.{refl}
use Prim.Native.Nat.{ℕ, zero, suc, ◌+◌, ◌≤◌, ◌<◌}
use Rattle.std.proofs.Math.Bool.{true, false}
use mathlib.Core.List.{List, ◌++◌}
use Rattle.std.proofs.Math.ListN.{length}
use Rattle.std.proofs.Math.Dec.{leb}
use Rattle.std.proofs.Common.{arith}
use borrow.Author.Tests.{le-leb, lt-leb}
use Rattle.decode.specs.Layout.{Layout, bytes, Outcome, whole, stops, run, run_enough, whole_has_bytes, start_le_end, end_in_bounds, reply_of, missing_of}
use Rattle.decode.specs.Values.{Refuses}
use Rattle.decode.specs.declared.Stop.{Stop}
use Rattle.table.specs.Table.{row_width, offset_number}
use Rattle.reader.specs.Reader.{Capacity, limit, end_item, item, Format, ItemOf, State, Result, Transition, go, halt, ended, append_item, transition, next_item, step, records, initial_state, no_records, from_header, read_result}

-- ---- laws of a format

-- A valid row for a record at offset `at`: empty, or `row_width` numbers, of which number `offset_number` is `at`.
pub data ValidRow (at : ℕ) (r : List ℕ) : Type 0 where
  empty_row : length r ≡ 0 → ValidRow at r
  full_row : length r ≡ row_width → get_or r offset_number 0 ≡ at → ValidRow at r

-- The reply of a refusal: neither 0 (the dump is complete) nor 1 (it is cut).
pub record RefusalReply (r : ℕ) : Type 0 where
  pub not_end : r ≡ 0 → ⊥
  pub not_cut : r ≡ 1 → ⊥

-- The laws that a format must satisfy.
pub record Lawful (D : Format) : Type 0 where
  -- A record or the end takes at least one byte, and ends within the dump.
  pub advances : (h : D.Header) (c : D.Context) (index : ℕ) (s : List ℕ) (at : ℕ) (i : ItemOf D) (e : ℕ)
      → run (D.entry h c index) s at ≡ whole i e → (at < e) × (e ≤ length s)
  -- A record has no row, or a whole one with the record's offset.
  pub row : (h : D.Header) (c : D.Context) (index : ℕ) (s : List ℕ) (at : ℕ) (r rs : List ℕ) (m : D.Note) (k : D.Context) (e : ℕ)
      → run (D.entry h c index) s at ≡ whole (item r rs m k) e → ValidRow at r
  -- No refusal has the reply of a complete or of a cut dump.
  pub header_refusals : Refuses RefusalReply D.header
  pub entry_refusals : (h : D.Header) (c : D.Context) (index : ℕ) → Refuses RefusalReply (D.entry h c index)

-- A layout that begins with a byte takes at least one byte, and ends within the dump.
pub byte_advances : {A : Type 0} (k : List ℕ → Layout A) (s : List ℕ) (at : ℕ) (a : A) (e : ℕ) → run (bytes 1 k) s at ≡ whole a e → (at < e) × (e ≤ length s)
byte_advances k s at a e r =
    let l : at + 1 ≤ length s = whole_has_bytes 1 k s at a e r in
    let w : run (k (take 1 (drop at s))) s (at + 1) ≡ whole a e = rw (run_enough 1 k s at l) at r in
    let f : at + 1 ≤ e = start_le_end (k (take 1 (drop at s))) s (at + 1) a e w in
    (omega arith, end_in_bounds (k (take 1 (drop at s))) s (at + 1) a e l w)

-- ---- unfolding `records`

module _ (D : Format) (f : ℕ) (h : D.Header) (s : List ℕ) (A : Capacity) (st : State D) where
  -- If the first step goes on, reading continues from the next state with one unit of fuel less.
  pub records_go : (st' : State D) → step D h s A st ≡ go st' → records D (suc f) h s A st ≡ records D f h s A st'
  unfolding records
  records_go st' e = rw (e, records)

  -- If the first step halts, its result is that of the reading.
  pub records_halt : (r : Result D) → step D h s A st ≡ halt r → records D (suc f) h s A st ≡ r
  unfolding records
  records_halt r e = rw (e, records)

-- ---- cases of a step

module _ (D : Format) (h : D.Header) (s : List ℕ) (A : Capacity) (st : State D) where
  -- At the end, the reading ends with reply 0, and its place is the offset after the end.
  pub step_end : (n : ℕ) → next_item D h s st ≡ whole end_item n → step D h s A st ≡ halt (ended h st 0 n 0)
  unfolding step transition
  step_end n e = rw e

  -- Where the layout of the record stops, the reading ends with that reply, at the record's offset.
  pub step_stop : (w : Stop) → next_item D h s st ≡ stops w → step D h s A st ≡ halt (ended h st (reply_of w) st.at (missing_of w))
  unfolding step transition
  step_stop w e = rw e

  module _ (r rs : List ℕ) (m : D.Note) (c : D.Context) (n : ℕ) (e : next_item D h s st ≡ whole (item r rs m c) n) where
    -- A record that fits is appended.
    pub step_item : length st.rows + length r ≤ A.rows → length st.refs + length rs ≤ A.refs → step D h s A st ≡ go (append_item st r rs c n)
    unfolding step transition
    step_item p q = rw (e, le-leb _ _ p, le-leb _ _ q)

    -- If there is no capacity for the row, the reading ends with reply 13.
    pub step_no_row : A.rows < length st.rows + length r → step D h s A st ≡ halt (ended h st 13 st.at 0)
    unfolding step transition
    step_no_row p = rw (e, lt-leb _ _ p)

-- ---- progress

-- A step that goes on from st moves forward, and stays within the dump s.
abbrev pub Advances : {D : Format} → State D → List ℕ → Transition D → Type 0
Advances st s (go st') = (st.at < st'.at) × (st'.at ≤ length s)
Advances st s (halt r) = Unit {0}

-- ---- induction over steps

-- P holds for the next state if the step goes on, and Q for the result if it ends the reading.
abbrev pub OnTransition : {D : Format} → (State D → Type 0) → (Result D → Type 0) → Transition D → Type 0
OnTransition P Q (go st) = P st
OnTransition P Q (halt r) = Q r

module _ (D : Format) (h : D.Header) (s : List ℕ) (A : Capacity) (P : State D → Type 0) (Q : Result D → Type 0)
    (each : (st : State D) → P st → OnTransition P Q (step D h s A st))
    (last : (st : State D) → P st → Q (ended h st 0 st.at 0))
  where
    -- If every step from a state with P leads to a state with P or to a result with Q, then a reading from P ends with Q.
    -- `last` is for fuel that runs out.
    pub records_induction : (f : ℕ) (st : State D) → P st → Q (records D f h s A st)
    unfolding records
    records_induction zero st p = last st p
    records_induction (suc f) st p = by_step (step D h s A st) refl (each st p) (records_induction f)
      where
        by_step : (n : Transition D) → step D h s A st ≡ n → OnTransition P Q n → ((st' : State D) → P st' → Q (records D f h s A st')) → Q (records D (suc f) h s A st)
        by_step (go st') e g ih = rw (records_go D f h s A st st' e) (ih st' g)
        by_step (halt x) e g ih = rw (records_halt D f h s A st x e) g

-- ---- the whole reading

module _ (D : Format) (s : List ℕ) (A : Capacity) where
  -- Bytes within the size limit are read from the header on.
  pub read_under_limit : length s ≤ limit → read_result D s A ≡ from_header D s A (run D.header s 0)
  unfolding read_result
  read_under_limit h = rw (le-leb (length s) limit h, read_result)

  -- Bytes over the size limit get reply 2.
  pub read_over_limit : limit < length s → read_result D s A ≡ no_records D 2 0
  unfolding read_result
  read_over_limit h = rw (lt-leb (length s) limit h, read_result)

  -- If the header is whole, the records after it give the result.
  pub read_header_whole : (h : D.Header) (n : ℕ) → length s ≤ limit → run D.header s 0 ≡ whole h n
      → read_result D s A ≡ records D (suc limit) h s A (initial_state D (D.start h) n)
  unfolding from_header
  read_header_whole h n l e = rw (read_under_limit l, e)

  -- If the header stops, its reply and its missing bytes are the result's.
  pub read_header_stops : (w : Stop) → length s ≤ limit → run D.header s 0 ≡ stops w
      → read_result D s A ≡ no_records D (reply_of w) (missing_of w)
  unfolding from_header
  read_header_stops w l e = rw (read_under_limit l, e)

module _ (D : Format) (s : List ℕ) (A : Capacity) (P : D.Header → State D → Type 0) (Q : Result D → Type 0)
    (too_long : Q (no_records D 2 0))
    (no_Header : (w : Stop) → run D.header s 0 ≡ stops w → Q (no_records D (reply_of w) (missing_of w)))
    (begin : (h : D.Header) (n : ℕ) → run D.header s 0 ≡ whole h n → P h (initial_state D (D.start h) n))
    (each : (h : D.Header) (st : State D) → P h st → OnTransition (P h) Q (step D h s A st))
    (last : (h : D.Header) (st : State D) → P h st → Q (ended h st 0 st.at 0))
  where
    -- Q holds for a reading if it holds for bytes over the size limit and for a header that stops, P holds at the first record,
    -- and every step from P leads to P or to Q. `last` is for fuel that runs out.
    pub read_induction : Q (read_result D s A)
    unfolding read_result from_header
    read_induction = by (leb (length s) limit) refl
      where
        by_header : (o : Outcome D.Header) → run D.header s 0 ≡ o → Q (from_header D s A o)
        by_header (whole h n) e = records_induction D h s A (P h) Q (each h) (last h) (suc limit) (initial_state D (D.start h) n) (begin h n e)
        by_header (stops w) e = no_Header w e

        by : (b : Bool) → leb (length s) limit ≡ b → Q (read_result D s A)
        by true e = rw (e, read_result) (by_header (run D.header s 0) refl)
        by false e = rw (e, read_result) too_long

-- ---- invariants of the tables

-- T, a property of the header and the two tables, is preserved when a record of the dump s that fits is appended.
abbrev pub PreservedByRecord : (D : Format) → List ℕ → Capacity → (D.Header → List ℕ → List ℕ → Type 0) → Type 0
PreservedByRecord D s A T =
    (h : D.Header) (rows refs : List ℕ) (c : D.Context) (at : ℕ) (r rs : List ℕ) (m : D.Note) (k : D.Context) (n : ℕ)
    → T h rows refs → run (D.entry h c (length refs)) s at ≡ whole (item r rs m k) n
    → length rows + length r ≤ A.rows → length refs + length rs ≤ A.refs → T h (rows ++ r) (refs ++ rs)
