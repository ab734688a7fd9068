-- Steps of a reading, for any format: the cases of a step, every step advances, the fuel of `records` never runs out, and one
-- induction proves every invariant of the tables.
use Rattle.std.specs.Prelude.{◌≡◌, Bool, cond}
use Rattle.std.proofs.Math.Path.{refl}
use Prim.Native.Nat.{ℕ, zero, suc, ◌+◌, ◌≤◌, ◌<◌}
use Rattle.std.proofs.Math.Bool.{true, false}
use mathlib.Core.List.{List, []}
use Rattle.std.proofs.Math.ListN.{length}
use Rattle.std.proofs.Math.Dec.{leb}
use Rattle.std.proofs.Common.{arith}
use borrow.Author.Tests.{leb-true, le-leb, lt-leb}
use Rattle.decode.specs.Layout.{Outcome, whole, stops, reply_of, missing_of}
use Rattle.decode.specs.declared.Stop.{Stop}
use Rattle.reader.specs.Reader.{Capacity, limit, end_item, item, Format, ItemOf, State, Transition, go, halt, ended, append_item, transition, next_item, step, records, initial_state, no_records, read_result}
use Rattle.reader.specs.Steps.{Lawful, records_go, records_halt, Advances, OnTransition, records_induction, read_induction, PreservedByRecord}

-- ---- cases of a step

module _ (D : Format) (h : D.Header) (s : List ℕ) (A : Capacity) (st : State D) where
  module _ (r rs : List ℕ) (m : D.Note) (c : D.Context) (n : ℕ) (e : next_item D h s st ≡ whole (item r rs m c) n) where
    -- If the row fits and the references do not, the reading ends with reply 14.
    pub step_no_refs : length st.rows + length r ≤ A.rows → A.refs < length st.refs + length rs → step D h s A st ≡ halt (ended h st 14 st.at 0)
    unfolding step transition
    step_no_refs p q = rw (e, le-leb _ _ p, lt-leb _ _ q)

-- P holds for a step if it holds in each case: the end, a record that fits, no capacity for its row, none for its references, and
-- a layout that stops.
module _ (D : Format) (P : Transition D → Type 0) (h : D.Header) (s : List ℕ) (A : Capacity) (st : State D)
    (at_end : (n : ℕ) → next_item D h s st ≡ whole end_item n → P (halt (ended h st 0 n 0)))
    (at_item : (r rs : List ℕ) (m : D.Note) (c : D.Context) (n : ℕ)
    → next_item D h s st ≡ whole (item r rs m c) n
    → length st.rows + length r ≤ A.rows → length st.refs + length rs ≤ A.refs → P (go (append_item st r rs c n)))
    (no_row : P (halt (ended h st 13 st.at 0)))
    (no_refs : P (halt (ended h st 14 st.at 0)))
    (at_stop : (w : Stop) → next_item D h s st ≡ stops w
    → P (halt (ended h st (reply_of w) st.at (missing_of w))))
  where
    pub step_cases : P (step D h s A st)
    unfolding step transition
    step_cases = by (next_item D h s st) refl
      where
        by_capacity : (r rs : List ℕ) (m : D.Note) (c : D.Context) (n : ℕ) (x y : Bool)
            → next_item D h s st ≡ whole (item r rs m c) n
            → leb (length st.rows + length r) A.rows ≡ x → leb (length st.refs + length rs) A.refs ≡ y
            → P (cond x (cond y (go (append_item st r rs c n)) (halt (ended h st 14 st.at 0))) (halt (ended h st 13 st.at 0)))
        by_capacity r rs m c n true true e p q = at_item r rs m c n e (leb-true _ _ p) (leb-true _ _ q)
        by_capacity r rs m c n true false e p q = no_refs
        by_capacity r rs m c n false y e p q = no_row

        by : (o : Outcome (ItemOf D)) → next_item D h s st ≡ o → P (transition h A st o)
        by (whole end_item n) e = at_end n e
        by (whole (item r rs m c) n) e = by_capacity r rs m c n _ _ e refl refl
        by (stops w) e = at_stop w e

-- ---- progress

module _ (D : Format) (lawful : Lawful D) where
  -- Every step of a lawful format advances.
  pub step_advances : (h : D.Header) (s : List ℕ) (A : Capacity) (st : State D) → Advances st s (step D h s A st)
  step_advances h s A st =
      step_cases D (Advances st s) h s A st (λ n e. tt)
      (λ r rs m c n e p q. lawful.advances h st.context (length st.refs) s st.at _ n e) tt tt (λ w e. tt)

  -- The fuel never runs out: any two amounts that are above the number of bytes left give the same result.
  pub records_fuel : (h : D.Header) (s : List ℕ) (A : Capacity) (f g : ℕ) (st : State D) → st.at ≤ length s → length s < st.at + f → length s < st.at + g
      → records D f h s A st ≡ records D g h s A st
  records_fuel h s A zero g st p q r = absurd (omega arith)
  records_fuel h s A (suc f) zero st p q r = absurd (omega arith)
  records_fuel h s A (suc f) (suc g) st p q r = by_step (step D h s A st) refl (step_advances h s A st) (records_fuel h s A f g)
    where
      by_step : (n : Transition D) → step D h s A st ≡ n → Advances st s n
          → ((st' : State D) → st'.at ≤ length s → length s < st'.at + f → length s < st'.at + g → records D f h s A st' ≡ records D g h s A st')
          → records D (suc f) h s A st ≡ records D (suc g) h s A st
      by_step (go st') e o ih =
          rw (records_go D f h s A st st' e, records_go D g h s A st st' e) (ih st' o.1 (omega arith) (omega arith))
      by_step (halt x) e o ih = rw (records_halt D f h s A st x e, records_halt D g h s A st x e)

  -- A step that goes on does not change the result of the reading.
  pub records_step : (h : D.Header) (s : List ℕ) (A : Capacity) (st st' : State D) → length s ≤ limit → step D h s A st ≡ go st'
      → records D (suc limit) h s A st ≡ records D (suc limit) h s A st'
  records_step h s A st st' l e =
      let o : Advances st s (go st') = rw e at (step_advances h s A st) in
      rw (records_go D limit h s A st st' e) (records_fuel h s A limit (suc limit) st' o.1 (omega arith) (omega arith))

-- ---- invariants of the tables

module _ (D : Format) (s : List ℕ) (A : Capacity) (T : D.Header → List ℕ → List ℕ → Type 0) (more : PreservedByRecord D s A T) where
  tables_step : (h : D.Header) (st : State D) → T h st.rows st.refs
      → OnTransition (λ x. T h x.rows x.refs) (λ r. T r.header r.rows r.refs) (step D h s A st)
  unfolding ended
  tables_step h st t =
      step_cases D (OnTransition (λ x. T h x.rows x.refs) (λ r. T r.header r.rows r.refs)) h s A st (λ n e. t)
      (λ r rs m c n e p q. more h st.rows st.refs st.context st.at r rs m c n t e p q)
      t t (λ w e. t)

  -- A preserved property that holds for the tables of a state holds for those of the result.
  pub records_tables : (h : D.Header) (f : ℕ) (st : State D) → T h st.rows st.refs
      → T (records D f h s A st).header (records D f h s A st).rows (records D f h s A st).refs
  unfolding ended
  records_tables h =
      records_induction D h s A (λ x. T h x.rows x.refs) (λ r. T r.header r.rows r.refs) (tables_step h) (λ st t. t)

  -- A preserved property that holds for empty tables holds for those of every reading.
  pub read_tables : ((h : D.Header) → T h [] []) → T (read_result D s A).header (read_result D s A).rows (read_result D s A).refs
  unfolding ended no_records initial_state
  read_tables none =
      read_induction D s A (λ h x. T h x.rows x.refs) (λ r. T r.header r.rows r.refs) (none _) (λ w e. none _) (λ h n e. none h)
      tables_step (λ h st t. t)
