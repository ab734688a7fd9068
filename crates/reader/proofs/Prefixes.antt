-- Demand 3, first part, for any format: of two cuts of the same bytes, the shorter stores a prefix of what the longer stores in
-- tables of at least the same capacity.
-- Assumes nothing.
use Rattle.std.specs.Prelude.{◌≡◌, List, [], ◌++◌, length, take, drop}
use Rattle.std.proofs.Math.Path.{refl}
use Rattle.std.proofs.Common.{append-nil, length-append, take-append-drop, take-take, arith, le-leb}
use Prim.Native.Nat.{ℕ, zero, suc, ◌+◌, ◌≤◌, ◌<◌}
use Rattle.std.proofs.Math.Decide.{dec_le}
use Rattle.std.proofs.lemmas.Bool.{lt-leb}
use Rattle.decode.specs.Layout.{Outcome, whole, stops, run, reply_of}
use Rattle.decode.specs.CutLaws.{NotCut, run_append}
use Rattle.decode.specs.declared.Stop.TheVariants.{Cut, Refused}
use Rattle.reader.specs.Reader.{limit, Capacity, ◌⊑◌, end_item, item, Format, ItemOf, State, Result, Transition, go, halt, ended, transition, next_item, step, records, initial_state, no_records, from_header, read_result}
use Rattle.reader.specs.Steps.{records_go, records_halt, read_under_limit}
use Rattle.reader.proofs.Steps.{records_tables}
use Rattle.reader.specs.Prefixes.{Prefix, Final, ResultPrefix, prefix_append, StepPrefix}

-- ---- growth of the tables

prefix_refl : (xs : List ℕ) → Prefix xs xs
prefix_refl xs = record { more = []; all = append-nil xs }

-- Both tables of a state are prefixes of those that the reading from it ends with.
pub records_extend : (D : Format) (h : D.Header) (s : List ℕ) (A : Capacity) (f : ℕ) (st : State D)
    → Prefix st.rows (records D f h s A st).rows × Prefix st.refs (records D f h s A st).refs
records_extend D h s A f st =
    records_tables D s A (λ _ rows refs. Prefix st.rows rows × Prefix st.refs refs)
    (λ h' rows refs c at r rs m k n t e p q. (prefix_append t.0 r, prefix_append t.1 rs))
    h f st (prefix_refl st.rows, prefix_refl st.refs)

-- ---- one step of both readings

-- The same outcome with more capacity gives such a step.
transition_prefix : (D : Format) (h : D.Header) (A A' : Capacity) (st : State D) (o : Outcome (ItemOf D)) → A ⊑ A'
    → StepPrefix st (transition h A st o) (transition h A' st o)
unfolding transition ended
transition_prefix D h A A' st (whole end_item n) p = (refl, refl, λ _. refl)
transition_prefix D h A A' st (whole (item r rs m c) n) p =
    elim (dec_le (length st.rows + length r) A.rows) [
      | yes y ↦ elim (dec_le (length st.refs + length rs) A.refs) [
        | yes t ↦
            let y' : length st.rows + length r ≤ A'.rows = omega arith in
            let t' : length st.refs + length rs ≤ A'.refs = omega arith in
            rw (le-leb _ _ y, le-leb _ _ y', le-leb _ _ t, le-leb _ _ t') refl
        | no t ↦
            let t' : A.refs < length st.refs + length rs = omega arith in
            rw (le-leb _ _ y, lt-leb _ _ t') (refl, refl, λ final. absurd (final.2 refl))
      ]
      | no y ↦
          let y' : A.rows < length st.rows + length r = omega arith in
          rw (lt-leb _ _ y') (refl, refl, λ final. absurd (final.1 refl))
    ]
transition_prefix D h A A' st (stops w) p = (refl, refl, λ _. refl)

module _ (D : Format) (h : D.Header) (s t : List ℕ) (A A' : Capacity) (p : A ⊑ A') where
  -- More bytes and more capacity give such a step.
  pub step_prefix : (st : State D) → StepPrefix st (step D h s A st) (step D h (s ++ t) A' st)
  unfolding step transition ended reply_of
  step_prefix st = by (next_item D h s st) refl
    where
      same_step : NotCut (next_item D h s st) → StepPrefix st (step D h s A st) (step D h (s ++ t) A' st)
      same_step w = rw (run_append (D.entry h st.context (length st.refs)) s t st.at w) (transition_prefix D h A A' st (next_item D h s st) p)

      by : (o : Outcome (ItemOf D)) → next_item D h s st ≡ o → StepPrefix st (step D h s A st) (step D h (s ++ t) A' st)
      by (whole i n) e = same_step (rw e tt)
      by (stops (Refused r)) e = same_step (rw e tt)
      by (stops (Cut n)) e = rw e (refl, refl, λ final. absurd (final.0 refl))

  -- ---- all records

  records_prefix : (f : ℕ) (st : State D) → ResultPrefix (records D f h s A st) (records D f h (s ++ t) A' st)
  unfolding records ended
  records_prefix zero st = record { rows = prefix_refl _; refs = prefix_refl _; same = λ _. refl }
  records_prefix (suc f) st = by_step (step D h s A st) refl (step_prefix st) (records_prefix f)
    where
      by_step : (n : Transition D) → step D h s A st ≡ n → StepPrefix st n (step D h (s ++ t) A' st)
          → ((st' : State D) → ResultPrefix (records D f h s A st') (records D f h (s ++ t) A' st'))
          → ResultPrefix (records D (suc f) h s A st) (records D (suc f) h (s ++ t) A' st)
      by_step (go st') e g ih = rw (records_go D f h s A st st' e, records_go D f h (s ++ t) A' st st' g) (ih st')
      by_step (halt r) e g ih =
          let l = records_extend D h (s ++ t) A' (suc f) st in
          rw (records_halt D f h s A st r e)
          (record { rows = rw g.0 l.0; refs = rw g.1 l.1; same = λ final. records_halt D f h (s ++ t) A' st r (g.2 final) })

-- ---- the whole reading

no_records_prefix : (D : Format) (w m : ℕ) (longer : Result D) → (Final w → longer ≡ no_records D w m) → ResultPrefix (no_records D w m) longer
unfolding no_records
no_records_prefix D w m longer g = record { rows = record { more = longer.rows; all = refl }; refs = record { more = longer.refs; all = refl }; same = g }

from_header_prefix : (D : Format) (s t : List ℕ) (A A' : Capacity) → A ⊑ A'
    → ResultPrefix (from_header D s A (run D.header s 0)) (from_header D (s ++ t) A' (run D.header (s ++ t) 0))
unfolding from_header reply_of
from_header_prefix D s t A A' p = by (run D.header s 0) refl
  where
    by : (o : Outcome D.Header) → run D.header s 0 ≡ o → ResultPrefix (from_header D s A (run D.header s 0)) (from_header D (s ++ t) A' (run D.header (s ++ t) 0))
    by (whole h n) e = rw (run_append D.header s t 0 (rw e tt), e) (records_prefix D h s t A A' p (suc limit) (initial_state D (D.start h) n))
    by (stops (Refused r)) e = rw (run_append D.header s t 0 (rw e tt), e) (no_records_prefix D r _ _ (λ _. refl))
    by (stops (Cut n)) e = rw e (no_records_prefix D 1 _ _ (λ final. absurd (final.0 refl)))

-- Reading s gives a prefix of what reading s ++ t gives, with at least the same capacity and within the size limit.
pub append_prefix : (D : Format) (s t : List ℕ) (A A' : Capacity) → length (s ++ t) ≤ limit → A ⊑ A' → ResultPrefix (read_result D s A) (read_result D (s ++ t) A')
append_prefix D s t A A' l p =
    let k : length s ≤ limit = omega (arith, length-append s t) in
    rw (read_under_limit D s A k, read_under_limit D (s ++ t) A' l) (from_header_prefix D s t A A' p)

-- Reading the first m bytes gives a prefix of what reading the first n gives, if m ≤ n and both are within the size limit.
pub cuts_prefix : (D : Format) (b : List ℕ) (m n : ℕ) (A A' : Capacity) → m ≤ n → length (take n b) ≤ limit → A ⊑ A'
    → ResultPrefix (read_result D (take m b) A) (read_result D (take n b) A')
cuts_prefix D b m n A A' h l p =
    let e : take m b ++ drop m (take n b) ≡ take n b = rw (← take-take m n b h) (take-append-drop m (take n b)) in
    rw e at (append_prefix D (take m b) (drop m (take n b)) A A' (rw e l) p)
