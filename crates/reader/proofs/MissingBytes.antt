-- Missing bytes, for any format: reply 1 comes with the number of bytes that one field lacks at the end of the dump, every other
-- reply with 0. Appending fewer bytes than are missing changes nothing but that number. A completed dump ends after them.
-- Assumes nothing.
use Rattle.std.proofs.Math.Path.{◌≡◌, refl}
use Rattle.std.proofs.Common.{ap, ◌∙◌, length-append, arith}
use Prim.Native.Nat.{ℕ, zero, suc, ◌+◌, ◌≤◌, ◌<◌}
use Rattle.std.specs.Prelude.{List, ◌++◌}
use Rattle.std.proofs.Math.ListN.{length}
use Rattle.std.proofs.Math.Decide.{dec_le}
use Rattle.decode.specs.Layout.{Layout, Outcome, whole, stops, run, end_in_bounds, reply_of, missing_of}
use Rattle.decode.specs.CutLaws.{run_append_whole, cut_deficit, cut_append, end_after_deficit}
use Rattle.decode.specs.declared.Stop.{Stop}
use Rattle.decode.specs.declared.Stop.TheVariants.{Cut, Refused}
use Rattle.decode.specs.Values.{Refuses}
use Rattle.reader.specs.Reader.{Capacity, ◌⊑◌, limit, end_item, item, Format, ItemOf, State, Transition, go, halt, ended, append_item, next_item, step, records, initial_state, no_records, from_header, read_result}
use Rattle.reader.specs.Steps.{RefusalReply, Lawful, records_go, records_halt, step_stop, OnTransition, records_induction, read_under_limit, read_induction}
use Rattle.reader.proofs.Steps.{step_cases}
use Rattle.reader.specs.Prefixes.{StepPrefix}
use Rattle.reader.proofs.Prefixes.{step_prefix}
use Rattle.reader.specs.MissingBytes.{Missing, MissingOf, subtract_missing}

-- ---- missing bytes of a reply

-- A reply other than 1 has no missing bytes.
zero_missing : {s : List ℕ} {reply place : ℕ} → (reply ≡ 1 → ⊥) → Missing s reply place 0
zero_missing n = record { cut = λ h. absurd (n h); other = λ _. refl }

-- A layout that stops is cut and lacks bytes, or has another reply and lacks none.
stop_missing : {A : Type 0} (l : Layout A) → Refuses RefusalReply l → (s : List ℕ) (at : ℕ) (w : Stop) → at ≤ length s → run l s at ≡ stops w
    → Missing s (reply_of w) at (missing_of w)
unfolding reply_of missing_of
stop_missing l g s at (Cut n) p e = record { cut = λ _. cut_deficit l s at n p e; other = λ h. absurd (h refl) }
stop_missing l g s at (Refused r) p e = zero_missing (g.each s at r e).not_cut

-- A layout that stops does not give reply 0.
stop_not_zero : {A : Type 0} (l : Layout A) → Refuses RefusalReply l → (s : List ℕ) (at : ℕ) (w : Stop) → run l s at ≡ stops w → reply_of w ≡ 0 → ⊥
unfolding reply_of
stop_not_zero l g s at (Cut n) e z = omega arith
stop_not_zero l g s at (Refused r) e z = (g.each s at r e).not_end z

module _ (D : Format) (lawful : Lawful D) where
  step_missing : (s : List ℕ) (A : Capacity) (h : D.Header) (st : State D) → st.at ≤ length s
      → OnTransition (λ x. x.at ≤ length s) (MissingOf s) (step D h s A st)
  unfolding ended
  step_missing s A h st p =
      step_cases D (OnTransition (λ x. x.at ≤ length s) (MissingOf s)) h s A st
      (λ n e. zero_missing (λ z. omega arith))
      (λ r rs m c n e _ _. (lawful.advances h st.context (length st.refs) s st.at _ n e).1)
      (zero_missing (λ z. omega arith))
      (zero_missing (λ z. omega arith))
      (λ w e. stop_missing (D.entry h st.context (length st.refs)) (lawful.entry_refusals h _ _) s st.at w p e)

  -- The missing bytes of every reading satisfy `Missing`.
  pub read_missing : (s : List ℕ) (A : Capacity) → MissingOf s (read_result D s A)
  unfolding ended no_records initial_state
  read_missing s A =
      read_induction D s A (λ h st. st.at ≤ length s) (MissingOf s)
      (zero_missing (λ z. omega arith))
      (λ w e. stop_missing D.header lawful.header_refusals s 0 w (omega arith) e)
      (λ h n e. end_in_bounds D.header s 0 h n (omega arith) e)
      (step_missing s A)
      (λ h st p. zero_missing (λ z. omega arith))

-- ---- appending fewer bytes than are missing

module _ (D : Format) where
  -- A step that ends a reading with missing bytes found a cut.
  module _ (h : D.Header) (s : List ℕ) (A : Capacity) (st : State D) where
    abbrev CutAtState : Transition D → Type 0
    CutAtState (go st') = Unit {0}
    CutAtState (halt r) = 0 < r.missing → (next_item D h s st ≡ stops (Cut r.missing)) × (r ≡ ended h st 1 st.at r.missing)

    stop_cut : (w : Stop) → next_item D h s st ≡ stops w → CutAtState (halt (ended h st (reply_of w) st.at (missing_of w)))
    unfolding ended reply_of missing_of
    stop_cut (Cut n) e l = (e, refl)
    stop_cut (Refused r) e l = absurd (omega arith)

    step_cut : CutAtState (step D h s A st)
    unfolding ended
    step_cut =
        step_cases D CutAtState h s A st (λ n e l. absurd (omega arith)) (λ r rs m c n e x y. tt) (λ l. absurd (omega arith)) (λ l. absurd (omega arith))
        stop_cut

  module _ (h : D.Header) (s t : List ℕ) (A A' : Capacity) (p : A ⊑ A') where
    -- A reading with missing bytes reached a state at which a record is cut. The reading of the longer dump reaches the same
    -- state, with `left` + 1 units of fuel.
    record ReachedCut (f : ℕ) (st : State D) : Type 0 where
      pub state : State D
      pub left : ℕ
      pub deficit : ℕ
      pub cut : next_item D h s state ≡ stops (Cut deficit)
      pub is : records D f h s A st ≡ ended h state 1 state.at deficit
      pub on : records D f h (s ++ t) A' st ≡ records D (suc left) h (s ++ t) A' state

    reached_cut : (f : ℕ) (st : State D) → 0 < (records D f h s A st).missing → ReachedCut f st
    unfolding records ended
    reached_cut zero st l = absurd (omega arith)
    reached_cut (suc f) st l = by_step (step D h s A st) refl (step_prefix D h s t A A' p st) (step_cut h s A st) (reached_cut f)
      where
        by_step : (n : Transition D) → step D h s A st ≡ n → StepPrefix st n (step D h (s ++ t) A' st) → CutAtState h s A st n
            → ((st' : State D) → 0 < (records D f h s A st').missing → ReachedCut f st') → ReachedCut (suc f) st
        by_step (go st') e g c ih =
            let x = ih st' (rw (records_go D f h s A st st' e) at l) in
            record {
              state = x.state;
              left = x.left;
              deficit = x.deficit;
              cut = x.cut;
              is = records_go D f h s A st st' e ∙ x.is;
              on = records_go D f h (s ++ t) A' st st' g ∙ x.on;
            }
        by_step (halt r) e g c ih =
            let x = c (rw (records_halt D f h s A st r e) at l) in
            record { state = st; left = f; deficit = r.missing; cut = x.0; is = records_halt D f h s A st r e ∙ x.1; on = refl }

    records_cut_append : (f : ℕ) (st : State D) → length t < (records D f h s A st).missing
        → records D f h (s ++ t) A' st ≡ subtract_missing (length t) (records D f h s A st)
    unfolding ended reply_of missing_of
    records_cut_append f st l =
        let x = reached_cut f st (omega arith) in
        let y : State D = x.state in
        let m : length t < x.deficit = rw x.is at l in
        let w = cut_append (D.entry h y.context (length y.refs)) s t y.at x.deficit x.cut m in
        rw (x.is, x.on, records_halt D x.left h (s ++ t) A' y _ (step_stop D h (s ++ t) A' y _ w))

  from_header_cut_append : (s t : List ℕ) (A A' : Capacity) → A ⊑ A' → length t < (from_header D s A (run D.header s 0)).missing
      → from_header D (s ++ t) A' (run D.header (s ++ t) 0) ≡ subtract_missing (length t) (from_header D s A (run D.header s 0))
  unfolding from_header no_records reply_of missing_of
  from_header_cut_append s t A A' p = by (run D.header s 0) refl
    where
      by : (o : Outcome D.Header) → run D.header s 0 ≡ o → length t < (from_header D s A (run D.header s 0)).missing
          → from_header D (s ++ t) A' (run D.header (s ++ t) 0) ≡ subtract_missing (length t) (from_header D s A (run D.header s 0))
      by (whole h n) e l = rw (run_append_whole D.header s t 0 h n e, e) (records_cut_append h s t A A' p (suc limit) (initial_state D (D.start h) n) (rw e at l))
      by (stops (Refused r)) e l = let m : length t < 0 = rw e at l in absurd (omega arith)
      by (stops (Cut n)) e l = let m : length t < n = rw e at l in rw (cut_append D.header s t 0 n e m, e)

  -- Appending fewer bytes than are missing gives the same reply, place, rows, references and header, with as many fewer missing.
  pub read_cut_append : (s t : List ℕ) (A A' : Capacity) → length (s ++ t) ≤ limit → A ⊑ A' → length t < (read_result D s A).missing
      → read_result D (s ++ t) A' ≡ subtract_missing (length t) (read_result D s A)
  read_cut_append s t A A' l p m =
      let k : length s ≤ limit = omega (arith, length-append s t) in
      rw (read_under_limit D s A k, read_under_limit D (s ++ t) A' l) (from_header_cut_append s t A A' p (rw (read_under_limit D s A k) at m))

-- ---- completing a cut dump

module _ (D : Format) (lawful : Lawful D) where
  -- If a state is at or after offset m, so is the place at which the reading from it ends.
  place_ge : (h : D.Header) (s : List ℕ) (A : Capacity) (m f : ℕ) (st : State D) → m ≤ st.at → m ≤ (records D f h s A st).place
  unfolding ended
  place_ge h s A m =
      records_induction D h s A (λ x. m ≤ x.at) (λ r. m ≤ r.place)
      (λ st l. step_cases D (OnTransition (λ x. m ≤ x.at) (λ r. m ≤ r.place)) h s A st
      (λ n e. omega (arith, (lawful.advances h st.context (length st.refs) s st.at _ n e).0))
      (λ r rs m c n e _ _. omega (arith, (lawful.advances h st.context (length st.refs) s st.at _ n e).0))
      l l (λ w e. l))
      (λ st l. l)

  -- If a record or the end was found up to offset e and the reading completes, its place is at or after e.
  module _ (h : D.Header) (s : List ℕ) (A : Capacity) (f : ℕ) (st : State D) (i : ItemOf D) (e : ℕ) (is : next_item D h s st ≡ whole i e) where
    abbrev EndsAfter : Transition D → Type 0
    EndsAfter (go st') = e ≤ (records D f h s A st').place
    EndsAfter (halt r) = r.reply ≡ 0 → e ≤ r.place

    step_ends_after : EndsAfter (step D h s A st)
    unfolding ended
    step_ends_after =
        step_cases D EndsAfter h s A st
        (λ n g z. let y : whole end_item n ≡ whole i e = cc in let x : n ≡ e = cc in omega arith)
        (λ r rs m c n g _ _.
        let y : whole (item r rs m c) n ≡ whole i e = cc in
        let x : n ≡ e = cc in
        place_ge h s A e f (append_item st r rs c n) (omega arith))
        (λ z. absurd (omega arith))
        (λ z. absurd (omega arith))
        (λ w g z. let y : stops w ≡ whole i e = cc in let x : ◌≡◌ {A = ℕ} 0 1 = cc in absurd (omega arith))

    records_ends_after : (records D (suc f) h s A st).reply ≡ 0 → e ≤ (records D (suc f) h s A st).place
    records_ends_after = by_step (step D h s A st) refl step_ends_after
      where
        by_step : (n : Transition D) → step D h s A st ≡ n → EndsAfter n → (records D (suc f) h s A st).reply ≡ 0 → e ≤ (records D (suc f) h s A st).place
        by_step (go st') g x z = rw (records_go D f h s A st st' g) x
        by_step (halt r) g x z = rw (records_halt D f h s A st r g) (x (rw (records_halt D f h s A st r g) at z))

  -- If a record lacks n bytes at the end of s, and s ++ t is complete, its place is at or after the end of these bytes.
  cut_end_after : (h : D.Header) (s t : List ℕ) (A : Capacity) (f n : ℕ) (st : State D) → next_item D h s st ≡ stops (Cut n) → (records D (suc f) h (s ++ t) A st).reply ≡ 0
      → length s + n ≤ (records D (suc f) h (s ++ t) A st).place
  unfolding ended
  cut_end_after h s t A f n st e z = by (next_item D h (s ++ t) st) refl
    where
      l : Layout (ItemOf D)
      l = D.entry h st.context (length st.refs)

      by : (o : Outcome (ItemOf D)) → next_item D h (s ++ t) st ≡ o → length s + n ≤ (records D (suc f) h (s ++ t) A st).place
      by (whole i m) g =
          let a : length s + n ≤ m = end_after_deficit l s t st.at n i m e g in
          let b : m ≤ (records D (suc f) h (s ++ t) A st).place = records_ends_after h (s ++ t) A f st i m g z in
          omega arith
      by (stops w) g =
          absurd (stop_not_zero l (lawful.entry_refusals h _ _) (s ++ t) st.at w g
          (rw (records_halt D f h (s ++ t) A st _ (step_stop D h (s ++ t) A st w g)) at z))

  records_end_after_missing : (h : D.Header) (s t : List ℕ) (A A' : Capacity) → A ⊑ A' → (f : ℕ) (st : State D)
      → 0 < (records D f h s A st).missing → (records D f h (s ++ t) A' st).reply ≡ 0
      → length s + (records D f h s A st).missing ≤ (records D f h (s ++ t) A' st).place
  unfolding ended
  records_end_after_missing h s t A A' p f st l z =
      let x = reached_cut D h s t A A' p f st l in
      rw (x.is, x.on) (cut_end_after h s t A' x.left x.deficit x.state x.cut (rw x.on at z))

  from_header_end_after_missing : (s t : List ℕ) (A A' : Capacity) → A ⊑ A' → 0 < (from_header D s A (run D.header s 0)).missing
      → (from_header D (s ++ t) A' (run D.header (s ++ t) 0)).reply ≡ 0
      → length s + (from_header D s A (run D.header s 0)).missing ≤ (from_header D (s ++ t) A' (run D.header (s ++ t) 0)).place
  unfolding from_header no_records missing_of initial_state
  from_header_end_after_missing s t A A' p l z = by (run D.header s 0) refl
    where
      longer : (n : ℕ) (o : Outcome D.Header) → run D.header s 0 ≡ stops (Cut n) → run D.header (s ++ t) 0 ≡ o
          → length s + n ≤ (from_header D (s ++ t) A' (run D.header (s ++ t) 0)).place
      longer n (whole h m) e g =
          let a : length s + n ≤ m = end_after_deficit D.header s t 0 n h m e g in
          rw g (place_ge h (s ++ t) A' (length s + n) (suc limit) (initial_state D (D.start h) m) a)
      longer n (stops w) e g = absurd (stop_not_zero D.header lawful.header_refusals (s ++ t) 0 w g (rw g at z))

      by : (o : Outcome D.Header) → run D.header s 0 ≡ o
          → length s + (from_header D s A (run D.header s 0)).missing ≤ (from_header D (s ++ t) A' (run D.header (s ++ t) 0)).place
      by (whole h n) e =
          let y = run_append_whole D.header s t 0 h n e in
          rw (y, e) (records_end_after_missing h s t A A' p (suc limit) (initial_state D (D.start h) n) (rw e at l) (rw y at z))
      by (stops (Refused r)) e = let m : 0 < 0 = rw e at l in absurd (omega arith)
      by (stops (Cut n)) e = rw e (longer n (run D.header (s ++ t) 0) e refl)

  -- If s has missing bytes and s ++ t is complete, its end is at or after the end of these bytes.
  pub read_end_after_missing : (s t : List ℕ) (A A' : Capacity) → length (s ++ t) ≤ limit → A ⊑ A' → 0 < (read_result D s A).missing
      → (read_result D (s ++ t) A').reply ≡ 0 → length s + (read_result D s A).missing ≤ (read_result D (s ++ t) A').place
  read_end_after_missing s t A A' l p m z =
      let k : length s ≤ limit = omega (arith, length-append s t) in
      rw (read_under_limit D s A k, read_under_limit D (s ++ t) A' l)
      (from_header_end_after_missing s t A A' p (rw (read_under_limit D s A k) at m) (rw (read_under_limit D (s ++ t) A' l) at z))

-- ---- least number of bytes to append

module _ (D : Format) (s t : List ℕ) (A A' : Capacity) (l : length (s ++ t) ≤ limit) (p : A ⊑ A') (e : (read_result D s A).reply ≡ 1) where
  -- If s is cut and s ++ t is not, t has at least as many bytes as are missing.
  pub missing_le_appended : ((read_result D (s ++ t) A').reply ≡ 1 → ⊥) → (read_result D s A).missing ≤ length t
  missing_le_appended n = elim (dec_le (read_result D s A).missing (length t)) [ yes k ↦ k | no k ↦ absurd (still (omega arith)) ]
    where
      still : length t < (read_result D s A).missing → ⊥
      still k = n (ap (λ x. x.reply) (read_cut_append D s t A A' l p k) ∙ e)

  -- If s is cut and s ++ t is complete, its end is at or after the end of the missing bytes, whatever follows that end.
  pub completed_end_after : Lawful D → (read_result D (s ++ t) A').reply ≡ 0 → length s + (read_result D s A).missing ≤ (read_result D (s ++ t) A').place
  completed_end_after lawful z = read_end_after_missing D lawful s t A A' l p ((read_missing D lawful s A).cut e).some z
