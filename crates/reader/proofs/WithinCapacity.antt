-- A reading of any format stays within the tables' capacity, stores whole rows only, and gives its own replies or the format's.
-- Assumes nothing.
use Rattle.std.specs.Prelude.{refl, ℕ, List, length}
use Rattle.std.proofs.Common.{length-append, arith}
use Rattle.decode.specs.Values.{Refuses}
use Rattle.reader.specs.Reader.{Capacity, Format, ended, no_records, read_result}
use Rattle.reader.specs.Steps.{Lawful, OnTransition, read_induction}
use Rattle.reader.proofs.Steps.{step_cases, read_tables}
use Rattle.reader.specs.WithinCapacity.{WithinCapacity, whole_rows_append, OwnReplies, stop_reply}

-- A reading stores no more than the capacity, and whole rows only.
pub read_within_capacity : (D : Format) → Lawful D → (s : List ℕ) (A : Capacity) → WithinCapacity A (read_result D s A).rows (read_result D s A).refs
read_within_capacity D lawful s A =
    read_tables D s A (λ _ rows refs. WithinCapacity A rows refs)
    (λ h rows refs c at r rs m k n t e p q. record {
      rows_fit = simp length-append (omega arith);
      refs_fit = simp length-append (omega arith);
      whole_rows = whole_rows_append rows r t.whole_rows (lawful.row h c (length refs) s at r rs m k n e);
    })
    (λ h. record { rows_fit = omega arith; refs_fit = omega arith; whole_rows = refl })

-- ---- replies

-- P holds for the reply of every reading if it holds for the replies of every format and for those that this format refuses with.
pub read_replies : (D : Format) (P : ℕ → Type 0) → OwnReplies P → Refuses P D.header
    → ((h : D.Header) (c : D.Context) (index : ℕ) → Refuses P (D.entry h c index))
    → (s : List ℕ) (A : Capacity) → P (read_result D s A).reply
unfolding ended no_records
read_replies D P own g k s A =
    read_induction D s A (λ h st. Unit {0}) (λ r. P r.reply) own.long (λ w e. stop_reply D.header own.cut g s 0 w e) (λ h n e. tt)
    (λ h st _. step_cases D (OnTransition (λ x. Unit {0}) (λ r. P r.reply)) h s A st (λ n e. own.done) (λ r rs m c n e p q. tt) own.no_row own.no_refs
    (λ w e. stop_reply (D.entry h st.context (length st.refs)) own.cut (k h _ _) s st.at w e))
    (λ h st _. own.done)
