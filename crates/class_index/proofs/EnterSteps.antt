-- Entering the class rows, from the last to the first: the rows entered so far are certified.
-- Assumes nothing.
use mathlib.Core.Path.{◌≡◌, refl, sym, ◌∙◌}
use mathlib.Core.Logic.{◌⊎◌, ⊎_elim}
use mathlib.Core.Bool.{Bool, true, false, cond}
use mathlib.Core.List.{List}
use Prim.Native.Nat.{ℕ, ◌-◌, ◌≤◌, ◌<◌}
use native.Mathlib.Nat.{eq-or-lt_of_le}
use native.Mathlib.Omega.{arith}
use borrow.Author.Tests.{le-leb, eq-eqb, ne_eqb}
use Rattle.std.proofs.Common.{Bor}
use Rattle.decode.specs.Values.{true_not_false}
use Rattle.table.specs.Table.{row_count}
use Rattle.table.specs.Rows.{row_at, rows_of, length_rows, nth_row, nth, is_kind}
use Rattle.table.specs.declared.Row.{Row}
use Rattle.std.specs.Prelude.{Option, Some, None}
use Rattle.class_index.specs.ClassIndex.{search_buckets, at_or_before, row_certified, CertifiedFrom, BucketsHold, IndexHolds}
use Rattle.class_index.proofs.Certified.{certified_finds}
use Rattle.class_index.specs.Entering.{KeepsFound}

-- A certified row stays certified when a row before it is entered.
stays_certified : (rows : List Row) (a i : ℕ) (before after : List ℕ) → KeepsFound rows a i before after → (k : ℕ) → i ≤ k → row_certified rows before k ≡ true → row_certified rows after k ≡ true
unfolding row_certified at_or_before
stays_certified rows a i before after keeps k l e = by (is_kind 1 (nth rows k)) (search_buckets rows before (nth rows k).address) refl e
  where
    found : (j : ℕ) → search_buckets rows before (nth rows k).address ≡ Some j → at_or_before k (Some j) ≡ true → at_or_before k (search_buckets rows after (nth rows k).address) ≡ true
    found j q t = ⊎_elim (λ w. rw w t) (λ w. rw w.1 (le-leb _ _ l)) (keeps (nth rows k).address j q)

    by : (class : Bool) (f : Option ℕ) → search_buckets rows before (nth rows k).address ≡ f → cond class (at_or_before k (search_buckets rows before (nth rows k).address)) true ≡ true
        → cond class (at_or_before k (search_buckets rows after (nth rows k).address)) true ≡ true
    by false f q t = refl
    by true (Some j) q t = found j q (rw q at t)
    by true None q t = absurd (true_not_false (sym (rw q at t)))

-- The invariant of the loop: if all class rows could be entered so far, the rows from index i on are certified.
pub record EnteredFrom (rows : List Row) (buckets : List ℕ) (i : ℕ) (certified : Bool) : Type 0 where
  pub each : certified ≡ true → CertifiedFrom rows buckets i

module _ (table : List ℕ) where
  pub entered_start : (buckets : List ℕ) (i : ℕ) → i ≡ row_count table → EnteredFrom (rows_of table) buckets i true
  entered_start buckets i e = record { each = λ t k l m. absurd (omega (arith, length_rows table)) }

  -- With a class row entered before them, and the search for its address finding it.
  pub entered_class : (before after : List ℕ) (i : ℕ) (r : Row) (found : Bool) → 0 < i → i ≤ row_count table → r ≡ row_at table (i - 1) → r.kind ≡ 1
      → EnteredFrom (rows_of table) before i true → KeepsFound (rows_of table) r.address (i - 1) before after
      → found ≡ at_or_before (i - 1) (search_buckets (rows_of table) after r.address) → EnteredFrom (rows_of table) after (i - 1) found
  unfolding row_certified
  entered_class before after i r found p m e c z keeps f = record { each = each }
    where
      here : found ≡ true → row_certified (rows_of table) after (i - 1) ≡ true
      here t = rw (nth_row table (i - 1) (omega arith), ← e, eq-eqb _ _ c) (sym f ∙ t)

      each : found ≡ true → CertifiedFrom (rows_of table) after (i - 1)
      each t k l n = ⊎_elim (λ q. rw (← q) (here t)) (λ q. stays_certified (rows_of table) r.address (i - 1) before after keeps k l (z.each refl k (omega arith) n)) (eq-or-lt_of_le l)

  -- With another row before them, or after a class row that could not be entered.
  pub entered_other : (buckets : List ℕ) (i : ℕ) (r : Row) (certified : Bool) → 0 < i → i ≤ row_count table → r ≡ row_at table (i - 1) → ((certified ≡ true) × (r.kind ≡ 1 → ⊥)) ⊎ (certified ≡ false)
      → EnteredFrom (rows_of table) buckets i certified → EnteredFrom (rows_of table) buckets (i - 1) certified
  unfolding row_certified
  entered_other buckets i r certified p m e c z = record { each = each }
    where
      here : certified ≡ true → row_certified (rows_of table) buckets (i - 1) ≡ true
      here t = ⊎_elim (λ q. rw (nth_row table (i - 1) (omega arith), ← e, ne_eqb _ _ q.1)) (λ q. absurd (true_not_false (sym t ∙ q))) c

      each : certified ≡ true → CertifiedFrom (rows_of table) buckets (i - 1)
      each t k l n = ⊎_elim (λ q. rw (← q) (here t)) (λ q. z.each t k (omega arith) n) (eq-or-lt_of_le l)

  -- At the start of the table, certified buckets find every class row.
  pub entered_end : (buckets : List ℕ) (i : ℕ) (certified : Bool) → i ≡ 0 → EnteredFrom (rows_of table) buckets i certified → BucketsHold (rows_of table) buckets certified
  entered_end buckets i certified e z = record { finds = λ t. certified_finds (rows_of table) buckets (rw e at (z.each t)) }

-- Buckets that are certified make a class index.
pub certified_index : (rows : List Row) (buckets : Bor (List ℕ)) (certified : Bool) → BucketsHold rows buckets.now certified → certified ≡ true → IndexHolds rows (Some buckets)
certified_index rows buckets certified h t = record { finds = λ b q a. let s : buckets ≡ b = cc in rw (← s) (h.finds t a) }

-- Without buckets there is no class index.
pub no_index : (rows : List Row) → IndexHolds rows None
no_index rows = record { finds = λ b q a. let z : ◌≡◌ {A = ℕ} 0 1 = cc in absurd (omega arith) }
