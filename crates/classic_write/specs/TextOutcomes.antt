-- The replies of the text and its size query by their checks, and bounds that good tables satisfy.
-- Assumes nothing.
use Rattle.std.specs.Prelude.{◌≡◌, ℕ, ◌+◌, ◌^◌, ◌<◌, true, ◌&&◌, List, length, leb, Option, Some, None, Ok, Err}
use Rattle.std.proofs.Math.Path.{refl, ap}
use Rattle.std.proofs.Common.{sym, arith, le-leb}
use Rattle.std.proofs.Math.Bool.{and-true}
use Rattle.table.specs.declared.Row.{Row}
use Rattle.phd.specs.declared.Header.{Header}
use Rattle.phd_check.specs.GoodRows.{good_header, first_bad, TablesGood}
use Rattle.table.specs.CheckOrder.{WriteResult, refused, checked_write, checked_input, CheckReplies, check_replies}
use Rattle.table.specs.SizeQuery.{QueryAgrees, query_refused, query_size, query_agrees_by as by_query}
use Rattle.phd_check.specs.WellFormed.{VmInBounds, vm_in_bounds, header_vm_good, header_bits_good, row_count_bound, ref_count_bound}
use Rattle.table.specs.Search.{first_row}
use Rattle.table.specs.declared.Answer.{Answer}
use Rattle.table.specs.declared.Refusal.{Refusal}
use Rattle.table.specs.declared.Refusal.TheVariants.{ClassMissing}
use Rattle.table.specs.Refusals.{refusal_answer}
use Rattle.classic.specs.ClassicText.{class_missing, text_of, text_rows, text_rows_size}
use Rattle.classic.specs.RowBounds.{all_in_bounds, all_refs_in_bounds}
use Rattle.phd_counts.specs.declared.Tally.{Tally}
use Rattle.classic_write.specs.TextParts.{version_text, rows_size, size_or_missing}
use Rattle.classic_write.specs.TextSizes.{version_le, rows_size_le}
use Rattle.classic_write.specs.declared.TextSize.{TextSize}

-- ---- replies by the checks

module _ (h : Header) (names refs : List ℕ) (rows : List Row) (out_capacity : ℕ) where
  abbrev text : List ℕ
  text = text_of h names refs rows

  abbrev missing : Option ℕ
  missing = first_row (class_missing rows) rows

  abbrev outcome : WriteResult
  outcome = text_rows h names refs rows out_capacity

  -- The checks decide the reply, each exactly in its case.
  pub text_by_checks : CheckReplies (good_header h names rows refs) (first_bad h names refs rows) missing (leb (length text) out_capacity) text outcome
  unfolding text_rows
  text_by_checks = check_replies _ _ _ _ _

-- ---- the size query

-- If the pass that sizes the rows returns a size, no class row is missing, and it is the size n.
pub size_has_classes : (f : Option ℕ) (n : ℕ) (t : Tally) (s : TextSize) → Ok s ≡ size_or_missing f n t → (f ≡ None) × (s.bytes ≡ n) × (s.tally ≡ t)
size_has_classes (Some i) n t s e = let z : ◌≡◌ {A = ℕ} 0 1 = cc in absurd (omega arith)
size_has_classes None n t s e = let q : s ≡ record { bytes = n; tally = t } = cc in (refl, ap (λ (x : TextSize). x.bytes) q, ap (λ (x : TextSize). x.tally) q)

-- If it returns a refusal, that is the refusal of the third check, 18.
refusal_is_18 : (f : Option ℕ) (n : ℕ) (t : Tally) (x : Refusal) (bytes : List ℕ) → Err x ≡ size_or_missing f n t → refusal_answer x ≡ (checked_write true None f true bytes).answer
unfolding checked_write refused
refusal_is_18 (Some i) n t x bytes e = let q : x ≡ ClassMissing i = cc in rw q
refusal_is_18 None n t x bytes e = let z : ◌≡◌ {A = ℕ} 0 1 = cc in absurd (omega arith)

module _ (h : Header) (names refs : List ℕ) (rows : List Row) where
  -- A refusal by the first two checks (15, 16) is the answer of the size query.
  pub check_refusal : (w : Answer) → w ≡ checked_input (good_header h names rows refs) (first_bad h names refs rows) → (w.reply ≡ 0 → ⊥) → w ≡ text_rows_size h names refs rows
  unfolding text_rows_size
  check_refusal w e z = query_refused _ _ _ _ _ w e z

  -- For good tables a refusal by the pass that sizes the rows is the answer of the size query.
  pub class_refusal : TablesGood h names refs rows → (x : Refusal) (n : ℕ) (t : Tally) → Err x ≡ size_or_missing (first_row (class_missing rows) rows) n t
      → refusal_answer x ≡ text_rows_size h names refs rows
  unfolding text_rows_size
  class_refusal a x n t e = rw (a.0, a.1, text_rows_size) (refusal_is_18 _ n t x _ e)

  -- If all three checks pass, the size query returns 0 with the length of the text.
  pub size_query_size : TablesGood h names refs rows → first_row (class_missing rows) rows ≡ None
      → record { reply = 0; place = length (text_of h names refs rows) } ≡ text_rows_size h names refs rows
  unfolding text_rows_size
  size_query_size a f = query_size _ _ _ _ _ a.0 a.1 f refl

  -- A size query is answered like writing the text to an output of exactly its length.
  pub size_query_as_text : text_rows_size h names refs rows ≡ (text_rows h names refs rows (length (text_of h names refs rows))).answer
  unfolding text_rows text_rows_size
  size_query_as_text =
      ap (λ b. (checked_write (good_header h names rows refs) (first_bad h names refs rows) (first_row (class_missing rows) rows) b (text_of h names refs rows)).answer)
      (sym (le-leb (length (text_of h names refs rows)) (length (text_of h names refs rows)) (omega arith)))

  -- Writing the text makes the checks of the size query, and checks the output's capacity.
  pub text_as_size_query : (out_capacity : ℕ) → text_rows h names refs rows out_capacity
      ≡ checked_write (good_header h names rows refs) (first_bad h names refs rows) (first_row (class_missing rows) rows) (leb (length (text_of h names refs rows)) out_capacity && true) (text_of h names refs rows)
  unfolding text_rows
  text_as_size_query out_capacity =
      ap (λ b. checked_write (good_header h names rows refs) (first_bad h names refs rows) (first_row (class_missing rows) rows) b (text_of h names refs rows))
      (sym (and-true (leb (length (text_of h names refs rows)) out_capacity)))

  -- The answer w of the size query agrees with writing the text to an output of any length.
  pub size_query_agrees : (w : Answer) (out_capacity : ℕ) → w ≡ text_rows_size h names refs rows → QueryAgrees w out_capacity (text_rows h names refs rows out_capacity)
  unfolding text_rows_size
  size_query_agrees w out_capacity e = rw (text_as_size_query out_capacity) (by_query _ _ _ _ _ w out_capacity e)

-- ---- good tables

module _ (h : Header) (names refs : List ℕ) (rows : List Row) (a : TablesGood h names refs rows) where
  -- The VM string of a good header lies in the name bytes.
  pub good_vm_in_bounds : VmInBounds names h.vm
  good_vm_in_bounds = vm_in_bounds _ _ (header_vm_good h names rows refs a.0)

  -- The version line and the lines of the rows have fewer than 2^62 bytes, so their size fits 64 bits.
  pub rows_size_lt : length (version_text names h.vm) + rows_size h.bits names rows < 2 ^ 62
  rows_size_lt =
      let v = version_le names h.vm good_vm_in_bounds in
      let g = a.0 in
      let m = rows_size_le h.bits names refs rows (header_bits_good h names rows refs g) (all_in_bounds h names refs rows a) (all_refs_in_bounds h names refs rows a) (row_count_bound h names rows refs g) (ref_count_bound h names rows refs g) in
      omega arith
