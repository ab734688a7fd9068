-- A write answers what the checks of the tables refuse, and leaves the output unchanged.
use Rattle.std.specs.Prelude.{◌≡◌, ℕ, List, length}
use Rattle.std.proofs.Common.{sym, refl}
use Rattle.table.specs.Buffer.{overwrite}
use Rattle.table.specs.CheckOrder.{checked_input, refused_unchanged}
use Rattle.table.specs.declared.Answer.{Answer}
use Rattle.table.specs.declared.Row.{Row}
use Rattle.phd.specs.declared.Header.{Header}
use Rattle.phd_check.specs.GoodRows.{good_header, first_bad}
use Rattle.phd_write.specs.Write.{write_rows}
use Rattle.phd_write.specs.WriteOutcomes.{check_refusal, size_query_agrees}

module _ (h : Header) (names refs : List ℕ) (rows : List Row) where
  -- The answer of the checks.
  abbrev checked : Answer
  checked = checked_input (good_header h names rows refs) (first_bad h names refs rows)

  -- If it is a refusal, a write answers it, and the output is as before.
  refused_by_check : (out : List ℕ) → (checked.reply ≡ 0 → ⊥)
      → (checked ≡ (write_rows h names refs rows (length out)).answer) × (out ≡ overwrite out (write_rows h names refs rows (length out)).bytes)
  refused_by_check out z =
      refused_unchanged out _ checked.reply checked.place ((size_query_agrees _ _ _ _ checked (length out) (check_refusal _ _ _ _ checked refl z)).refusal z)

  -- The same in two laws.
  pub answer_refused : (out : List ℕ) → (checked.reply ≡ 0 → ⊥) → (write_rows h names refs rows (length out)).answer ≡ checked
  answer_refused out z = sym (refused_by_check out z).0

  pub output_refused : (out : List ℕ) → (checked.reply ≡ 0 → ⊥) → overwrite out (write_rows h names refs rows (length out)).bytes ≡ out
  output_refused out z = sym (refused_by_check out z).1

-- The laws by which the check itself proves a return of `write` with a refusal of the tables.
pub ruleset checks_first = (answer_refused, output_refused)
