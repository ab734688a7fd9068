-- The text of tables that are passed, and the meaning of the result of `size_good`, for the contracts of private functions.
-- A reader must believe `text_size_of` and `text_of_tables`. Assumes nothing.
use Rattle.std.specs.Prelude.{◌≡◌, ℕ, List, length, None, Result, Ok, Err}
use Rattle.table.specs.CheckOrder.{WriteResult}
use Rattle.table.specs.Refusals.{refusal_answer}
use Rattle.table.specs.Rows.{rows_of}
use Rattle.table.specs.declared.Answer.{Answer}
use Rattle.table.specs.declared.Refusal.{Refusal}
use Rattle.phd_check.specs.GoodRows.{TablesGood}
use Rattle.phd_check.specs.declared.Tables.{Tables}
use Rattle.phd_counts.specs.Counts.{tally_of}
use Rattle.table.specs.Search.{first_row}
use Rattle.classic.specs.ClassicText.{class_missing, text_of, text_result, text_size_result}
use Rattle.classic_write.specs.TextOutcomes.{size_query_size}
use Rattle.classic_write.specs.declared.TextSize.{TextSize}

-- The result of writing the tables as text, and the answer of the size query.
abbrev pub text_of_tables : Tables → ℕ → WriteResult
text_of_tables t out_capacity = text_result t.header t.names.now t.refs.now t.rows.now out_capacity

abbrev pub text_size_of : Tables → Answer
text_size_of t = text_size_result t.header t.names.now t.refs.now t.rows.now

-- The bytes of their text.
abbrev pub text_bytes : Tables → List ℕ
text_bytes t = text_of t.header t.names.now t.refs.now (rows_of t.rows.now)

-- Tables in which no class row is missing, with the size of their text and the counts of their rows.
pub record CheckedText (t : Tables) (s : TextSize) : Type 0 where
  pub classes : first_row (class_missing (rows_of t.rows.now)) (rows_of t.rows.now) ≡ None
  pub size_is : s.bytes ≡ length (text_of t.header t.names.now t.refs.now (rows_of t.rows.now))
  pub tally_is : s.tally ≡ tally_of (rows_of t.rows.now)

-- A refusal is the answer of the size query; a size and counts mean that the tables satisfy `CheckedText`.
abbrev pub SizedTextMeans : Tables → Result TextSize Refusal → Type 0
SizedTextMeans t (Err x) = refusal_answer x ≡ text_size_of t
SizedTextMeans t (Ok s) = CheckedText t s

-- For checked tables the size query returns 0 with their size n.
pub checked_text_reply : {t : Tables} {s : TextSize} → TablesGood t.header t.names.now t.refs.now (rows_of t.rows.now) → CheckedText t s
    → record { reply = 0; place = s.bytes } ≡ text_size_of t
checked_text_reply a c = rw c.size_is (size_query_size _ _ _ _ a c.classes)
