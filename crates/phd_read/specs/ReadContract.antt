-- The answer of a reading, and the caller's tables after it.
-- A reader must believe these definitions.
use Rattle.std.specs.Prelude.{◌≡◌, List, ℕ, length}
use Rattle.phd.specs.Phd.{Result, read_result}
use Rattle.table.specs.Table.{row_count}
use Rattle.table.specs.Buffer.{overwrite}
use Rattle.phd_read.specs.declared.ReadAnswer.{ReadAnswer}

-- The answer: reply, place, missing bytes, how many rows and references were stored, and the header.
unfoldable pub read_answer : Result → ReadAnswer
read_answer r = record { reply = r.reply; place = r.place; missing = r.missing; rows = row_count r.rows; refs = length r.refs; header = r.header }

-- The contract of `read_tables` for one call: its answer is a, and the tables rows and refs are rows' and refs' afterwards, each with
-- its part of the result at the start and otherwise unchanged.
pub record AfterRead (dump rows refs : List ℕ) (a : ReadAnswer) (rows' refs' : List ℕ) : Type 0 where
  pub is : a ≡ read_answer (read_result dump (length rows) (length refs))
  pub row_table : rows' ≡ overwrite rows (read_result dump (length rows) (length refs)).rows
  pub ref_table : refs' ≡ overwrite refs (read_result dump (length rows) (length refs)).refs
