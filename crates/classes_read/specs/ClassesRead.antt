-- The result of a reading with a list of class summaries (docs/FORMAT.md 5.4): it is that of the reading into the tables alone, ended
-- before the first record for whose row no entry is left, with reply 20 at that record's tag. The list holds the summaries of the rows
-- stored. A row is stored only if the tables have capacity for it, so 20 is checked after 13 and 14.
-- A reader must believe these definitions, and `Summaries.summaries`.
use Rattle.std.specs.Prelude.{ℕ, suc, ◌*◌, cond, List, [], ◌∷◌, eqb, leb, length}
use Rattle.table.specs.Table.{row_width, row_count}
use Rattle.table.specs.Rows.{rows_of}
use Rattle.table.specs.declared.Row.{Row}
use Rattle.summaries.specs.Summaries.{Key, keyed, summaries}
use Rattle.phd.specs.Phd.{Result, read_result}
use Rattle.phd_read.specs.ReadContract.{read_answer}
use Rattle.classes_read.specs.declared.ClassesAnswer.{ClassesAnswer}

-- How many rows come before the first one that is over C entries, if the rows before these have the keys ks.
unfoldable pub rows_within_from : ℕ → List Key → List Row → ℕ
rows_within_from C ks [] = 0
rows_within_from C ks (r ∷ rows) = cond (leb (length (keyed r ks)) C) (suc (rows_within_from C (keyed r ks) rows)) 0

-- How many rows come before the first one for which a list of C entries has none left; the number of rows if there is no such row.
unfoldable pub rows_within : ℕ → List Row → ℕ
rows_within C rows = rows_within_from C [] rows

-- A result with another reply.
unfoldable pub with_reply : ℕ → Result → Result
with_reply reply r = record { reply = reply; place = r.place; missing = r.missing; rows = r.rows; refs = r.refs; header = r.header }

-- The result of reading the bytes s into tables of R numbers for rows and F for references, with a list of C entries. If the list has not
-- enough entries for all rows of the reading into the tables alone, the result is that of a reading with capacity for only those rows
-- for which it has, with reply 20 instead of 13.
unfoldable pub classes_result : List ℕ → (R F C : ℕ) → Result
classes_result s R F C =
    let r : Result = read_result s R F in
    let n : ℕ = rows_within C (rows_of r.rows) in
    cond (eqb n (row_count r.rows)) r (with_reply 20 (read_result s (n * row_width) F))

-- The answer: that of a reading with this result, and the number of entries.
unfoldable pub classes_answer : Result → ClassesAnswer
classes_answer r = record { read = read_answer r; entries = length (summaries (rows_of r.rows)) }
