-- The scope paper's dump (docs/FORMAT.md 9) read with lists of 2, 1 and no entries, by computation: its rows are a class, two objects of it
-- and a primitive array. With a full row table 13 comes before 20.
-- A reader must believe the table.
use Rattle.std.specs.Prelude.{◌≡◌, refl, ℕ, ◌*◌, List, [], ◌∷◌, map, length, take}
use Rattle.table.specs.Table.{row_width, row_count}
use Rattle.table.specs.Rows.{row_at, rows_from, rows_of}
use Rattle.table.specs.Search.{first_from, found_row}
use Rattle.table.specs.RowBytes.{is_class_at, naming_class, bytes_of}
use Rattle.summaries.specs.Summaries.{same_key, key_of, has, alter, with_key, keyed, keys_from, keys, total, share, waits, entry, summaries}
use Rattle.summaries.specs.declared.Summary.{Summary}
use Rattle.phd.specs.Phd.{Result}
use Rattle.phd.specs.ReadCases.{unfold_all, dump, dump_header, dump_rows}
use Rattle.classes_read.specs.ClassesRead.{rows_within_from, rows_within, with_reply, classes_result, classes_answer}

-- A case: how many rows the table holds, how many entries the list has; the reply, its place, how many rows are stored, how many
-- references, and the entries.
pub record ClassesRow : Type 0 where
  pub rows : ℕ
  pub entries : ℕ
  pub reply : ℕ
  pub place : ℕ
  pub stored : ℕ
  pub refs : ℕ
  pub list : List Summary

abbrev case : (rows entries reply place stored refs : ℕ) → List Summary → ClassesRow
case rows entries reply place stored refs list = record { rows = rows; entries = entries; reply = reply; place = place; stored = stored; refs = refs; list = list }

-- An entry: class word or primitive type, mark, instances, bytes, references, waiting.
abbrev line : (class mark instances bytes refs waiting : ℕ) → Summary
line class mark instances bytes refs waiting = record { class = class; mark = mark; instances = instances; bytes = bytes; refs = refs; waiting = waiting }

unfoldable pub classes_cases : List ClassesRow
classes_cases =
    case 4 2 0 74 4 1 (line 0x1000 0 2 32 1 0 ∷ line 1 1 1 24 0 0 ∷ [])
    ∷ case 4 1 20 66 3 1 (line 0x1000 0 2 32 1 0 ∷ [])
    ∷ case 4 0 20 57 1 0 []
    ∷ case 3 1 13 66 3 1 (line 0x1000 0 2 32 1 0 ∷ [])
    ∷ case 1 0 13 57 1 0 []
    ∷ []

-- The expected result of a case, and the actual one with its list.
unfoldable pub expected : ClassesRow → Result
expected c = record { reply = c.reply; place = c.place; missing = 0; rows = take (c.stored * row_width) (dump_rows 0x1010 0x1020 0x1030); refs = take c.refs (0x1020 ∷ []); header = dump_header }

unfoldable pub actual : ClassesRow → Result
actual c = classes_result dump (c.rows * row_width) 1 c.entries

pub cases_hold : map actual classes_cases ≡ map expected classes_cases
unfolding unfold_all dump dump_header dump_rows classes_cases expected actual row_count row_at rows_from rows_of same_key key_of alter with_key keyed rows_within_from rows_within with_reply classes_result
cases_hold = refl

pub lists_hold : map (λ c. summaries (rows_of (actual c).rows)) classes_cases ≡ map (λ c. c.list) classes_cases
unfolding unfold_all dump dump_header dump_rows classes_cases actual row_count row_at rows_from rows_of first_from found_row is_class_at naming_class bytes_of same_key key_of has alter with_key keyed keys_from keys total share waits entry summaries rows_within_from rows_within with_reply classes_result
lists_hold = refl

-- The answer has the number of entries.
pub entries_hold : map (λ c. (classes_answer (actual c)).entries) classes_cases ≡ map (λ c. length c.list) classes_cases
unfolding unfold_all dump dump_header dump_rows classes_cases actual row_count row_at rows_from rows_of first_from found_row is_class_at naming_class bytes_of same_key key_of has alter with_key keyed keys_from keys total share waits entry summaries rows_within_from rows_within with_reply classes_result classes_answer
entries_hold = refl
