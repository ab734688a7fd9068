-- The summaries of some rows, by computation: objects before and after their class row and without one, a second class row with the same
-- address, object arrays that share an entry with objects, primitive arrays, and a primitive type that equals a class word as a number.
-- A reader must believe the entries.
use Rattle.std.specs.Prelude.{◌≡◌, refl, ℕ, List, [], ◌∷◌}
use Rattle.table.specs.Search.{first_from, found_row}
use Rattle.table.specs.RowBytes.{is_class_at, naming_class, bytes_of}
use Rattle.table.specs.declared.Row.{Row}
use Rattle.summaries.specs.Summaries.{same_key, key_of, has, alter, with_key, keyed, keys_from, keys, total, share, waits, entry, summaries}
use Rattle.summaries.specs.declared.Summary.{Summary}

-- A row of a kind, with its address, class word, count of references, size and primitive type.
abbrev row : (kind address class count size prim : ℕ) → Row
row kind address class count size prim = record {
  kind = kind;
  address = address;
  class = class;
  hashkind = 0;
  hash = 0;
  first = 0;
  count = count;
  size = size;
  len = 0;
  place = 0;
  namelen = 0;
  prim = prim;
}

unfoldable pub example_rows : List Row
example_rows =
    row 2 0x1010 0x1000 3 0 0
    ∷ row 1 0x1000 0 7 16 0
    ∷ row 3 0x1020 0x1000 2 6 0
    ∷ row 4 0x1030 0 0 5 4
    ∷ row 2 0x1040 4 1 0 0
    ∷ row 1 0x1000 0 0 99 0
    ∷ row 2 0x1050 0x1000 0 0 0
    ∷ row 4 0x1060 0 0 1 4
    ∷ []

-- An entry: class word or primitive type, mark, instances, bytes, references, waiting.
abbrev line : (class mark instances bytes refs waiting : ℕ) → Summary
line class mark instances bytes refs waiting = record { class = class; mark = mark; instances = instances; bytes = bytes; refs = refs; waiting = waiting }

pub example_summaries : summaries example_rows
    ≡ line 0x1000 0 3 56 5 0
    ∷ line 4 1 2 24 0 0
    ∷ line 4 0 1 0 1 1
    ∷ []
unfolding example_rows first_from found_row is_class_at naming_class bytes_of same_key key_of has alter with_key keyed keys_from keys total share waits entry summaries
example_summaries = refl
