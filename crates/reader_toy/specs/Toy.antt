-- A small format, to show what a format has to define: the byte T, then records. A record is a byte with its length and that many
-- bytes; length 0 is the end. The bytes of a record are its references, and a record whose first byte is even has no row. The
-- context is the number of records so far.
-- All theorems about formats hold for it (proofs/Toy.antt). A reader must believe `row`, `toy_record` and `toy`.
use Rattle.std.specs.Prelude.{◌≡◌, ℕ, ◌+◌, ◌%◌, ◌≤◌, List, [], ◌∷◌, cond, length, get_or, take, eqb}
use Rattle.decode.specs.Layout.{Layout, yield, run, run_then, run_position, ◌>>=◌, position, raw, field}
use Rattle.decode.specs.Fields.{exactly}
use Rattle.reader.specs.Reader.{limit, Capacity, ◌⊑◌, Item, end_item, item, Format, read_result}
use Rattle.reader.specs.Prefixes.{ResultPrefix}
use Rattle.reader.proofs.Prefixes.{cuts_prefix}

-- ---- the format

-- The row of a record of n bytes, of which the first is b: empty if b is even; else the letter, how many records came before, n,
-- and the record's offset as the last number.
unfoldable pub row : (letter count n b at : ℕ) → List ℕ
row letter count n b at = cond (eqb (b % 2) 0) [] (letter ∷ count ∷ n ∷ 0 ∷ 0 ∷ 0 ∷ 0 ∷ 0 ∷ 0 ∷ 0 ∷ 0 ∷ 0 ∷ at ∷ [])

-- The layout of a record at offset `at`, with `count` records before it, or of the end.
unfoldable pub toy_record : ℕ → ℕ → ℕ → Layout (Item (Unit {0}) ℕ)
toy_record letter count at = do
  n ← field 1
  cond (eqb n 0) (yield end_item) (do
    b ← raw n
    yield (item (row letter count n (get_or b 0 0) at) b tt (count + 1)))

-- The format. A first byte other than T (0x54) is refused with reply 3.
abbrev pub toy : Format
toy = record {
  Header = ℕ;
  Context = ℕ;
  Note = Unit {0};
  header = exactly 1 0x54 3;
  empty_header = 0;
  start = λ _. 0;
  entry = λ letter count _. position >>= toy_record letter count;
}

-- ---- laws of the format

-- Reading a record at an offset uses the layout for that offset.
pub run_toy_record : (letter count : ℕ) (s : List ℕ) (at : ℕ) → run (position >>= toy_record letter count) s at ≡ run (toy_record letter count at) s at
run_toy_record letter count s at = rw (run_then, run_position)

-- ---- theorems of every format, for this one

-- Demand 3, first part: a shorter cut gives a prefix of what a longer one gives. It needs no law of the format.
pub toy_cuts_prefix : (b : List ℕ) (m n : ℕ) (A A' : Capacity) → m ≤ n → length (take n b) ≤ limit → A ⊑ A'
    → ResultPrefix (read_result toy (take m b) A) (read_result toy (take n b) A')
toy_cuts_prefix = cuts_prefix toy
