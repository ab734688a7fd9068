-- The small format of specs/Toy.antt satisfies the laws of a format, so the theorems of every format hold for it.
use Rattle.std.specs.Prelude.{◌≡◌, refl, ℕ, ◌+◌, ◌-◌, ◌*◌, ◌%◌, ◌≤◌, ◌<◌, List, [], ◌∷◌, ◌++◌, length, get_or, eqb}
use Rattle.std.proofs.Common.{lit≤, arith}
use Rattle.decode.specs.Numbers.{value_after}
use Rattle.decode.specs.Layout.{whole, run, ◌>>=◌, position, raw, field, check}
use Rattle.decode.specs.Fields.{exactly}
use Rattle.decode.specs.Values.{Gives, cond_elim, gives_yield, gives_then_any, gives_cond, refuses_yield, refuses_then, refuses_cond, refuses_field, refuses_raw, refuses_position, refuses_exactly}
use Rattle.decode.specs.Takes.{Takes, takes_yield, takes_then, takes_cases, takes_field, takes_raw, takes_exactly}
use Rattle.table.specs.Table.{row_count}
use Rattle.reader.specs.Reader.{limit, Capacity, capacity, ◌⊑◌, Item, end_item, item, ended, transition, step, records, initial_state, from_header, read_result}
use Rattle.reader.specs.Steps.{ValidRow, empty_row, full_row, Lawful, byte_advances}
use Rattle.reader.specs.DumpBounds.{LeastBytes}
use Rattle.reader.proofs.DumpBounds.{stored_bound}
use Rattle.reader.proofs.MissingBytes.{completed_end_after}
use Rattle.reader.specs.RowOrigins.{offset_of, AllRowOrigins}
use Rattle.reader.proofs.RowOrigins.{read_row_origins, record_ends_before}
use Rattle.reader_toy.specs.Toy.{row, toy_record, toy, run_toy_record}

-- ---- laws of the format

-- The item's row is valid for a record at offset `at`.
abbrev ValidRowAt : ℕ → Item (Unit {0}) ℕ → Type 0
ValidRowAt at end_item = Unit {0}
ValidRowAt at (item r rs m c) = ValidRow at r

gives_row : {s : List ℕ} (letter count at : ℕ) → Gives s (ValidRowAt at) (toy_record letter count at)
unfolding toy_record row
gives_row letter count at =
    gives_then_any _ _ (λ n. gives_cond (eqb n 0) _ _ (gives_yield end_item tt)
    (gives_then_any _ _ (λ b. gives_yield _ (cond_elim (ValidRow at) (eqb (get_or b 0 0 % 2) 0) _ _ (empty_row refl) (full_row refl refl)))))

entry_advances : (letter count : ℕ) (s : List ℕ) (at : ℕ) (i : Item (Unit {0}) ℕ) (e : ℕ) → run (position >>= toy_record letter count) s at ≡ whole i e
    → (at < e) × (e ≤ length s)
unfolding toy_record field ◌>>=◌
entry_advances letter count s at i e r = byte_advances _ s at i e (rw run_toy_record at r)

-- The format satisfies the laws.
pub lawful : Lawful toy
unfolding toy_record
lawful = record {
  advances = λ letter count _ s at i e r. entry_advances letter count s at i e r;
  row = λ letter count _ s at r rs m k e f.
      let l = entry_advances letter count s at (item r rs m k) e f in
      (gives_row letter count at).each at (item r rs m k) e (omega arith) (rw run_toy_record at f);
  header_refusals = refuses_exactly 1 0x54 3 (record { not_end = λ z. omega arith; not_cut = λ z. omega arith });
  entry_refusals = λ _ count _. refuses_then _ _ refuses_position (λ at. refuses_then _ _ (refuses_field 1) (λ n.
      refuses_cond (eqb n 0) _ _ (refuses_yield end_item) (refuses_then _ _ (refuses_raw n) (λ b. refuses_yield _))));
}

-- A record has at most one row.
one_row : (letter count n b at : ℕ) → row_count (row letter count n b at) ≤ 1
unfolding row row_count
one_row letter count n b at = cond_elim (λ r. row_count r ≤ 1) (eqb (b % 2) 0) _ _ (lit≤ tt) (lit≤ tt)

-- A record takes at least one byte for its row, if it has one, and one for each of its references.
abbrev ItemBytes : Item (Unit {0}) ℕ → ℕ → Type 0
ItemBytes end_item n = Unit {0}
ItemBytes (item r rs m c) n = row_count r * 1 + length rs ≤ n

takes_item : (letter count at : ℕ) → Takes ItemBytes (toy_record letter count at)
unfolding toy_record
takes_item letter count at =
    takes_then _ _ _ (takes_field 1) (λ n k e. takes_cases (eqb n 0) _ _ (λ _. takes_yield end_item tt)
    (λ _. takes_then _ _ _ (takes_raw n) (λ b l f. takes_yield _ (omega (arith, e.0, f.0, f.1, one_row letter count n (get_or b 0 0) at)))))

-- The header takes one byte, and a record one in addition to those of its references, whether it has a row or not.
pub toy_least_bytes : LeastBytes toy 1 1
toy_least_bytes = record {
  header = λ s letter n e. let x = (takes_exactly 1 0x54 3).each s 0 letter n e in omega (arith, x.1, x.2);
  entry = λ letter count _ s at r rs m k e f.
      let x = (takes_item letter count at).each s at (item r rs m k) e (rw run_toy_record at f) in
      omega (arith, x.1, x.2);
}

-- ---- theorems of every format, for this one

-- Every stored row has its origin: the record at its offset.
pub toy_row_origins : (s : List ℕ) (A : Capacity) → AllRowOrigins toy s A (read_result toy s A)
toy_row_origins = read_row_origins toy lawful

-- A record ends at or before the offset of every later row, whatever records without a row lie between them.
pub toy_record_ends_before : (s : List ℕ) (A : Capacity) (i j : ℕ) (l : i < j) (b : j < row_count (read_result toy s A).rows)
    → ((toy_row_origins s A).each i (omega arith)).end ≤ offset_of (read_result toy s A).rows j
toy_record_ends_before s A i j l b = record_ends_before toy (read_result toy s A).header s A lawful _ _ i j l b ((toy_row_origins s A).each i (omega arith)) ((toy_row_origins s A).each j b)

-- A dump of n bytes gives at most n - 1 rows and references together.
pub toy_stored_bound : (s : List ℕ) (A : Capacity) → row_count (read_result toy s A).rows * 1 + length (read_result toy s A).refs ≤ length s - 1
toy_stored_bound = stored_bound toy lawful 1 1 toy_least_bytes

-- If s is cut and s ++ t is complete, its end is at or after the end of the missing bytes.
pub toy_completed_end : (s t : List ℕ) (A A' : Capacity) → length (s ++ t) ≤ limit → A ⊑ A' → (read_result toy s A).reply ≡ 1
    → (read_result toy (s ++ t) A').reply ≡ 0 → length s + (read_result toy s A).missing ≤ (read_result toy (s ++ t) A').place
toy_completed_end s t A A' l p e = completed_end_after toy s t A A' l p e lawful

-- ---- an example

-- The reading of a dump with a record that has a row, a record that has none, and the end. It holds by computing.
pub toy_example : read_result toy (0x54 ∷ 2 ∷ 1 ∷ 9 ∷ 1 ∷ 4 ∷ 0 ∷ []) (capacity 13 3)
    ≡ record { reply = 0; place = 7; missing = 0; rows = 0x54 ∷ 0 ∷ 2 ∷ 0 ∷ 0 ∷ 0 ∷ 0 ∷ 0 ∷ 0 ∷ 0 ∷ 0 ∷ 0 ∷ 1 ∷ []; refs = 1 ∷ 9 ∷ 4 ∷ []; header = 0x54 }
unfolding value_after run ◌>>=◌ position raw field check exactly row toy_record limit ended transition step records initial_state from_header read_result
toy_example = refl
