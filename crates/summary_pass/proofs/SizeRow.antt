-- The pass over the class rows: one more row of it, and where it begins and ends.
-- Assumes nothing.
use Rattle.std.proofs.Common.{◌≡◌, ℕ, zero, suc, ◌+◌, ◌-◌, ◌≤◌, ◌<◌, Bool, true, false, cond, List, [], ◌∷◌, ◌++◌, length, take, map, refl, sym, ◌∙◌, append-nil, arith, take-suc}
use Rattle.std.proofs.Math.ListN.{length-set}
use Rattle.table.specs.Table.{row_count}
use Rattle.table.specs.Rows.{zero_row, is_kind, row_at, rows_of, nth, length_rows, nth_row}
use Rattle.table.specs.declared.Row.{Row}
use Rattle.summaries.specs.declared.Summary.{Summary}
use Rattle.summaries.specs.Summaries.{its_key, class_key, summaries}
use Rattle.summaries.specs.ClassRowsLast.{class_rows, class_rows_append, entries_after, entries_done, size_other}
use Rattle.summaries.specs.EntryBounds.{SmallRow}
use Rattle.summary_index.specs.declared.Bucket.{Bucket}
use Rattle.summary_pass.specs.declared.Tally.{Tally}
use Rattle.summary_pass.specs.PassState.{place_of, keys_counted, TallyHolds, ListHolds, CanSize, Sized, SizedAll}
use Rattle.summary_pass.specs.PassSteps.{entries_keys, entries_length, sized_list, sized_there, sized_nowhere}

-- No class row among n rows from row i on.
none_between : (rows : List Row) (i n : ℕ) → i + n ≤ length rows → ((j : ℕ) → i ≤ j → j < i + n → is_kind 1 (nth rows j) ≡ true → ⊥) → class_rows (take (i + n) rows) ≡ class_rows (take i rows)
unfolding class_rows
none_between rows i zero l none = let e : i + 0 ≡ i = omega arith in rw e
none_between rows i (suc n) l none =
    let e : i + suc n ≡ suc (i + n) = omega arith in
    rw (e, take-suc rows (i + n) zero_row (omega arith), class_rows_append (take (i + n) rows) (nth rows (i + n) ∷ []))
    (by (is_kind 1 (nth rows (i + n))) refl (none_between rows i n (omega arith) (λ j p q. none j p (omega arith))))
  where
    by : (b : Bool) → is_kind 1 (nth rows (i + n)) ≡ b → class_rows (take (i + n) rows) ≡ class_rows (take i rows)
        → class_rows (take (i + n) rows) ++ cond b (nth rows (i + n) ∷ []) [] ≡ class_rows (take i rows)
    by true e h = absurd (none (i + n) (omega arith) (omega arith) e)
    by false e h = append-nil (class_rows (take (i + n) rows)) ∙ h

module _ {rows : List ℕ} {buckets : List Bucket} {t : Tally} (w : TallyHolds rows buckets t) where
  abbrev rs : List Row
  rs = rows_of rows

  counted_length : t.counted ≤ length rs
  counted_length = rw (length_rows rows) w.counted_in

  -- Before the first class row there is nothing to size by.
  pub sized_lowest : entries_after rs t.counted t.lowest ≡ entries_after rs t.counted 0
  unfolding entries_after
  sized_lowest =
      let a = w.lowest_in in
      let c = counted_length in
      let z : 0 + t.lowest ≡ t.lowest = omega arith in
      let e = none_between rs 0 t.lowest (omega arith) (λ j x y k. let m = w.class_rows j (omega arith) k in omega (arith, m.0)) in
      rw (rw z at e)

  -- After the last class row all have been gone over.
  pub sized_above : entries_after rs t.counted t.above ≡ summaries (take t.counted rs)
  unfolding entries_after
  sized_above =
      let a = w.class_rows_in in
      let c = counted_length in
      let z : t.above + (t.counted - t.above) ≡ t.counted = omega arith in
      let e = none_between rs t.above (t.counted - t.above) (omega arith) (λ j x y k. let m = w.class_rows j (omega arith) k in omega (arith, m.1)) in
      rw (← (rw z at e)) (entries_done rs t.counted)

  pub list_lowest : {classes : List Summary} → ListHolds rows classes t 0 → ListHolds rows classes t t.lowest
  list_lowest v = record { entries = v.entries ∙ sym sized_lowest; used_in = v.used_in }

  pub sizes_end : {classes classes' : List Summary} → Sized rows classes t t.above classes' → SizedAll rows classes t classes'
  sizes_end s = record { entries = s.list.entries ∙ sized_above; rest = s.rest }

  -- The class rows among the rows counted can be gone over.
  pub can_size_counted : CanSize rows t.above
  can_size_counted = record {
    to_in = omega (arith, w.counted_in, w.class_rows_in);
    small = λ i l. w.small i (omega (arith, w.class_rows_in));
  }

  -- One more row.
  module _ {classes : List Summary} {i : ℕ} (v : ListHolds rows classes t i) (can : CanSize rows (i + 1)) where
    row_in : i < row_count rows
    row_in = omega (arith, can.to_in)

    row_in_list : i < length rs
    row_in_list = rw (length_rows rows) row_in

    -- The row read is this one.
    pub row_is : {row : Row} → row ≡ row_at rows i → row ≡ nth rs i
    row_is e = e ∙ sym (nth_row rows i row_in)

    next_row : i + 1 ≡ suc i
    next_row = omega arith

    entries_used : (z : ℕ) → length (entries_after rs t.counted z) ≡ t.used
    entries_used z = entries_length rs t.counted z ∙ sym w.index.used

    -- The entries stay as they are.
    same_sized : entries_after rs t.counted (suc i) ≡ entries_after rs t.counted i → Sized rows classes t (i + 1) classes
    same_sized e = record { list = record { entries = rw (next_row, e) v.entries; used_in = v.used_in }; rest = refl }

    -- A row that is no class row.
    pub other_sized : is_kind 1 (nth rs i) ≡ false → Sized rows classes t (i + 1) classes
    other_sized e = same_sized (size_other rs i row_in_list t.counted e)

    module _ (e : is_kind 1 (nth rs i) ≡ true) (at : ℕ) (is : at ≡ place_of (class_key (nth rs i)) (keys_counted rows t)) where
      place_is : place_of (class_key (nth rs i)) (map its_key (entries_after rs t.counted i)) ≡ at
      place_is = rw (entries_keys rs t.counted i) (sym is)

      first : take (length (entries_after rs t.counted i)) classes ≡ entries_after rs t.counted i
      first = rw (entries_used i) v.entries

      small_rows : (n : ℕ) → n < length rs → n < suc i → SmallRow (nth rs n)
      small_rows n a b = can.small n (omega arith)

      -- Its objects have no entry.
      pub class_nowhere : t.used ≤ at → Sized rows classes t (i + 1) classes
      class_nowhere m =
          same_sized (sized_nowhere rs i row_in_list classes small_rows t.counted w.counted_few (λ n a b. w.small n b) e first (rw (place_is, entries_used i) m))

      -- They have one.
      pub class_sized : at < t.used → Sized rows classes t (i + 1) (sized_list classes at (nth rs i).size)
      class_sized m =
          let s = rw place_is at (sized_there rs i row_in_list classes small_rows t.counted w.counted_few (λ n a b. w.small n b) e first (rw (place_is, entries_used i) m)) in
          record {
            list = record { entries = rw next_row (rw (entries_used (suc i)) at s.entries); used_in = rw (length-set classes at _) v.used_in };
            rest = rw (entries_used (suc i)) at s.rest;
          }

-- ---- several rows

-- No row gone over.
pub sized_none : {rows : List ℕ} {classes : List Summary} {t : Tally} {i : ℕ} → ListHolds rows classes t i → Sized rows classes t i classes
sized_none v = record { list = v; rest = refl }

-- Rows before others that can be gone over can be.
pub can_size_sooner : {rows : List ℕ} {to : ℕ} → CanSize rows to → (n : ℕ) → n ≤ to → CanSize rows n
can_size_sooner can n l = record { to_in = omega (arith, can.to_in); small = λ i m. can.small i (omega arith) }
