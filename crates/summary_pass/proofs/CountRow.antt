-- One more row counted: a class row widens the range of class rows, the key of any other row is there, or is new and is entered in the index.
-- Assumes nothing.
use Rattle.std.proofs.Common.{◌≡◌, ℕ, suc, ◌+◌, ◌-◌, ◌^◌, ◌≤◌, ◌<◌, Bool, true, false, List, [], ◌∷◌, ◌++◌, length, take, drop, map, refl, sym, ap, ◌∙◌, arith}
use Rattle.std.specs.Prelude.{◌&&◌, Option, Some, None}
use Rattle.std.proofs.Math.Decide.{dec_lt}
use Rattle.std.proofs.Math.ListN.{length-set}
use Rattle.std.proofs.Math.Seq.{length-take-le, take-add, drop-drop}
use Rattle.table.specs.Table.{row_count}
use Rattle.table.specs.Rows.{is_kind, row_at, rows_of, nth, length_rows, nth_row}
use Rattle.table.specs.declared.Row.{Row}
use Rattle.summaries.specs.declared.Summary.{Summary}
use Rattle.summaries.specs.declared.Key.{Key as CodeKey}
use Rattle.summaries.specs.Summaries.{Key, its_key, key_of, keys}
use Rattle.summaries.specs.SummaryKeys.{never, distinct}
use Rattle.summaries.specs.EntrySteps.{numbers, key_of_row, no_key, some_key}
use Rattle.summaries.specs.KeyCounts.{keys_le, keys_grow}
use Rattle.summaries.specs.ClassRowsLast.{entries_after, count_class_row}
use Rattle.summaries.specs.EntryBounds.{SmallRow}
use Rattle.summary_index.specs.declared.Bucket.{Bucket}
use Rattle.summary_index.specs.SummaryIndex.{key_at}
use Rattle.summary_index.specs.EnterKey.{EntersKey}
use Rattle.summary_pass.specs.declared.Tally.{Tally}
use Rattle.summary_pass.specs.PassState.{place_of, IndexState, TallyHolds, ListHolds, CanCount, Counted}
use Rattle.summary_pass.specs.KeyPlaces.{place_le, place_key, place_before, key_once, keys_class, keys_same, keys_new, key_appended, length_appended}
use Rattle.summary_pass.specs.PassSteps.{entries_keys, entries_length, ListStep, counted_list, counted_there, counted_new}

-- Two equal pairs.
pairs_same : {a b : CodeKey} {i n : ℕ} → ◌≡◌ {A = Option (CodeKey × ℕ)} (Some (a, i)) (Some (b, n)) → (a ≡ b) × (i ≡ n)
pairs_same {a} {b} {i} {n} e = let p : ◌≡◌ {A = CodeKey × ℕ} (a, i) (b, n) = cc in (ap (λ (x : CodeKey × ℕ). x.0) p, ap (λ (x : CodeKey × ℕ). x.1) p)

-- Lists that agree from index i on agree from a later index j on.
drop_later : (l m : List Summary) (i j : ℕ) → i ≤ j → drop i l ≡ drop i m → drop j l ≡ drop j m
drop_later l m i j h e =
    let p : i + (j - i) ≡ j = omega arith in
    ap (λ (n : ℕ). drop n l) (sym p) ∙ (sym (drop-drop (j - i) i l) ∙ (ap (drop (j - i)) e ∙ (drop-drop (j - i) i m ∙ ap (λ (n : ℕ). drop n m) p)))

-- A tally after its next row.
abbrev after : Tally → (used : ℕ) → (complete : Bool) → (last : Option (CodeKey × ℕ)) → (lowest above : ℕ) → Tally
after t used complete last lowest above = record { counted = t.counted + 1; used = used; complete = complete; last = last; lowest = lowest; above = above }

module _ {rows : List ℕ} {buckets : List Bucket} {classes : List Summary} {t : Tally} (w : TallyHolds rows buckets t) (v : ListHolds rows classes t 0) (can : CanCount rows classes (t.counted + 1)) where
  abbrev rs : List Row
  rs = rows_of rows

  next_row : t.counted + 1 ≡ suc t.counted
  next_row = omega arith

  pub row_in : t.counted < row_count rows
  row_in = omega (arith, can.end_in)

  row_in_list : t.counted < length rs
  row_in_list = rw (length_rows rows) row_in

  -- The row read is the next one: a class row, if it has no key, and another one with its key.
  row_is : {row : Row} → row ≡ row_at rows t.counted → row ≡ nth rs t.counted
  row_is e = e ∙ sym (nth_row rows t.counted row_in)

  pub no_key_next : {row : Row} → row ≡ row_at rows t.counted → key_of_row row ≡ None → is_kind 1 (nth rs t.counted) ≡ true
  no_key_next {row} e n = no_key (nth rs t.counted) (rw (← row_is e) n)

  pub some_key_next : {row : Row} → row ≡ row_at rows t.counted → (key : CodeKey) → key_of_row row ≡ Some key
      → (is_kind 1 (nth rs t.counted) ≡ false) × (numbers key ≡ key_of (nth rs t.counted)) × (row ≡ nth rs t.counted)
  some_key_next {row} e key n = let k = some_key (nth rs t.counted) key (rw (← row_is e) n) in (k.0, k.1, row_is e)

  small_rows : (n : ℕ) → n < length rs → n < suc t.counted → SmallRow (nth rs n)
  small_rows n l m = can.small n (omega arith)

  few_rows : suc t.counted ≤ 2 ^ 30
  few_rows = omega (arith, can.end_few)

  -- The keys before the row and after it.
  abbrev ks : List Key
  ks = keys (take t.counted rs)

  abbrev next_keys : List Key
  next_keys = keys (take (t.counted + 1) rs)

  once_next : (i n : ℕ) → i < length next_keys → n < length next_keys → key_at next_keys i ≡ key_at next_keys n → i ≡ n
  once_next = key_once next_keys (distinct (take (t.counted + 1) rs))

  -- The entries in use.
  entries_used : length (entries_after rs t.counted 0) ≡ t.used
  entries_used = entries_length rs t.counted 0 ∙ sym w.index.used

  first : take (length (entries_after rs t.counted 0)) classes ≡ entries_after rs t.counted 0
  first = rw entries_used v.entries

  -- What is left to show is the index and the range of the class rows.
  holds_next : {buckets' : List Bucket} {used : ℕ} {complete : Bool} {last : Option (CodeKey × ℕ)} {lowest above : ℕ}
      → IndexState next_keys buckets' (after t used complete last lowest above)
      → ((i : ℕ) → i < t.counted + 1 → is_kind 1 (nth rs i) ≡ true → (lowest ≤ i) × (i < above))
      → above ≤ t.counted + 1 → lowest ≤ t.counted + 1 → lowest ≤ above
      → TallyHolds rows buckets' (after t used complete last lowest above)
  holds_next index class_rows above_in lowest_in range_in = record {
    counted_in = can.end_in;
    counted_few = can.end_few;
    index = index;
    small = can.small;
    class_rows = class_rows;
    class_rows_in = above_in;
    lowest_in = lowest_in;
    range_in = range_in;
  }

  -- A class row.
  pub class_counted : is_kind 1 (nth rs t.counted) ≡ true → (low : ℕ) → low ≤ t.counted → ((t.above ≡ 0 → ⊥) → low ≤ t.lowest)
      → Counted rows classes t (t.counted + 1) buckets classes (after t t.used t.complete t.last low (t.counted + 1))
  class_counted e low here before = record {
    holds = holds_next
        (rw (next_row, keys_class rs t.counted row_in_list e) (record { used = w.index.used; index = w.index.index; last = w.index.last; once = w.index.once }))
        (λ i l k. (low_before (dec_lt i t.counted) l k, l)) (omega arith) (omega arith) (omega arith);
    list = record { entries = v.entries ∙ rw (next_row, count_class_row rs t.counted row_in_list e); used_in = v.used_in };
    counted = refl;
    used_le = omega arith;
    rest = refl;
  }
    where
      low_before : {i : ℕ} → Dec (i < t.counted) → i < t.counted + 1 → is_kind 1 (nth rs i) ≡ true → low ≤ i
      low_before {i} (yes m) l k = let r = w.class_rows i m k in let b = before (λ z. omega (arith, r.1)) in omega (arith, r.0)
      low_before {i} (no m) l k = omega arith

  -- Any other row, with its key.
  module _ (key : CodeKey) (e : is_kind 1 (nth rs t.counted) ≡ false) (key_is : numbers key ≡ key_of (nth rs t.counted)) (at : ℕ) (is : at ≡ place_of (numbers key) ks) where
    abbrev list' : List Summary
    list' = counted_list classes at t.used (numbers key) (nth rs t.counted)

    at_key : at ≡ place_of (key_of (nth rs t.counted)) ks
    at_key = is ∙ ap (λ (j : Key). place_of j ks) key_is

    -- It is no class row.
    class_rows_same : (i : ℕ) → i < t.counted + 1 → is_kind 1 (nth rs i) ≡ true → (t.lowest ≤ i) × (i < t.above)
    class_rows_same i l k = by (dec_lt i t.counted)
      where
        by : Dec (i < t.counted) → (t.lowest ≤ i) × (i < t.above)
        by (yes m) = w.class_rows i m k
        by (no m) = let q : i ≡ t.counted = omega arith in absurd (never (rw q at k) e)

    -- The list is that of the definition.
    step : ListStep classes (counted_list classes (place_of (key_of (nth rs t.counted)) (map its_key (entries_after rs t.counted 0))) (length (entries_after rs t.counted 0)) (key_of (nth rs t.counted)) (nth rs t.counted)) (entries_after rs (suc t.counted) 0)
        → ListStep classes list' (entries_after rs (suc t.counted) 0)
    step s = rw (at_key, key_is) (rw (entries_keys rs t.counted 0, entries_used) at s)

    -- If the key is there, the keys are the same.
    module _ (l : at < t.used) where
      same_keys : next_keys ≡ ks
      same_keys = let u = w.index.used in rw next_row (keys_same rs t.counted row_in_list e (rw (← at_key) (omega arith)))

      pub old_counted : Counted rows classes t (t.counted + 1) buckets list' (after t t.used t.complete (Some (key, at)) t.lowest t.above)
      old_counted =
          let c = counted_there rs t.counted row_in_list classes small_rows few_rows e first (let u = w.index.used in rw (entries_keys rs t.counted 0, entries_used, ← at_key) l) in
          let s = step c.1 in
          let n : length (entries_after rs (suc t.counted) 0) ≡ t.used = c.0 ∙ entries_used in
          let u = w.index.used in
          record {
            holds = holds_next (record {
              used = rw same_keys u;
              index = rw same_keys w.index.index;
              last = λ j i q. rw same_keys (last_is j i q);
              once = once_next;
            }) class_rows_same (omega (arith, w.class_rows_in)) (omega (arith, w.lowest_in)) w.range_in;
            list = record { entries = rw next_row (rw n at s.entries); used_in = rw length_same v.used_in };
            counted = refl;
            used_le = omega arith;
            rest = rw n at s.rest;
          }
        where
          length_same : length list' ≡ length classes
          length_same = length-set classes at _

          last_is : (j : CodeKey) (i : ℕ) → ◌≡◌ {A = Option (CodeKey × ℕ)} (Some (key, at)) (Some (j, i)) → (i < length ks) × (key_at ks i ≡ numbers j)
          last_is j i q =
              let a : at ≡ i = (pairs_same q).1 in
              let b : key ≡ j = (pairs_same q).0 in
              let m : at < length ks = let u = w.index.used in omega arith in
              rw (← a, ← b) (m, rw is (place_key (numbers key) ks (rw (← is) m)))

    -- If it is new, it is appended and entered in the index.
    module _ (l : t.used ≤ at) where
      at_end : at ≡ length ks
      at_end = let z = place_le (numbers key) ks in let u = w.index.used in omega (arith, is)

      more_keys : next_keys ≡ ks ++ (numbers key ∷ [])
      more_keys = rw (next_row, key_is) (keys_new rs t.counted row_in_list e (rw (← at_key) (let u = w.index.used in omega arith)))

      pub new_in : at < length classes
      new_in = let n = can.enough in let m = length_appended ks (numbers key) in let q = ap length more_keys in let a = at_end in omega arith

      pub new_counted : (buckets' : List Bucket) (entered complete : Bool) → EntersKey (numbers key) at buckets buckets' entered → complete ≡ t.complete && entered
          → Counted rows classes t (t.counted + 1) buckets' list' (after t (t.used + 1) complete (Some (key, at)) t.lowest t.above)
      new_counted buckets' entered complete enters both =
          let u = w.index.used in
          let f = v.used_in in
          let q : length (entries_after rs (suc t.counted) 0) ≤ length classes = rw (entries_length rs (suc t.counted) 0, ← next_row) can.enough in
          let c = counted_new rs t.counted row_in_list classes small_rows few_rows e first (rw (entries_keys rs t.counted 0, entries_used, ← at_key) l) q in
          let s = step c.1 in
          let n : length (entries_after rs (suc t.counted) 0) ≡ t.used + 1 = c.0 ∙ rw entries_used (omega arith) in
          record {
            holds = holds_next (record {
              used = rw (more_keys, length_appended ks (numbers key)) (omega arith);
              index = rw (more_keys, both) (enters ks t.complete w.index.index at_end (λ i m z. place_before (numbers key) ks i (rw (← is) (let a = at_end in omega arith)) z));
              last = λ j i z. rw more_keys (last_is j i z);
              once = once_next;
            }) class_rows_same (omega (arith, w.class_rows_in)) (omega (arith, w.lowest_in)) w.range_in;
            list = record { entries = rw next_row (rw n at s.entries); used_in = rw (length-set classes at _) (let i = new_in in let a = at_end in omega arith) };
            counted = refl;
            used_le = omega arith;
            rest = rw n at s.rest;
          }
        where
          last_is : (j : CodeKey) (i : ℕ) → ◌≡◌ {A = Option (CodeKey × ℕ)} (Some (key, at)) (Some (j, i)) → (i < length (ks ++ (numbers key ∷ []))) × (key_at (ks ++ (numbers key ∷ [])) i ≡ numbers j)
          last_is j i z =
              let a : at ≡ i = (pairs_same z).1 in
              let b : key ≡ j = (pairs_same z).0 in
              rw (← a, ← b, at_end) (rw (length_appended ks (numbers key)) (omega arith), key_appended ks (numbers key))

    -- Its entry is in the list.
    pub at_in : at < length classes
    at_in = by (dec_lt at t.used)
      where
        by : Dec (at < t.used) → at < length classes
        by (yes m) = let f = v.used_in in omega arith
        by (no m) = new_in (omega arith)

    pub at_few : at < 2 ^ 32
    at_few =
        let z = place_le (numbers key) ks in
        let k = keys_le (take t.counted rs) in
        let m = length-take-le t.counted rs (rw (length_rows rows) w.counted_in) in
        let f = w.counted_few in
        omega (arith, is)

-- ---- several rows

-- No row counted.
pub counted_none : {rows : List ℕ} {buckets : List Bucket} {classes : List Summary} {t : Tally} → TallyHolds rows buckets t → ListHolds rows classes t 0 → Counted rows classes t t.counted buckets classes t
counted_none w v = record { holds = w; list = v; counted = refl; used_le = omega arith; rest = refl }

-- Rows before others that can be counted can be.
pub can_sooner : {rows : List ℕ} {classes classes' : List Summary} {end : ℕ} → CanCount rows classes end → (n : ℕ) → n ≤ end → length classes' ≡ length classes → CanCount rows classes' n
can_sooner {rows} {classes} {classes'} {end} can n l same = record {
  end_in = omega (arith, can.end_in);
  end_few = omega (arith, can.end_few);
  small = λ i m. can.small i (omega arith);
  enough =
      let e : n + (end - n) ≡ end = omega arith in
      let t : take end (rows_of rows) ≡ take n (rows_of rows) ++ take (end - n) (drop n (rows_of rows)) = rw e at (take-add n (end - n) (rows_of rows)) in
      let g : length (keys (take n (rows_of rows))) ≤ length (keys (take end (rows_of rows))) = rw t (keys_grow (take n (rows_of rows)) (take (end - n) (drop n (rows_of rows)))) in
      omega (arith, can.enough);
}

-- One more row counted.
pub counted_more : {rows : List ℕ} {classes classes' classes'' : List Summary} {t t' t'' : Tally} {n : ℕ} {buckets' buckets'' : List Bucket}
    → Counted rows classes t n buckets' classes' t' → Counted rows classes' t' (t'.counted + 1) buckets'' classes'' t''
    → Counted rows classes t (n + 1) buckets'' classes'' t''
counted_more {classes = classes} {classes' = classes'} {t' = t'} {t'' = t''} a b = record {
  holds = b.holds;
  list = b.list;
  counted = b.counted ∙ rw a.counted;
  used_le = omega (arith, a.used_le, b.used_le);
  rest = b.rest ∙ drop_later classes' classes t'.used t''.used b.used_le a.rest;
}
