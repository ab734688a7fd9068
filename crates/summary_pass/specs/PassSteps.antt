-- The list of class summaries after one more row of a pass.
-- Assumes nothing.
use Rattle.std.specs.Prelude.{◌≡◌, true, false, cond, take, drop}
use Rattle.std.proofs.Math.Path.{refl, sym, ap}
use Rattle.std.proofs.Common.{◌∙◌, length-append, take-suc-set, get_or-take, drop-set-lt}
use Prim.Native.Nat.{ℕ, zero, suc, ◌^◌, ◌≤◌, ◌<◌}
use native.Mathlib.Omega.{arith}
use mathlib.Core.List.{List, [], ◌∷◌, ◌++◌, map}
use Rattle.std.proofs.Math.Dec.{ltb}
use Rattle.std.proofs.Math.ListN.{length, get_or, set, length-set}
use Rattle.std.proofs.Math.Seq.{take-set-lt, get_or-set_same}
use borrow.Author.Tests.{lt-ltb, le-ltb}
use Rattle.table.specs.Rows.{is_kind, nth, All}
use Rattle.table.specs.declared.Row.{Row}
use Rattle.summaries.specs.declared.Summary.{Summary}
use Rattle.summaries.specs.Summaries.{Key, key_of, its_key, keys, class_key, fresh, sized}
use Rattle.summaries.specs.SummaryTotals.{keys_are, length_is}
use Rattle.summaries.specs.EntryPlace.{seek, change_at, change_end, add_at, add_end}
use Rattle.summaries.specs.EntrySteps.{with_row, with_sizes}
use Rattle.summaries.specs.ClassRowsLast.{others, class_rows, keys_apart, entries_after, count_entry, count_bytes, count_waits, count_other, size_class_row}
use Rattle.summaries.specs.EntryBounds.{SmallRow, SmallEntry, entries_small}
use Rattle.summary_list.specs.EntryList.{blank}
use Rattle.summary_pass.specs.PassState.{place_of}
use Rattle.summary_pass.specs.KeyPlaces.{place_le}
use Rattle.summary_pass.specs.PassLists.{map_length, seek_place, count_is, size_is}

-- The entries of a pass have the keys of the rows counted.
pub entries_keys : (rows : List Row) (c z : ℕ) → map its_key (entries_after rows c z) ≡ keys (take c rows)
unfolding entries_after
entries_keys rows c z = keys_are (others (take c rows) ++ class_rows (take z rows)) ∙ keys_apart (take c rows) (take z rows)

pub entries_length : (rows : List Row) (c z : ℕ) → length (entries_after rows c z) ≡ length (keys (take c rows))
unfolding entries_after
entries_length rows c z = length_is (others (take c rows) ++ class_rows (take z rows)) ∙ ap length (keys_apart (take c rows) (take z rows))

-- The first rows are small.
all_small : (rows : List Row) (n : ℕ) → ((i : ℕ) → i < length rows → i < n → SmallRow (nth rows i)) → All SmallRow (take n rows)
all_small rows zero s = tt
all_small [] (suc n) s = tt
all_small (r ∷ rows) (suc n) s = (s 0 (omega arith) (omega arith), all_small rows n (λ i l m. s (suc i) (omega arith) (omega arith)))

take_few : (rows : List Row) (n : ℕ) → n ≤ 2 ^ 30 → length (take n rows) ≤ 2 ^ 30
take_few rows zero l = omega arith
take_few [] (suc n) l = omega arith
take_few (r ∷ rows) (suc n) l = at_most (take-length n rows)
  where
    take-length : (m : ℕ) (xs : List Row) → length (take m xs) ≤ m
    take-length zero xs = omega arith
    take-length (suc m) [] = omega arith
    take-length (suc m) (x ∷ xs) = let h = take-length m xs in omega arith

    at_most : length (take n rows) ≤ n → suc (length (take n rows)) ≤ 2 ^ 30
    at_most h = omega arith

-- The list ys' has the entries `next` first, and is otherwise ys.
pub record ListStep (ys ys' next : List Summary) : Type 0 where
  pub entries : take (length next) ys' ≡ next
  pub rest : drop (length next) ys' ≡ drop (length next) ys

-- The list with a row counted in entry `at`, which is a new one of the key if fewer are in use.
abbrev pub counted_list : List Summary → (at used : ℕ) → Key → Row → List Summary
counted_list ys at used k r = set ys at (with_row (cond (ltb at used) (get_or ys at blank) (fresh k)) r)

-- The list with entry `at` sized.
abbrev pub sized_list : List Summary → (at size : ℕ) → List Summary
sized_list ys at size = set ys at (with_sizes (get_or ys at blank) size)

module _ (rs : List Row) (i : ℕ) (l : i < length rs) (ys : List Summary) (small : (n : ℕ) → n < length rs → n < suc i → SmallRow (nth rs n)) where
  abbrev r : Row
  r = nth rs i

  -- A row that is no class row is counted in its entry, or in a new one.
  module _ (few : suc i ≤ 2 ^ 30) (e : is_kind 1 r ≡ false) (first : take (length (entries_after rs i 0)) ys ≡ entries_after rs i 0) where
    abbrev ss : List Summary
    ss = entries_after rs i 0

    abbrev next : List Summary
    next = entries_after rs (suc i) 0

    abbrev f : Summary → Summary
    f = count_entry (count_bytes r) (count_waits r) r

    abbrev at : ℕ
    at = place_of (key_of r) (map its_key ss)

    next_small : (n : ℕ) → n < length next → SmallEntry (get_or next n blank)
    next_small n m = entries_small rs (suc i) 0 (take_few rs (suc i) few) (all_small rs (suc i) small) tt blank n m

    seek_at : seek (key_of r) ss ≡ at
    seek_at = seek_place (key_of r) ss

    -- If its key has an entry, the entries after the row are those before it, with the row in that one.
    pub counted_entries : at < length ss → next ≡ set ss at (f (get_or ss at blank))
    counted_entries m = count_other rs i l e ∙ (add_at (key_of r) blank f ss (rw seek_at m) ∙ rw seek_at)

    pub counted_there : at < length ss → (length next ≡ length ss) × ListStep ys (counted_list ys at (length ss) (key_of r) r) next
    counted_there m =
        let q : next ≡ set ss at (f (get_or ss at blank)) = counted_entries m in
        let n : length next ≡ length ss = ap length q ∙ length-set ss at _ in
        let g : get_or next at blank ≡ f (get_or ss at blank) = ap (λ (zs : List Summary). get_or zs at blank) q ∙ get_or-set_same ss at _ blank m in
        let s : SmallEntry (f (get_or ss at blank)) = rw g at (next_small at (rw n m)) in
        let d : get_or ys at blank ≡ get_or ss at blank = sym (get_or-take (length ss) ys at blank m) ∙ ap (λ (zs : List Summary). get_or zs at blank) first in (
          n,
          record {
            entries =
                rw (n, lt-ltb _ _ m, d, count_is r (get_or ss at blank) s)
                (take-set-lt (length ss) ys at (f (get_or ss at blank)) m ∙ (ap (λ (zs : List Summary). set zs at (f (get_or ss at blank))) first ∙ sym q));
            rest = drop-set-lt (length next) ys _ _ (omega arith);
          },
        )

    pub counted_new : length ss ≤ at → length next ≤ length ys → (length next ≡ suc (length ss)) × ListStep ys (counted_list ys at (length ss) (key_of r) r) next
    counted_new m enough =
        let x : seek (key_of r) ss < length ss → ⊥ = λ y. let z = seek_at in omega arith in
        let q : next ≡ ss ++ (f (fresh (key_of r)) ∷ []) = count_other rs i l e ∙ add_end (key_of r) blank f ss x in
        let n : length next ≡ suc (length ss) = ap length q ∙ (length-append ss (f (fresh (key_of r)) ∷ []) ∙ omega arith) in
        let p : at ≡ length ss = let y = rw (map_length ss) at (place_le (key_of r) (map its_key ss)) in omega arith in
        let g : get_or next (length ss) blank ≡ f (fresh (key_of r)) = ap (λ (zs : List Summary). get_or zs (length ss) blank) q ∙ last_of ss (f (fresh (key_of r))) in
        let s : SmallEntry (f (fresh (key_of r))) = rw g at (next_small (length ss) (omega arith)) in (
          n,
          record {
            entries =
                rw (n, le-ltb at (length ss) m, count_is r (fresh (key_of r)) s, p)
                (take-suc-set ys (length ss) (f (fresh (key_of r))) (omega arith) ∙ (ap (λ (zs : List Summary). zs ++ (f (fresh (key_of r)) ∷ [])) first ∙ sym q));
            rest = drop-set-lt (length next) ys _ _ (omega arith);
          },
        )
      where
        last_of : (xs : List Summary) (x : Summary) → get_or (xs ++ (x ∷ [])) (length xs) blank ≡ x
        last_of [] x = refl
        last_of (y ∷ xs) x = last_of xs x

  -- A class row gives the objects of its address their bytes; c rows have been counted.
  module _ (c : ℕ) (few : c ≤ 2 ^ 30) (counted_small : (n : ℕ) → n < length rs → n < c → SmallRow (nth rs n)) (e : is_kind 1 r ≡ true)
      (first : take (length (entries_after rs c i)) ys ≡ entries_after rs c i) where
    abbrev before : List Summary
    before = entries_after rs c i

    abbrev after : List Summary
    after = entries_after rs c (suc i)

    abbrev at_class : ℕ
    at_class = place_of (class_key r) (map its_key before)

    same_length : length after ≡ length before
    same_length = entries_length rs c (suc i) ∙ sym (entries_length rs c i)

    after_small : (n : ℕ) → n < length after → SmallEntry (get_or after n blank)
    after_small n m = entries_small rs c (suc i) (take_few rs c few) (all_small rs c counted_small) (all_small rs (suc i) small) blank n m

    before_small : (n : ℕ) → n < length before → SmallEntry (get_or before n blank)
    before_small n m = entries_small rs c i (take_few rs c few) (all_small rs c counted_small) (all_small rs i (λ j a b. small j a (omega arith))) blank n m

    seek_class : seek (class_key r) before ≡ at_class
    seek_class = seek_place (class_key r) before

    pub sized_there : at_class < length before → ListStep ys (sized_list ys at_class r.size) after
    sized_there m =
        let q : after ≡ set before at_class (sized r.size (get_or before at_class blank)) =
        size_class_row rs i l c e ∙ (change_at (class_key r) blank (sized r.size) before (rw seek_class m) ∙ rw seek_class) in
        let g : get_or after at_class blank ≡ sized r.size (get_or before at_class blank) = ap (λ (zs : List Summary). get_or zs at_class blank) q ∙ get_or-set_same before at_class _ blank m in
        let s : SmallEntry (sized r.size (get_or before at_class blank)) = rw g at (after_small at_class (rw same_length m)) in
        let d : get_or ys at_class blank ≡ get_or before at_class blank = sym (get_or-take (length before) ys at_class blank m) ∙ ap (λ (zs : List Summary). get_or zs at_class blank) first in
        record {
          entries =
              rw (same_length, d, size_is r.size (get_or before at_class blank) (small i l (omega arith)).size (before_small at_class m) s)
              (take-set-lt (length before) ys at_class (sized r.size (get_or before at_class blank)) m ∙ (ap (λ (zs : List Summary). set zs at_class (sized r.size (get_or before at_class blank))) first ∙ sym q));
          rest = let z = same_length in drop-set-lt (length after) ys _ _ (omega arith);
        }

    pub sized_nowhere : length before ≤ at_class → after ≡ before
    sized_nowhere m =
        let x : seek (class_key r) before < length before → ⊥ = λ y. let z = seek_class in omega arith in
        size_class_row rs i l c e ∙ change_end (class_key r) blank (sized r.size) before x
