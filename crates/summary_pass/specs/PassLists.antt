-- The list of class summaries during a pass: where the entry of a key is, and that a row counted on numbers of 64 bits is the one of the
-- definition.
-- Assumes nothing.
use Rattle.std.specs.Prelude.{◌≡◌, refl, Bool, List, [], ◌∷◌, ◌++◌, map, length, get_or, take, drop}
use Rattle.std.proofs.Common.{sym, ◌∙◌, take-add, drop-cons, length-take-le, lt-ltb}
use Prim.Native.Nat.{ℕ, zero, suc, ◌+◌, ◌-◌, ◌*◌, ◌%◌, ◌^◌, ◌≤◌, ◌<◌}
use native.Mathlib.Omega.{arith}
use Rattle.std.proofs.Math.Bool.{true, false, cond}
use Rattle.table.specs.declared.Row.{Row}
use Rattle.summaries.specs.declared.Summary.{Summary}
use Rattle.summaries.specs.Summaries.{Key, same_key, its_key, sized}
use Rattle.summaries.specs.SummaryKeys.{same_true}
use Rattle.summaries.specs.EntryPlace.{seek}
use Rattle.summaries.specs.EntrySteps.{with_row, with_sizes}
use Rattle.summaries.specs.ClassRowsLast.{count_entry, count_bytes, count_waits}
use Rattle.summaries.specs.EntryBounds.{SmallEntry}
use Rattle.summary_index.specs.SummaryIndex.{key_at}
use Rattle.summary_list.specs.EntryList.{blank, find_entry}
use Rattle.summary_pass.specs.PassState.{place_of}

-- ---- places

-- The search for an entry is that for its key.
pub seek_place : (j : Key) (ss : List Summary) → seek j ss ≡ place_of j (map its_key ss)
unfolding seek place_of
seek_place j [] = refl
seek_place j (s ∷ ss) = rw (seek_place j ss)

place_after : (j : Key) (ks more : List Key) → ((i : ℕ) → i < length ks → key_at ks i ≡ j → ⊥) → place_of j (ks ++ more) ≡ length ks + place_of j more
unfolding place_of
place_after j [] more n = omega arith
place_after j (k ∷ ks) more n = by (same_key j k) refl (place_after j ks more (λ i l e. n (suc i) (omega arith) e))
  where
    by : (b : Bool) → same_key j k ≡ b → place_of j (ks ++ more) ≡ length ks + place_of j more → cond b 0 (suc (place_of j (ks ++ more))) ≡ suc (length ks) + place_of j more
    by true e h = absurd (n 0 (omega arith) (sym (same_true j k e)))
    by false e h = omega arith

map-append : (a b : List Summary) → map its_key (a ++ b) ≡ map its_key a ++ map its_key b
map-append [] b = refl
map-append (s ∷ a) b = rw (map-append a b)

pub map_length : (ss : List Summary) → length (map its_key ss) ≡ length ss
map_length [] = refl
map_length (s ∷ ss) = rw (map_length ss)

key_map : (ss more : List Summary) (i : ℕ) → i < length ss → key_at (map its_key ss) i ≡ key_at (map its_key (ss ++ more)) i
key_map [] more i l = absurd (omega arith)
key_map (s ∷ ss) more zero l = refl
key_map (s ∷ ss) more (suc i) l = key_map ss more i (omega arith)

module _ (ys : List Summary) (k : Key) where
  find_place : (t i : ℕ) → i + t ≤ length ys → find_entry ys k i t ≡ i + place_of k (map its_key (take t (drop i ys)))
  unfolding find_entry place_of
  find_place zero i l = omega arith
  find_place (suc t) i l = rw (drop-cons ys i blank (omega arith)) (by (same_key k (its_key (get_or ys i blank))) (find_place t (suc i) (omega arith)))
    where
      by : (b : Bool) → find_entry ys k (suc i) t ≡ suc i + place_of k (map its_key (take t (drop (suc i) ys)))
          → cond b i (find_entry ys k (suc i) t) ≡ i + cond b 0 (suc (place_of k (map its_key (take t (drop (suc i) ys)))))
      by true h = omega arith
      by false h = omega arith

  -- The entry that is found is the one at the place of its key, if none before the one from which the search goes has the key.
  pub entry_place : (from used : ℕ) → from ≤ used → used ≤ length ys → ((i : ℕ) → i < from → key_at (map its_key (take used ys)) i ≡ k → ⊥)
      → find_entry ys k from (used - from) ≡ place_of k (map its_key (take used ys))
  entry_place from used p q none =
      let e : from + (used - from) ≡ used = omega arith in
      let t : take used ys ≡ take from ys ++ take (used - from) (drop from ys) = rw e at (take-add from (used - from) ys) in
      let l : length (take from ys) ≡ from = length-take-le from ys (omega arith) in
      let n : (i : ℕ) → i < length (map its_key (take from ys)) → key_at (map its_key (take from ys)) i ≡ k → ⊥
      = λ i m z. none i (rw (map_length (take from ys), l) at m) (rw t (sym (key_map (take from ys) (take (used - from) (drop from ys)) i (rw (map_length (take from ys)) at m)) ∙ z)) in
      find_place (used - from) from (omega arith)
      ∙ sym (rw (t, map-append (take from ys) (take (used - from) (drop from ys)))
      (place_after k (map its_key (take from ys)) (map its_key (take (used - from) (drop from ys))) n
      ∙ rw (map_length (take from ys), l)))

-- ---- changes

mod_small : (n : ℕ) → n < 2 ^ 64 → n % 2 ^ 64 ≡ n
mod_small n l = omega arith

-- A row counted in an entry adds what `count_entry` adds, if the result is small.
pub count_is : (r : Row) (e : Summary) → SmallEntry (count_entry (count_bytes r) (count_waits r) r e) → with_row e r ≡ count_entry (count_bytes r) (count_waits r) r e
unfolding count_entry
count_is r e s = rw (mod_small _ s.instances, mod_small _ s.bytes, mod_small _ s.refs, mod_small (e.waiting + count_waits r) (let w = s.waiting in omega arith))

-- A class row gives the objects that wait their bytes, if the result is small.
pub size_is : (n : ℕ) (e : Summary) → n < 2 ^ 32 → SmallEntry e → SmallEntry (sized n e) → with_sizes e n ≡ sized n e
unfolding sized
size_is n e z s t = rw (lt-ltb e.waiting 0x1_0000_0000 (let w = s.waiting in omega arith), lt-ltb n 0x1_0000_0000 (omega arith), mod_small (e.bytes + e.waiting * n) t.bytes)
