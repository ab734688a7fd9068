-- Before the first record: no rows have been counted, the list has no entries, and the summary index, all empty, has no keys.
-- Assumes nothing.
use Rattle.std.proofs.Common.{◌≡◌, ℕ, zero, suc, List, [], refl, arith}
use Rattle.std.specs.Prelude.{replicate, Some}
use Rattle.summaries.specs.declared.Summary.{Summary}
use Rattle.summaries.specs.declared.Key.{Key}
use Rattle.summaries.specs.Summaries.{keys_from, keys, summaries}
use Rattle.summaries.specs.ClassRowsLast.{others, class_rows, entries_after}
use Rattle.summary_index.specs.SummaryIndex.{empty, bucket_key, bucket_at}
use Rattle.summary_pass.specs.PassState.{first_tally, IndexState, TallyHolds, ListHolds}

empty_at : (n i : ℕ) → bucket_at (replicate n empty) i ≡ empty
empty_at zero i = refl
empty_at (suc n) zero = refl
empty_at (suc n) (suc i) = empty_at n i

nothing_in : (b : ℕ) (j : Key) → bucket_key (bucket_at (replicate 32832 empty) b) ≡ Some j → ⊥
nothing_in b j e = let z = rw (empty_at 32832 b) at e in let y : ◌≡◌ {A = ℕ} 0 1 = cc in omega arith

-- An index without keys, of buckets that are all empty.
empty_index : IndexState [] (replicate 32832 empty) first_tally
empty_index = record {
  used = refl;
  index = record { sound = λ b j e. absurd (nothing_in b j e); finds = λ e i l. absurd (omega arith) };
  last = λ j i e. absurd (let z : ◌≡◌ {A = ℕ} 0 1 = cc in omega arith);
  once = λ i j l. absurd (omega arith);
}

pub empty_holds : (rows : List ℕ) → TallyHolds rows (replicate 32832 empty) first_tally
unfolding keys keys_from
empty_holds rows = record {
  counted_in = omega arith;
  counted_few = omega arith;
  index = empty_index;
  small = λ i l. absurd (omega arith);
  class_rows = λ i l. absurd (omega arith);
  class_rows_in = omega arith;
  lowest_in = omega arith;
  range_in = omega arith;
}

pub empty_list : (rows : List ℕ) (classes : List Summary) → ListHolds rows classes first_tally 0
unfolding entries_after others class_rows summaries keys keys_from
empty_list rows classes = record { entries = refl; used_in = omega arith }
