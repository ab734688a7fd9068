-- The search for the entry of a key in a list of class summaries.
-- A reader need not believe it: PassLists of summary_pass proves which entry it finds.
use Rattle.std.specs.Prelude.{ℕ, zero, suc, cond, List, slice_index_or}
use Rattle.summaries.specs.declared.Summary.{Summary}
use Rattle.summaries.specs.Summaries.{Key, same_key, its_key}

-- The entry whose numbers are all 0.
abbrev pub blank : Summary
blank = record { class = 0; mark = 0; instances = 0; bytes = 0; refs = 0; waiting = 0 }

-- The first of t entries from index i on that has a key; i + t if none has.
unfoldable pub find_entry : List Summary → Key → ℕ → ℕ → ℕ
find_entry ys k i zero = i
find_entry ys k i (suc t) = cond (same_key k (its_key (slice_index_or ys i blank))) i (find_entry ys k (suc i) t)
