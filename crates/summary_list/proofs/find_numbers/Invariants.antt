-- From each place that the search passes it ends at the index at which the whole search ends.
use Rattle.std.proofs.Common.{◌≡◌, ◌-◌}
use Rattle.summary_list.specs.EntryList.{find_entry}
use Rattle.summary_list.proofs.find_numbers.Given as goal

abbrev pub invariant-loop-at : goal.invariant-loop-at
invariant-loop-at l = find_entry l.classes (record { mark = l.mark; class = l.class }) l.at (l.used - l.at) ≡ find_entry l.classes (record { mark = l.mark; class = l.class }) l.from (l.used - l.from)
