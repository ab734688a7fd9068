-- `print_bytes` is safe: the count of repeated lines and the lines left are together at most all lines. Assumes nothing.
use Rattle.std.proofs.Common.{◌+◌, ◌≤◌}
use Rattle.write_samples.proofs.print_bytes.Given as goal

abbrev pub invariant-loop-line : goal.invariant-loop-line
invariant-loop-line g l =
    l.repeated + (goal.iterator-loop-line g).remaining l.line-iterator ≤ (goal.iterator-loop-line g).remaining l.initial.line-iterator
