-- The invariant of `store_blocks`: the first i bytes are stored.
use Rattle.std.proofs.Common.{◌+◌, ◌-◌, ◌≤◌, length, take}
use Rattle.encode.specs.Writes.{Writes}
use Rattle.encode.proofs.slices.store_blocks.Given as goal

abbrev pub invariant-loop-i : goal.invariant-loop-i
invariant-loop-i l = record { within : l.i ≤ length l.bytes; written : Writes l.fn.out l.at (take l.i l.bytes) l.out (l.at + l.i) }

abbrev pub decreases-loop-i : goal.decreases-loop-i
decreases-loop-i l = length l.bytes - l.i
