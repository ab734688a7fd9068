-- The invariant of `store_bytewise`: the first i bytes are stored.
use Rattle.std.proofs.Common.{◌+◌, take}
use Rattle.encode.specs.Writes.{Writes}
use Rattle.encode.proofs.slices.store_bytewise.Given as goal

abbrev pub invariant-loop-i : goal.invariant-loop-i
invariant-loop-i l = Writes l.fn.out l.at (take l.i l.bytes) l.out (l.at + l.i)
