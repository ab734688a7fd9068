-- Reading on from the cursor gives the result of the whole reading; what is left of the dump gets less.
use Rattle.std.proofs.Common.{◌-◌, ◌≤◌, length}
use Rattle.reader.specs.TableSteps.{LoopInvariant}
use Rattle.reader_toy.specs.Toy.{toy}
use Rattle.reader_toy.specs.ReaderSpecs.{cursor_of}
use Rattle.reader_toy.proofs.read_records.Given as goal

abbrev pub invariant-loop-end : goal.invariant-loop-end
invariant-loop-end l = LoopInvariant toy l.letter l.s l.at l.initial.rows l.initial.refs l.rows l.refs (cursor_of l.k) × (l.k.count ≤ l.k.at)

abbrev pub decreases-loop-end : goal.decreases-loop-end
decreases-loop-end l = length l.s - l.k.at
