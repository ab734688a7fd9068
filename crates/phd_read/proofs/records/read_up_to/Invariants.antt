-- The steps so far led to the cursor; what is left of the dump gets less.
use Rattle.std.proofs.Common.{◌-◌, length}
use Rattle.phd_read.specs.PhdSteps.{Continued}
use Rattle.phd_read.proofs.records.read_up_to.Given as goal

abbrev pub invariant-loop-cursor : goal.invariant-loop-cursor
invariant-loop-cursor l = Continued l.header l.s l.initial.cursor l.initial.rows l.initial.refs l.upto l.rows l.refs l.cursor

abbrev pub decreases-loop-cursor : goal.decreases-loop-cursor
decreases-loop-cursor l = length l.s - l.cursor.at
