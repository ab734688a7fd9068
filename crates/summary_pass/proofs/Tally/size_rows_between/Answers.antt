-- One more row is gone over in each turn.
use Rattle.std.proofs.Common.{◌≡◌, arith}
use Rattle.summary_pass.proofs.SizeRow.{sized_none, can_size_sooner}
use Rattle.summary_pass.proofs.Tally.size_rows_between.Goals as goal

pub loop-i-init : goal.loop-i-init
loop-i-init c = sized_none c.requires.1

pub size_row-requires : goal.size_row-requires
size_row-requires c = (c.requires.0, c.loop-i.invariant.list, can_size_sooner c.requires.3 _ (omega arith))

pub returns : goal.returns
returns c =
    let e : c.loop-i.i ≡ c.args.to = omega (arith, c.requires.2) in
    rw e at c.loop-i.invariant
