-- One more row is counted in each turn.
use Rattle.std.proofs.Common.{◌≡◌, arith}
use Rattle.summary_pass.proofs.CountRow.{counted_none, counted_more, can_sooner}
use Rattle.summary_pass.proofs.Tally.count_rows.Goals as goal

pub loop-row-init : goal.loop-row-init
loop-row-init c = counted_none c.requires.0 c.requires.1

pub count_row-tally-requires : goal.count_row-tally-requires
count_row-tally-requires c =
    let i = c.loop-row.invariant in
    (i.holds, i.list, can_sooner c.requires.3 _ (omega (arith, i.counted)) c.loop-row.auto.classes)

pub loop-row-preserved : goal.loop-row-preserved
loop-row-preserved c = counted_more c.loop-row.invariant c.count_row-tally.ensures

pub returns : goal.returns
returns c = let e : c.loop-row._row ≡ c.args.end = omega (arith, c.requires.2) in rw e at c.loop-row.invariant
