-- `refs_of` satisfies its contract.
use Rattle.std.proofs.Common.{◌≡◌, ◌+◌, ◌-◌, arith}
use Rattle.table.specs.Rows.{refs_of}
use Rattle.classic.proofs.refs_of.Goals as goal

pub returns : goal.returns
unfolding refs_of
returns c = let e : c.args.row.first + c.args.row.count - c.args.row.first ≡ c.args.row.count = omega arith in rw e
