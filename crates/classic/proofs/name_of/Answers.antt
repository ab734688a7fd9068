-- `name_of` satisfies its contract.
use Rattle.std.proofs.Common.{◌≡◌, ◌+◌, ◌-◌, arith}
use Rattle.table.specs.Rows.{name_of}
use Rattle.classic.proofs.name_of.Goals as goal

pub returns : goal.returns
unfolding name_of
returns c = let e : c.args.row.place + c.args.row.namelen - c.args.row.place ≡ c.args.row.namelen = omega arith in rw e
