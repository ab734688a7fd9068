use Rattle.std.proofs.Common.{◌≡◌, arith}
use Rattle.encode.specs.Encode.{be}
use Rattle.encode.specs.Writes.{writes_none}
use Rattle.encode.proofs.encoder.store_number.Goals as goal

pub returns-else-n-eq1 : goal.returns-else-n-eq1
unfolding be
returns-else-n-eq1 c = let e : c.args.n ≡ 0 = omega arith in rw e (writes_none c.args.out.now c.args.at)
