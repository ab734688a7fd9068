use Rattle.std.proofs.Common.{arith}
use Rattle.std.proofs.lemmas.Grind.{common_steps}
use Rattle.decode.specs.Numbers.{value_after}
use Rattle.decode.proofs.DecodeLaws.{digit_lt, seven_bytes_lt, value_after_step}
use Rattle.decode.proofs.be.Goals as goal

pub overflow_mul-sum : goal.overflow_mul-sum
overflow_mul-sum c = let l = c.loop-b in omega (arith, seven_bytes_lt l.b-index l.invariant.0 (omega arith))

pub loop-b-preserved : goal.loop-b-preserved
loop-b-preserved c =
    let l = c.loop-b in
    let byte = c.type_inv.bytes l.b-index in
    let step = value_after_step c.args.bytes.now l.b-index l.sum c.loop-b-test.true in
    (digit_lt l.b-index l.invariant.0 (omega (arith, byte)), cc)

pub returns-clause-is : goal.returns-clause-is
unfolding value_after
returns-clause-is c = grind (arith, common_steps)
