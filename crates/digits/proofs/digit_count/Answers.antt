use Rattle.std.proofs.Common.{arith}
use Rattle.digits.specs.DigitLengths.{digit_count_small, digit_count_step, digit_count_le_20}
use Rattle.digits.proofs.digit_count.Goals as goal

pub overflow_add-k : goal.overflow_add-k
overflow_add-k c = omega (arith, digit_count_le_20 c.args.n (omega arith))

pub loop-rest-preserved : goal.loop-rest-preserved
loop-rest-preserved c = omega (arith, digit_count_step c.loop-rest.rest (omega arith))

pub returns : goal.returns
returns c = omega (arith, digit_count_small c.loop-rest.rest (omega arith))
