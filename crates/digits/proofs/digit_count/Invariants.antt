use Rattle.std.proofs.Common.{◌≡◌, ◌+◌}
use Rattle.digits.specs.Digits.{digit_count}
use Rattle.digits.proofs.digit_count.Given as goal

abbrev pub invariant-loop-rest : goal.invariant-loop-rest
invariant-loop-rest l = l.k + digit_count l.rest ≡ 1 + digit_count l.fn.n

abbrev pub decreases-loop-rest : goal.decreases-loop-rest
decreases-loop-rest l = l.rest
