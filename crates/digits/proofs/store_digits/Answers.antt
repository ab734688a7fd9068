use Rattle.std.proofs.Common.{◌≡◌, ◌∙◌, sym, arith}
use Rattle.digits.specs.DigitLengths.{length_digits}
use Rattle.digits.proofs.DigitLaws.{decimal_digit_step}
use Rattle.digits.proofs.store_digits.Goals as goal

pub loop-i-preserved : goal.loop-i-preserved
loop-i-preserved c =
    let l = c.loop-i in
    sym (decimal_digit_step l.out c.args.at l.i l.rest (omega arith)) ∙ l.invariant

pub returns : goal.returns
returns c =
    let e : c.loop-i.i ≡ 0 = omega arith in
    record { out = rw e at c.loop-i.invariant; place = omega (arith, length_digits 10 c.args.k c.args.n) }
