use Rattle.std.proofs.Common.{◌≡◌, ◌-◌, ◌<◌, arith}
use Rattle.decode.specs.Reads.{stopped}
use Rattle.phd_record.proofs.RecordLaws.{refs_stop, refs_none, refs_next}
use Rattle.phd_record.proofs.refs.check_refs.Goals as goal

pub loop-init : goal.loop-init
loop-init c = let all : c.args.count - 0 ≡ c.args.count = omega arith in λ r e p. rw all at p

pub returns-in_err-ref_field : goal.returns-in_err-ref_field
returns-in_err-ref_field c =
    let some : 0 < c.args.count - c.loop.counter = omega arith in
    rw (stopped c.from_residual.ensures) (c.loop.invariant _ _ (refs_stop _ _ _ some c.in_err-ref_field.ensures.reads))

pub loop-preserved : goal.loop-preserved
loop-preserved c = λ r e p. c.loop.invariant r e (refs_next _ _ _ (omega arith) c.in_ok-ref_field.ensures.reads p)

pub returns : goal.returns
returns c = c.loop.invariant _ _ (refs_none _ _ _ _ (omega arith))
