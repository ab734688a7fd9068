use Rattle.std.proofs.Common.{◌≡◌, ◌∙◌, sym, arith}
use Rattle.encode.specs.Encode.{be}
use Rattle.encode.specs.NumberRoundTrip.{length_be}
use Rattle.encode.proofs.EncodeLaws.{be_step}
use Rattle.encode.proofs.encoder.store_any_width.Goals as goal

pub loop-i-preserved : goal.loop-i-preserved
loop-i-preserved c =
    let l = c.loop-i in
    sym (be_step l.out c.args.at l.i l.rest (omega arith)) ∙ l.invariant

pub returns : goal.returns
unfolding be
returns c =
    let e : c.loop-i.i ≡ 0 = omega arith in
    record { out = rw e at c.loop-i.invariant; place = omega (arith, length_be c.args.n c.args.value) }
