use Rattle.std.proofs.Common.{◌≡◌, ◌∙◌, arith}
use Rattle.std.proofs.Math.ListN.{drop_of_length-le}
use Rattle.std.proofs.lemmas.Grind.{common_steps}
use Rattle.encode.specs.Encode.{refs_code, width_code, fits, max}
use Rattle.encode.proofs.EncodeLaws.{refs_code_drop}
use Rattle.encode.proofs.refs_code.Goals as goal

pub loop-to-init : goal.loop-to-init
unfolding width_code fits
loop-to-init c = search

pub loop-to-preserved : goal.loop-to-preserved
loop-to-preserved c =
    let l = c.loop-to in
    let greater : c.max-m.result ≡ max l.m c.distance.result = grind (arith, common_steps) in
    rw (greater, ← (refs_code_drop c.args.refs.now l.to-index (omega arith) l.m c.args.a c.distance.result c.distance.ensures)) l.invariant

pub returns : goal.returns
unfolding refs_code
returns c = c.number_code.ensures ∙ rw (drop_of_length-le c.args.refs.now {i = c.loop-to.to-index} (omega arith)) at c.loop-to.invariant
