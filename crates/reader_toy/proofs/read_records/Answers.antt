use Rattle.std.proofs.Common.{arith}
use Rattle.reader.specs.TableSteps.{invariant_start, end_rows, end_refs}
use Rattle.reader.proofs.TableSteps.{step_further, invariant_next}
use Rattle.reader_toy.specs.Toy.{toy}
use Rattle.reader_toy.proofs.Toy.{lawful}
use Rattle.reader_toy.proofs.ToyStepLaws.{end_answer}
use Rattle.reader_toy.proofs.read_records.Goals as goal

pub loop-end-init : goal.loop-end-init
loop-end-init c = (invariant_start toy lawful c.args.rows.now c.args.refs.now c.requires.0, omega arith)

pub returns-in-Err-clause-is : goal.returns-in-Err-clause-is
returns-in-Err-clause-is c = end_answer c.loop-end.invariant.0 c.in-Err.ensures

pub returns-in-Err-clause-rows : goal.returns-in-Err-clause-rows
returns-in-Err-clause-rows c = end_rows toy lawful c.loop-end.invariant.0 c.in-Err.ensures

pub returns-in-Err-clause-refs : goal.returns-in-Err-clause-refs
returns-in-Err-clause-refs c = end_refs toy lawful c.loop-end.invariant.0 c.in-Err.ensures

pub loop-end-smaller : goal.loop-end-smaller
loop-end-smaller c =
    let stepped = c.in_default.ensures.0 in
    let further = step_further toy lawful c.loop-end.invariant.0 stepped in
    let inside = stepped.fits.at_in in
    omega arith

pub loop-end-preserved : goal.loop-end-preserved
loop-end-preserved c = (invariant_next toy lawful c.loop-end.invariant.0 c.requires.1 c.in_default.ensures.0, c.in_default.ensures.1)
