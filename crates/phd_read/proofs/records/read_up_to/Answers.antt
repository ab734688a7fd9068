use Rattle.std.proofs.Common.{refl, inl, inr, arith}
use Rattle.phd.specs.Phd.{phd}
use Rattle.reader.specs.ManySteps.{no_steps, more_steps}
use Rattle.reader.proofs.ManySteps.{one_step, step_one_row, step_at}
use Rattle.phd_read.specs.PhdLaws.{phd_lawful}
use Rattle.phd_read.proofs.LoopLaws.{continued_end}
use Rattle.phd_read.proofs.records.read_up_to.Goals as goal

pub loop-cursor-init : goal.loop-cursor-init
loop-cursor-init c = record { steps = no_steps phd phd_lawful c.args.header c.args.s.now c.requires.0; at_most = inr refl }

pub loop-cursor-smaller : goal.loop-cursor-smaller
loop-cursor-smaller c =
    let further = step_at phd phd_lawful c.args.header c.args.s.now c.loop-cursor.invariant.steps.fits c.in_default.ensures in
    let i = c.in_default.ensures.fits.at_in in
    omega arith

pub loop-cursor-preserved : goal.loop-cursor-preserved
loop-cursor-preserved c =
    let w = c.loop-cursor.invariant.steps in
    let one_row = step_one_row phd phd_lawful c.args.header c.args.s.now w.fits c.in_default.ensures in
    record {
      steps = more_steps phd phd_lawful c.args.header c.args.s.now w (one_step phd phd_lawful c.args.header c.args.s.now w.fits c.in_default.ensures c.requires.2);
      at_most = inl (omega arith);
    }

pub returns-in-Err : goal.returns-in-Err
returns-in-Err c = continued_end c.loop-cursor.invariant c.in-Err.ensures
