use Rattle.phd.specs.Phd.{phd}
use Rattle.reader.specs.TableSteps.{end_rows, end_refs}
use Rattle.phd_read.specs.PhdLaws.{phd_lawful}
use Rattle.phd_read.proofs.LoopLaws.{end_answer, many_invariant}
use Rattle.phd_read.proofs.records.read_records.Goals as goal

pub returns : goal.returns
returns c =
    let first = c.first-k.ensures in
    let ended = rw first at c.in-Err.ensures in
    let w = many_invariant ended.0.steps in
    record { is = end_answer w ended.1; rows = end_rows phd phd_lawful w ended.1; refs = end_refs phd phd_lawful w ended.1 }
