-- A turn of the loop goes from a stage to the next (ReadStages).
use Rattle.phd_classes.proofs.ReadStages.{stage_start, advance_requires, count_requires, stage_next, ends, finished}
use Rattle.phd_classes.proofs.read_from.Goals as goal

pub loop-end-init : goal.loop-end-init
loop-end-init c = stage_start _ _ _ _ _ c.requires.0 _ c.requires.1

pub advance-read-requires : goal.advance-read-requires
advance-read-requires c = advance_requires _ _ _ _ c.loop-end.invariant

pub count_rows-s-requires : goal.count_rows-s-requires
count_rows-s-requires c = count_requires _ _ _ _ c.loop-end.invariant _ _ _ _ c.advance-read.auto.rows c.advance-read.auto.refs c.advance-read.ensures

pub returns-in-Err : goal.returns-in-Err
returns-in-Err c =
    let n = stage_next _ _ _ _ c.loop-end.invariant _ _ _ _ c.advance-read.auto.rows c.advance-read.auto.refs c.advance-read.ensures _ _ _ c.count_rows-s.auto.classes c.count_rows-s.ensures in
    let e = ends _ _ _ _ c.loop-end.invariant _ _ _ _ c.advance-read.auto.rows c.advance-read.auto.refs c.advance-read.ensures _ _ _ c.count_rows-s.auto.classes c.count_rows-s.ensures c.in-Err.is in
    finished _ _ _ _ n _ _ _ e c.size_rows.auto.classes c.size_rows.ensures

pub loop-end-preserved : goal.loop-end-preserved
loop-end-preserved c =
    stage_next _ _ _ _ c.loop-end.invariant _ _ _ _ c.advance-read.auto.rows c.advance-read.auto.refs c.advance-read.ensures _ _ _ c.count_rows-s.auto.classes c.count_rows-s.ensures
