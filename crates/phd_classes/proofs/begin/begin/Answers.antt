-- A reading that the header stops has the answer without records.
use Rattle.phd_classes.proofs.begin.begin.Goals as goal

pub returns-in-Err : goal.returns-in-Err
returns-in-Err c = record { reply = c.in-Err.reply; missing = c.in-Err.missing; is = c.no_records.ensures; result = c.in-Err.ensures }
