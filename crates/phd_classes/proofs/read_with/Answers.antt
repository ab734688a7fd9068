-- A reading that ends before the first record leaves tables and list as they are.
use Rattle.phd_classes.proofs.ReadStages.{refused_finished}
use Rattle.phd_classes.proofs.read_with.Goals as goal

pub returns-in-Err : goal.returns-in-Err
returns-in-Err c = refused_finished c.in-Err.ensures c.args.rows.now c.args.refs.now c.args.classes.now
