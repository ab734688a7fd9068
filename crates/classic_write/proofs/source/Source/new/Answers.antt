-- `new` satisfies its contract: good tables have few rows, and their numbers are in bounds.
use Rattle.classic_write.proofs.WriteText.{good_enterable}
use Rattle.classic_write.proofs.source.Source.new.Goals as goal

pub new-finder-requires-clause-rows_bound : goal.new-finder-requires-clause-rows_bound
new-finder-requires-clause-rows_bound c = (good_enterable _ _ _ _ c.args.good.good).0

pub new-finder-requires-clause-all_numbers_in_bounds : goal.new-finder-requires-clause-all_numbers_in_bounds
new-finder-requires-clause-all_numbers_in_bounds c = (good_enterable _ _ _ _ c.args.good.good).1
