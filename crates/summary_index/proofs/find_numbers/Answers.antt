-- Marks 0 and 1 are those of a class word and of a primitive type; any other is in no bucket.
use Rattle.std.proofs.Common.{sym, arith}
use Rattle.summary_index.proofs.FindSteps.{find_nothing}
use Rattle.summary_index.proofs.find_numbers.Goals as goal

pub returns-in_default : goal.returns-in_default
returns-in_default c = sym (find_nothing _ _ (omega arith))
