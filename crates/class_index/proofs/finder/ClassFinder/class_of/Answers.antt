-- `class_of` satisfies its contract.
use Rattle.std.proofs.Common.{◌∙◌}
use Rattle.table.specs.Rows.{rows_of}
use Rattle.classic.specs.PrimitiveClasses.{class_from_is}
use Rattle.class_index.proofs.finder.ClassFinder.class_of.Goals as goal

pub returns : goal.returns
returns c = let f = c.args.self.now in c.class_of.ensures ∙ class_from_is f.names.now (rows_of f.rows.now) f.primitives c.args.row f.primitive_classes c.requires
