-- The finder that `new` makes satisfies its invariant.
use Rattle.class_index.specs.LastSearch.{no_search_holds}
use Rattle.class_index.proofs.EnterSteps.{certified_index, no_index}
use Rattle.class_index.proofs.finder.ClassFinder.new.Goals as goal
use Rattle.class_index.proofs.finder.ClassFinder.new.Goals.{then-certified, else-certified}

pub invariant_of-result : goal.invariant_of-result
invariant_of-result c = record {
  numbers_in_bounds = c.requires.all_numbers_in_bounds;
  index_holds = elim c.if-certified.branch [
    | then-certified w ↦ rw w.buckets-is (certified_index _ _ _ c.enter_classes-certified.ensures.buckets w.if-certified.true)
    | else-certified w ↦ rw w.buckets-is (no_index _)
  ];
  primitive_classes = c.enter_classes-certified.ensures.primitives;
  last_search_holds = no_search_holds _;
}
