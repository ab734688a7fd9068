use Rattle.std.proofs.Common.{le-leb}
use Rattle.std.proofs.lemmas.Bool.{lt-leb}
use Rattle.phd.specs.Phd.{tag_form}
use Rattle.phd_record.proofs.fast.object_form.Goals as goal

pub returns-then-tag-ge128-clause-form : goal.returns-then-tag-ge128-clause-form
unfolding tag_form
returns-then-tag-ge128-clause-form c = rw (le-leb _ _ c.if-tag-ge128.true)

pub returns-clause-form : goal.returns-clause-form
unfolding tag_form
returns-clause-form c = rw (lt-leb _ _ c.if-tag-ge128.false, le-leb _ _ c.requires)
