use Rattle.std.proofs.lemmas.Bool.{eq-eqb, ne_eqb}
use Rattle.phd.specs.Phd.{class_name}
use Rattle.decode.specs.Reads.{reads_yield}
use Rattle.phd_record.proofs.parts.class_name.Goals as goal

pub returns-then-n-eq0 : goal.returns-then-n-eq0
unfolding class_name
returns-then-n-eq0 c = rw (eq-eqb _ _ c.if-n-eq0.true) (reads_yield _ _)

pub returns : goal.returns
unfolding class_name
returns c = rw (ne_eqb _ _ c.if-n-eq0.false) c.string.ensures.reads
