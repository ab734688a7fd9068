use Rattle.std.proofs.lemmas.Bool.{eq-eqb, ne_eqb}
use Rattle.phd.specs.Phd.{ref_count}
use Rattle.decode.specs.Reads.{reads_yield}
use Rattle.phd_record.proofs.parts.ref_count.Goals as goal

pub returns-then-n-eq0 : goal.returns-then-n-eq0
unfolding ref_count
returns-then-n-eq0 c = rw (eq-eqb _ _ c.if-n-eq0.true) (reads_yield _ _)

pub returns : goal.returns
unfolding ref_count
returns c = rw (ne_eqb _ _ c.if-n-eq0.false) c.count.ensures.reads
