use Rattle.std.proofs.Common.{refl, arith, eq-eqb, ne_eqb}
use Rattle.reader_toy.specs.Toy.{row}
use Rattle.reader_toy.proofs.store_row.Goals as goal

pub returns-then-b-eq0 : goal.returns-then-b-eq0
unfolding row
returns-then-b-eq0 c = rw (eq-eqb _ _ c.if-b-eq0.true) (record { is = refl; counts = omega arith })

pub store_row-requires : goal.store_row-requires
store_row-requires c = (rw (ne_eqb _ _ c.if-b-eq0.false) at c.requires, refl)

pub returns : goal.returns
unfolding row
returns c = rw (ne_eqb _ _ c.if-b-eq0.false) (record { is = c.store_row.ensures; counts = omega arith })
