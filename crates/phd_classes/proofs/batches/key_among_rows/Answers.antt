-- Before the first row none has the key; a row that has it ends the search.
use Rattle.std.proofs.Common.{◌≡◌, refl, sym, ◌∙◌, arith}
use Rattle.phd_classes.specs.ReadState.{among}
use Rattle.phd_classes.specs.KeyAmong.{key_among_next, key_among_at}
use Rattle.phd_classes.proofs.batches.key_among_rows.Goals as goal

pub loop-i-init : goal.loop-i-init
unfolding among
loop-i-init c = refl

pub returns-then-row_has_key : goal.returns-then-row_has_key
returns-then-row_has_key c =
    sym (key_among_at _ c.args.rows.now c.loop-i.i (omega arith) c.args.n (omega arith) (sym c.row_has_key.ensures ∙ c.if-row_has_key.true))

pub loop-i-preserved : goal.loop-i-preserved
loop-i-preserved c =
    rw (key_among_next _ c.args.rows.now c.loop-i.i (omega arith), c.loop-i.invariant) (sym c.row_has_key.ensures ∙ c.if-row_has_key.false)

pub returns : goal.returns
returns c = let e : c.loop-i.i ≡ c.args.n = omega arith in rw (← e) (sym c.loop-i.invariant)
