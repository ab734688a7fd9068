-- `refs_in_range` satisfies its contract: the shifted constant is the reach of w bytes.
use borrow.Author.Rules.{rules}
use native.Mathlib.Omega.{arith}
use Rattle.decode_fast.proofs.FastLaws.{gap_reach_shift, refs_in_range_wide, refs_in_range_small, refs_in_range_test}
use Rattle.decode_fast.proofs.refs_in_range.Statement.{statement}
use Rattle.decode_fast.proofs.refs_in_range.Tie as tie

returns-then-w-gt4 : tie.Need-returns-then-w-gt4
returns-then-w-gt4 c = let a = c.args in refs_in_range_wide a.w a.a a.top c.if-w-gt4.true

overflow_mul-reach : tie.Need-overflow_mul-reach
overflow_mul-reach c = search rules

overflow_sub-reach : tie.Need-overflow_sub-reach
overflow_sub-reach c = search rules

overflow_shr-reach : tie.Need-overflow_shr-reach
overflow_shr-reach c = search rules

returns-then-top-reach : tie.Need-returns-then-top-reach
returns-then-top-reach c =
    let a = c.args in
    refs_in_range_small a.w a.a a.top (omega (arith, gap_reach_shift 4 a.w c.if-w-gt4.false))

returns : tie.Need-returns
returns c =
    let a = c.args in
    let l = c.if-w-gt4.false in
    rw (gap_reach_shift 4 a.w l) (refs_in_range_test a.w a.a a.top l (omega (arith, gap_reach_shift 4 a.w l)))

pub refs_in_range_spec : {M : Type 1} → statement M
refs_in_range_spec = tie.close (tie.spec returns-then-w-gt4 overflow_mul-reach overflow_sub-reach overflow_shr-reach returns-then-top-reach returns)
