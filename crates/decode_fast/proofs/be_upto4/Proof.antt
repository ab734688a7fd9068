-- `be_upto4` satisfies its contract: a right shift drops the bytes after the first n.
use borrow.Author.Rules.{rules}
use mathlib.Core.Path.{refl}
use Prim.Native.Nat.{ℕ, ◌<◌}
use native.Mathlib.Omega.{arith}
use lib.ListN.{get_or}
use Rattle.decode_fast.proofs.FastLaws.{value_lt, value_shift}
use Rattle.decode_fast.proofs.be_upto4.Statement.{statement}
use Rattle.decode_fast.proofs.be_upto4.Tie as tie

be_u32-requires : tie.Need-be_u32-requires
be_u32-requires c κs = search rules

overflow_mul-result : tie.Need-overflow_mul-result
overflow_mul-result c = search rules

overflow_sub-result : tie.Need-overflow_sub-result
overflow_sub-result c = search rules

overflow_shr-result : tie.Need-overflow_shr-result
overflow_shr-result c = search rules

returns : tie.Need-returns
returns c =
    let z = c.before.before in
    let s = z.args.s.now in
    let at = z.args.at in
    let byte : (i : ℕ) → get_or s i 0 < 256 = λ i. omega (arith, c.shared_slice_known-1.given i) in
    rw (c.be_u32.ensures.0, value_shift s at byte 4 z.args.n z.requires.0 z.requires.1) (refl, value_lt s at byte z.args.n (omega arith))

pub be_upto4_spec : {M : Type 1} → statement M
be_upto4_spec = tie.close (tie.spec be_u32-requires overflow_mul-result overflow_sub-result overflow_shr-result returns)
