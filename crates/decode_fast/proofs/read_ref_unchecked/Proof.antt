-- `read_ref_unchecked` satisfies its contract: the lowest address in reach, plus 4 times the biased value, is the target.
use borrow.Author.Rules.{rules}
use mathlib.Core.Path.{◌≡◌}
use Prim.Native.Nat.{◌+◌, ◌-◌, ◌*◌, ◌/◌, ◌^◌, ◌<◌}
use native.Mathlib.Omega.{arith}
use lib.ListN.{take, drop}
use Rattle.decode.specs.Numbers.{value}
use Rattle.decode_fast.specs.RefsInRange.{gap_reach}
use Rattle.decode_fast.proofs.FastLaws.{gap_reach_shift, biased, biased_lt, biased_target, value_shift}
use Rattle.decode_fast.proofs.read_ref_unchecked.Statement.{statement}
use Rattle.decode_fast.proofs.read_ref_unchecked.Tie as tie

-- The shifted constant is the reach of w bytes.
far_is : (c : tie.After-be_u32) → let w = c.args.w in 0x200000000 / 2 ^ (32 - 8 * w) ≡ gap_reach w
far_is c = let z = c.before.before in gap_reach_shift 4 z.args.w z.requires.1

-- 4 times the biased value is less than twice the reach, so the sum does not wrap.
up : (c : tie.After-be_u32) → let w = c.args.w in 4 * biased 4 w c.be_u32.result < gap_reach w + gap_reach w
up c =
    let z = c.before.before in
    biased_lt 4 z.args.w c.be_u32.result z.requires.0 z.requires.1 c.be_u32.ensures.1

overflow_mul-k : tie.Need-overflow_mul-k
overflow_mul-k c = search rules

overflow_sub-k : tie.Need-overflow_sub-k
overflow_sub-k c = search rules

overflow_shr-reach : tie.Need-overflow_shr-reach
overflow_shr-reach c = search rules

be_u32-requires : tie.Need-be_u32-requires
be_u32-requires c κs = search rules

overflow_add-biased : tie.Need-overflow_add-biased
overflow_add-biased c = search rules

overflow_sub-result : tie.Need-overflow_sub-result
overflow_sub-result c = omega (arith, far_is c)

overflow_shr-result : tie.Need-overflow_shr-result
overflow_shr-result c = search rules

overflow_mul-result : tie.Need-overflow_mul-result
overflow_mul-result c = omega (arith, up c)

overflow_add-result : tie.Need-overflow_add-result
overflow_add-result c = omega (arith, far_is c, up c)

returns : tie.Need-returns
returns c =
    let z = c.before.before in
    let a = z.args in
    let s = a.s.now in
    let e : c.be_u32.result / 2 ^ (32 - 8 * a.w) ≡ value (take a.w (drop a.at s))
    = rw c.be_u32.ensures.0 (value_shift s a.at (λ i. omega (arith, c.shared_slice_known-1.given i)) 4 a.w z.requires.1 z.requires.2) in
    rw (far_is c, ← e) (biased_target 4 a.w c.be_u32.result z.requires.0 z.requires.1 c.be_u32.ensures.1 a.a z.requires.3)

pub read_ref_unchecked_spec : {M : Type 1} → statement M
read_ref_unchecked_spec =
    tie.close
    (tie.spec
    overflow_mul-k
    overflow_sub-k
    overflow_shr-reach
    be_u32-requires
    overflow_add-biased
    overflow_sub-result
    overflow_shr-result
    overflow_mul-result
    overflow_add-result
    returns)
