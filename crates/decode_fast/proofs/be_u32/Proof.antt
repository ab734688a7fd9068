-- `be_u32` satisfies its contract: four digits, one after the other.
use borrow.Author.Rules.{rules}
use Prim.Native.Nat.{ℕ, ◌+◌, ◌*◌, ◌^◌, ◌<◌}
use native.Mathlib.Omega.{arith}
use Rattle.decode_fast.proofs.FastLaws.{value_four_bytes}
use Rattle.decode_fast.proofs.be_u32.Statement.{statement}
use Rattle.decode_fast.proofs.be_u32.Tie as tie

-- The value of the bytes so far, and its bound.
abbrev sum2 : tie.After-wide-2 → ℕ
sum2 c = c.wide.result * 256 + c.wide-2.result

abbrev sum3 : tie.After-wide-3 → ℕ
sum3 c = sum2 c.before.before * 256 + c.wide-3.result

abbrev sum4 : tie.After-wide-4 → ℕ
sum4 c = sum3 c.before.before * 256 + c.wide-4.result

small : (c : tie.After-wide) → c.wide.result < 256
small c = omega (arith, c.shared_slice_known-2-1.given c.args.at)

small2 : (c : tie.After-wide-2) → sum2 c < 256 ^ 2
small2 c = let k = c.before in omega (arith, small k.before, k.shared_slice_known-3-1.given (k.args.at + 1))

small3 : (c : tie.After-wide-3) → sum3 c < 256 ^ 3
small3 c = let k = c.before in omega (arith, small2 k.before, k.shared_slice_known-4-1.given (k.args.at + 2))

small4 : (c : tie.After-wide-4) → sum4 c < 256 ^ 4
small4 c = let k = c.before in omega (arith, small3 k.before, k.shared_slice_known-5-1.given (k.args.at + 3))

bounds-s-at : tie.Need-bounds-s-at
bounds-s-at c = search rules

wide-requires : tie.Need-wide-requires
wide-requires c κs = search rules

overflow_mul-first : tie.Need-overflow_mul-first
overflow_mul-first c = omega (arith, small c)

overflow_add-at : tie.Need-overflow_add-at
overflow_add-at c = search rules

bounds-s-at-2 : tie.Need-bounds-s-at-2
bounds-s-at-2 c = search rules

wide-requires-2 : tie.Need-wide-requires-2
wide-requires-2 c κs = search rules

overflow_add-first : tie.Need-overflow_add-first
overflow_add-first c = omega (arith, small2 c)

overflow_mul-result : tie.Need-overflow_mul-result
overflow_mul-result c = omega (arith, small2 c)

overflow_add-at-2 : tie.Need-overflow_add-at-2
overflow_add-at-2 c = search rules

bounds-s-at-3 : tie.Need-bounds-s-at-3
bounds-s-at-3 c = search rules

wide-requires-3 : tie.Need-wide-requires-3
wide-requires-3 c κs = search rules

overflow_add-result : tie.Need-overflow_add-result
overflow_add-result c = omega (arith, small3 c)

overflow_mul-result-2 : tie.Need-overflow_mul-result-2
overflow_mul-result-2 c = omega (arith, small3 c)

overflow_add-at-3 : tie.Need-overflow_add-at-3
overflow_add-at-3 c = search rules

bounds-s-at-4 : tie.Need-bounds-s-at-4
bounds-s-at-4 c = search rules

wide-requires-4 : tie.Need-wide-requires-4
wide-requires-4 c κs = search rules

overflow_add-result-2 : tie.Need-overflow_add-result-2
overflow_add-result-2 c = omega (arith, small4 c)

returns : tie.Need-returns
returns c =
    let z = c.before.before.before.before.before.before.before.before.before in
    omega (arith, small4 c, value_four_bytes z.args.s.now z.args.at z.requires)

pub be_u32_spec : {M : Type 1} → statement M
be_u32_spec =
    tie.close
    (tie.spec
    bounds-s-at
    wide-requires
    overflow_mul-first
    overflow_add-at
    bounds-s-at-2
    wide-requires-2
    overflow_add-first
    overflow_mul-result
    overflow_add-at-2
    bounds-s-at-3
    wide-requires-3
    overflow_add-result
    overflow_mul-result-2
    overflow_add-at-3
    bounds-s-at-4
    wide-requires-4
    overflow_add-result-2
    returns)
