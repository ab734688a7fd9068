-- `be_upto2` satisfies its contract: two digits, and a right shift that drops those after the first n.
use borrow.Author.Rules.{rules}
use mathlib.Core.Path.{◌≡◌, refl}
use Prim.Native.Nat.{ℕ, ◌+◌, ◌*◌, ◌<◌}
use native.Mathlib.Omega.{arith}
use lib.ListN.{take, drop, get_or}
use Rattle.decode.specs.Numbers.{value}
use Rattle.decode_fast.proofs.FastLaws.{value_two_bytes, value_lt, value_shift}
use Rattle.decode_fast.proofs.be_upto2.Statement.{statement}
use Rattle.decode_fast.proofs.be_upto2.Tie as tie

-- A byte is below 256.
small : (c : tie.After-wide) → c.wide.result < 256
small c = omega (arith, c.shared_slice_known-2-1.given c.args.at)

small2 : (c : tie.After-wide-2) → c.wide-2.result < 256
small2 c = omega (arith, c.shared_slice_known-3-1.given (c.args.at + 1))

bounds-s-at : tie.Need-bounds-s-at
bounds-s-at c = search rules

wide-requires : tie.Need-wide-requires
wide-requires c κs = search rules

overflow_mul-result : tie.Need-overflow_mul-result
overflow_mul-result c = omega (arith, small c)

overflow_add-at : tie.Need-overflow_add-at
overflow_add-at c = search rules

bounds-s-at-2 : tie.Need-bounds-s-at-2
bounds-s-at-2 c = search rules

wide-requires-2 : tie.Need-wide-requires-2
wide-requires-2 c κs = search rules

overflow_add-result : tie.Need-overflow_add-result
overflow_add-result c = omega (arith, small c.before.before, small2 c)

overflow_mul-result-2 : tie.Need-overflow_mul-result-2
overflow_mul-result-2 c = search rules

overflow_sub-result : tie.Need-overflow_sub-result
overflow_sub-result c = search rules

overflow_shr-result : tie.Need-overflow_shr-result
overflow_shr-result c = search rules

returns : tie.Need-returns
returns c =
    let z = c.before.before.before.before.before in
    let s = z.args.s.now in
    let at = z.args.at in
    let e : c.wide.result * 256 + c.wide-2.result ≡ value (take 2 (drop at s)) = omega (arith, value_two_bytes s at z.requires.1) in
    let byte : (i : ℕ) → get_or s i 0 < 256 = λ i. omega (arith, c.shared_slice_known-1.given i) in
    rw (e, value_shift s at byte 2 z.args.n z.requires.0 z.requires.1) (refl, value_lt s at byte z.args.n (omega arith))

pub be_upto2_spec : {M : Type 1} → statement M
be_upto2_spec =
    tie.close
    (tie.spec
    bounds-s-at
    wide-requires
    overflow_mul-result
    overflow_add-at
    bounds-s-at-2
    wide-requires-2
    overflow_add-result
    overflow_mul-result-2
    overflow_sub-result
    overflow_shr-result
    returns)
