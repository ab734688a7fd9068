-- `half_of` satisfies its contract: 2 ^ (8 * n - 1) is half of 256 ^ n.
use borrow.Author.Rules.{rules}
use Prim.Native.Nat.{◌-◌, ◌*◌, ◌^◌, ◌<◌}
use native.Mathlib.Omega.{arith}
use native.Mathlib.Nat.{one-mul, mod-eq_of_lt}
use lib.Pow.{pow-lt}
use Rattle.decode.proofs.DecodeLaws.{half_plus_half}
use Rattle.decode.proofs.half_of.Statement.{statement}
use Rattle.decode.proofs.half_of.Tie as tie

overflow_mul-result : tie.Need-overflow_mul-result
overflow_mul-result c = search rules

overflow_sub-result : tie.Need-overflow_sub-result
overflow_sub-result c = search rules

overflow_shl-result : tie.Need-overflow_shl-result
overflow_shl-result c = search rules

returns : tie.Need-returns
returns c =
    let n = c.args.n in
    let h : 2 ^ (8 * n - 1) < 2 ^ 64 = pow-lt {i = 8 * n - 1} {j = 64} (omega arith) in
    simp (one-mul, mod-eq_of_lt h) (half_plus_half n (omega arith))

pub half_of_spec : {M : Type 1} → statement M
half_of_spec = tie.close (tie.spec overflow_mul-result overflow_sub-result overflow_shl-result returns)
