-- `signed` satisfies its contract: below half of 256 ^ n the result is the value itself, else the value minus 256 ^ n.
use borrow.Author.Rules.{rules}
use mathlib.Core.Path.{◌≡◌, sym, ap, ◌∙◌}
use Prim.Native.Nat.{ℕ, suc, ◌-◌, ◌^◌, ◌<◌}
use native.Mathlib.Omega.{arith}
use lib.IntN.{ℤ, negsuc, ◌-ℤ◌}
use mir.Syntax.{w64}
use mir.Val.{to_z}
use mir.Facts.{to_z_pos, to_z-of_z}
use Rattle.decode.proofs.DecodeLaws.{bytes_le_u64, neg_one_sub, signed_small, signed_large}
use Rattle.decode.proofs.signed.Statement.{statement}
use Rattle.decode.proofs.signed.Tie as tie

-- With no bytes the value is 0.
returns-then-n-eq0 : tie.Need-returns-then-n-eq0
returns-then-n-eq0 c =
    let a = c.args in
    let r : a.raw < 256 ^ 0 = rw c.if-n-eq0.true at c.requires.1 in
    let z : a.raw ≡ 0 = omega arith in
    rw (z, c.if-n-eq0.true) (sym (signed_small 0 0 (omega arith)))

half_of-half-requires : tie.Need-half_of-half-requires
half_of-half-requires c κs = search rules

overflow_cast-result : tie.Need-overflow_cast-result
overflow_cast-result c = omega (arith, bytes_le_u64 c.args.n (omega arith))

overflow_sub-below : tie.Need-overflow_sub-below
overflow_sub-below c = search rules

overflow_sub-below-else-raw-half-2 : tie.Need-overflow_sub-below-else-raw-half-2
overflow_sub-below-else-raw-half-2 c = search rules

overflow_cast-result-else-raw-half : tie.Need-overflow_cast-result-else-raw-half
overflow_cast-result-else-raw-half c = omega (arith, bytes_le_u64 c.args.n (omega arith))

-- The complement of the bits below the sign bit: the result is -1 minus this.
abbrev G : tie.Else-raw-half → ℕ
G c = c.half_of-half.result - 1 - (c.args.raw - c.half_of-half.result)

below : (c : tie.Else-raw-half) → negsuc 0 -ℤ to_z w64 (G c) ≡ negsuc (G c)
below c =
    let h : G c < 2 ^ 63 = omega (arith, bytes_le_u64 c.args.n (omega arith)) in
    ap (λ (z : ℤ). negsuc 0 -ℤ z) (to_z_pos w64 h) ∙ neg_one_sub (G c)

overflow_sub-result : tie.Need-overflow_sub-result
overflow_sub-result c = rw (below c) (omega (arith, bytes_le_u64 c.args.n (omega arith)))

returns-then-raw-half : tie.Need-returns-then-raw-half
returns-then-raw-half c =
    let a = c.args in
    to_z_pos w64 (omega (arith, bytes_le_u64 a.n (omega arith))) ∙ sym (signed_small a.n a.raw (omega arith))

returns-else-raw-half : tie.Need-returns-else-raw-half
returns-else-raw-half c =
    let a = c.args in
    let e : 256 ^ a.n - suc a.raw ≡ G c = omega arith in
    to_z-of_z {w = w64} (overflow_sub-result c) ∙ below c ∙ sym (signed_large a.n a.raw (omega arith) ∙ ap negsuc e)

pub signed_spec : {M : Type 1} → statement M
signed_spec =
    tie.close
    (tie.spec
    returns-then-n-eq0
    half_of-half-requires
    overflow_cast-result
    overflow_sub-below
    overflow_sub-below-else-raw-half-2
    overflow_cast-result-else-raw-half
    overflow_sub-result
    returns-then-raw-half
    returns-else-raw-half)
