-- `sign_case_of` satisfies its contract: each branch returns-then-gap-lt0 the case of its sign, and no operation wraps.
use mathlib.Core.Path.{◌≡◌, sym, ap, subst, ◌∙◌}
use Prim.Native.Nat.{ℕ}
use native.Mathlib.Omega.{arith}
use lib.IntN.{ℤ, pos, negsuc, ◌-ℤ◌}
use lib.Signed.{lt_z}
use mir.Syntax.{w64}
use mir.Val.{to_z, of_z, SFits}
use mir.Facts.{to_z-of_z}
use Rattle.decode.specs.Numbers.{sign_case}
use Rattle.decode.proofs.DecodeLaws.{negative_is_negsuc, nonneg_is_pos, neg_one_neg}
use Rattle.decode.proofs.sign_case_of.Statement.{statement}
use Rattle.decode.proofs.sign_case_of.Tie as tie

-- A negative gap.
module _ (c : tie.Then-gap-lt0) where
  abbrev same : to_z w64 (of_z w64 c.args.gap) ≡ c.args.gap
  same = to_z-of_z {w = w64} c.ranges.gap

  abbrev neg : (n : ℕ) × (c.args.gap ≡ negsuc n)
  neg = negative_is_negsuc c.args.gap (ap (λ (z : ℤ). lt_z z (pos 0)) (sym same) ∙ c.if-gap-lt0.true)

  fit : SFits w64 (negsuc neg.0)
  fit = subst (SFits w64) neg.1 c.ranges.gap

  down : negsuc 0 -ℤ to_z w64 (of_z w64 c.args.gap) ≡ pos neg.0
  down = ap (λ (z : ℤ). negsuc 0 -ℤ z) (same ∙ neg.1) ∙ neg_one_neg neg.0

overflow_sub-result : tie.Need-overflow_sub-result
overflow_sub-result c = rw (down c) (record { sfits = (fit c).sfits })

down_again : (c : tie.Then-gap-lt0) → to_z w64 (of_z w64 (negsuc 0 -ℤ to_z w64 (of_z w64 c.args.gap))) ≡ pos (neg c).0
down_again c = to_z-of_z {w = w64} (overflow_sub-result c) ∙ down c

overflow_cast-result : tie.Need-overflow_cast-result
overflow_cast-result c = let f = (fit c).sfits in rw (down_again c) (tt, omega arith)

-- A gap of at least 0.
module _ (c : tie.Else-gap-lt0) where
  abbrev up : (n : ℕ) × (c.args.gap ≡ pos n)
  up = nonneg_is_pos c.args.gap (ap (λ (z : ℤ). lt_z z (pos 0)) (sym (to_z-of_z {w = w64} c.ranges.gap)) ∙ c.if-gap-lt0.false)

  up_again : to_z w64 (of_z w64 c.args.gap) ≡ pos up.0
  up_again = to_z-of_z {w = w64} c.ranges.gap ∙ up.1

overflow_cast-result-else-gap-lt0 : tie.Need-overflow_cast-result-else-gap-lt0
overflow_cast-result-else-gap-lt0 c =
    let f : SFits w64 (pos (up c).0) = subst (SFits w64) (up c).1 c.ranges.gap in
    let g = f.sfits in
    rw (up_again c) (tt, omega arith)

returns-then-gap-lt0 : tie.Need-returns-then-gap-lt0
unfolding sign_case
returns-then-gap-lt0 c = rw (down_again c) (sym (ap sign_case (neg c).1))

returns-else-gap-lt0 : tie.Need-returns-else-gap-lt0
unfolding sign_case
returns-else-gap-lt0 c = rw (up_again c) (sym (ap sign_case (up c).1))

pub sign_case_of_spec : {M : Type 1} → statement M
sign_case_of_spec = tie.close (tie.spec overflow_sub-result overflow_cast-result overflow_cast-result-else-gap-lt0 returns-then-gap-lt0 returns-else-gap-lt0)
