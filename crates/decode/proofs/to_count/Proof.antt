-- `to_count` satisfies its contract.
use borrow.Author.Rules.{rules}
use borrow.Author.Tests.{lt-ltb, le-ltb}
use mathlib.Core.Path.{◌≡◌, sym, ap, ◌∙◌}
use mir.Syntax.{w64}
use mir.Facts.{to_z-of_z}
use Rattle.decode.specs.Numbers.{sign_case}
use Rattle.decode.proofs.DecodeLaws.{to_count_nonneg, to_count_negsuc}
use Rattle.decode.proofs.to_count.Statement.{statement}
use Rattle.decode.proofs.to_count.Tie as tie

-- The sign case of the number is the one that `sign_case_of` returned.
signs : (c : tie.After-sign_case_of) → sign_case c.args.c ≡ c.sign_case_of.result
signs c = ap sign_case (sym (to_z-of_z {w = w64} c.ranges.c)) ∙ sym c.sign_case_of.ensures

sign_case_of-requires : tie.Need-sign_case_of-requires
sign_case_of-requires c κs = search rules

enum_known-n : tie.Need-enum_known-n
enum_known-n c = search rules

returns-then-n-lt2147483648 : tie.Need-returns-then-n-lt2147483648
returns-then-n-lt2147483648 c = let w = c.before in rw (to_count_nonneg _ _ (signs w.before ∙ w.in-NonNeg.is), lt-ltb _ _ c.if-n-lt2147483648.true)

enum_told-1 : tie.Need-enum_told-1
enum_told-1 c = search rules

returns-else-n-lt2147483648 : tie.Need-returns-else-n-lt2147483648
returns-else-n-lt2147483648 c = let w = c.before in rw (to_count_nonneg _ _ (signs w.before ∙ w.in-NonNeg.is), le-ltb _ _ c.if-n-lt2147483648.false)

returns-in-NegSuc : tie.Need-returns-in-NegSuc
returns-in-NegSuc c = rw (to_count_negsuc _ _ (signs c.before ∙ c.in-NegSuc.is))

pub to_count_spec : {M : Type 1} → statement M
to_count_spec =
    tie.close (tie.spec sign_case_of-requires enum_known-n returns-then-n-lt2147483648 enum_told-1 returns-else-n-lt2147483648 returns-in-NegSuc)
