-- `add_gap` satisfies its contract: no operation wraps, and a negative gap is subtracted.
use borrow.Author.Rules.{rules}
use borrow.Author.Tests.{le-leb, lt-leb}
use mathlib.Core.Path.{◌≡◌, sym, ap, ◌∙◌}
use mathlib.Core.Bool.{cond}
use Prim.Native.Nat.{suc, ◌+◌, ◌-◌, ◌*◌, ◌≤◌, ◌<◌}
use native.Mathlib.Omega.{arith}
use lib.Dec.{leb}
use Rattle.decode.specs.Numbers.{sign_case, add_gap, in_range}
use mir.Syntax.{w64}
use mir.Facts.{to_z-of_z}
use Rattle.std.specs.Prelude.{None}
use Rattle.decode.proofs.DecodeLaws.{add_gap_nonneg, add_gap_negsuc}
use Rattle.decode.proofs.add_gap.Statement.{statement}
use Rattle.decode.proofs.add_gap.Tie as tie

-- `add_gap` for a gap of at least 0, and for a negative one.
module _ (c : tie.In-NonNeg) where
  up : let a = c.args in add_gap a.highest a.base a.gap ≡ in_range a.highest (a.base + 4 * c.in-NonNeg.n)
  up = add_gap_nonneg _ _ _ _ (ap sign_case (sym (to_z-of_z {w = w64} c.ranges.gap)) ∙ sym c.sign_case_of.ensures ∙ c.in-NonNeg.is)

module _ (c : tie.In-NegSuc) where
  down : let a = c.args in let n = c.in-NegSuc.n in
      add_gap a.highest a.base a.gap ≡ cond (leb (4 * suc n) a.base) (in_range a.highest (a.base - 4 * suc n)) None
  down = add_gap_negsuc _ _ _ _ (ap sign_case (sym (to_z-of_z {w = w64} c.ranges.gap)) ∙ sym c.sign_case_of.ensures ∙ c.in-NegSuc.is)

sign_case_of-requires : tie.Need-sign_case_of-requires
sign_case_of-requires c κs = search rules

enum_known-n : tie.Need-enum_known-n
enum_known-n c = search rules

overflow_mul-result : tie.Need-overflow_mul-result
overflow_mul-result c = search rules

overflow_add-result : tie.Need-overflow_add-result
overflow_add-result c = search rules

returns-then-n-highest : tie.Need-returns-then-n-highest
returns-then-n-highest c =
    let w = c.before.before in
    let a = w.args in
    let h : a.base + 4 * w.in-NonNeg.n ≤ a.highest = omega arith in
    rw (up w, le-leb _ _ h)

enum_known-n-in-NegSuc-1 : tie.Need-enum_known-n-in-NegSuc-1
enum_known-n-in-NegSuc-1 c = search rules

overflow_add-to : tie.Need-overflow_add-to
overflow_add-to c = search rules

overflow_mul-to : tie.Need-overflow_mul-to
overflow_mul-to c = search rules

overflow_sub-to : tie.Need-overflow_sub-to
overflow_sub-to c = search rules

returns-then-to-highest : tie.Need-returns-then-to-highest
returns-then-to-highest c =
    let w = c.before.before in
    let a = w.args in
    let n = w.in-NegSuc.n in
    let e : 4 * (n + 1) ≡ 4 * suc n = omega arith in
    let h : 4 * suc n ≤ a.base = omega arith in
    let k : a.base - 4 * suc n ≤ a.highest = omega arith in
    rw (down w, e, le-leb _ _ h, le-leb _ _ k)

returns-else-n-highest : tie.Need-returns-else-n-highest
returns-else-n-highest c =
    let w = c.before.before in
    let a = w.args in
    let h : a.highest < a.base + 4 * w.in-NonNeg.n = omega arith in
    rw (up w, lt-leb _ _ h)

returns-else-base-highest : tie.Need-returns-else-base-highest
returns-else-base-highest c =
    let w = c.before in
    let a = w.args in
    let h : a.highest < a.base + 4 * w.in-NonNeg.n = omega arith in
    rw (up w, lt-leb _ _ h)

returns-else-to-highest : tie.Need-returns-else-to-highest
returns-else-to-highest c =
    let w = c.before.before in
    let a = w.args in
    let n = w.in-NegSuc.n in
    let h : 4 * suc n ≤ a.base = omega arith in
    let k : a.highest < a.base - 4 * suc n = omega arith in
    rw (down w, le-leb _ _ h, lt-leb _ _ k)

returns-else-n-base : tie.Need-returns-else-n-base
returns-else-n-base c =
    let w = c.before in
    let a = w.args in
    let n = w.in-NegSuc.n in
    let h : a.base < 4 * suc n = omega arith in
    rw (down w, lt-leb _ _ h)

pub add_gap_spec : {M : Type 1} → statement M
add_gap_spec =
    tie.close
    (tie.spec
    sign_case_of-requires
    enum_known-n
    overflow_mul-result
    overflow_add-result
    returns-then-n-highest
    enum_known-n-in-NegSuc-1
    overflow_add-to
    overflow_mul-to
    overflow_sub-to
    returns-then-to-highest
    returns-else-n-highest
    returns-else-base-highest
    returns-else-to-highest
    returns-else-n-base)
