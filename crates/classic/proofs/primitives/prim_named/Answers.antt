-- `prim_named` satisfies its contract.
use Rattle.std.proofs.Common.{◌≡◌, get_or, arith}
use Rattle.classic.proofs.ClassRowTests.{prim_named, no_prim_name}
use Rattle.classic.proofs.primitives.prim_named.Goals as goal

pub returns-in-91 : goal.returns-in-91
returns-in-91 c = let e : get_or c.args.name.now 0 0 ≡ 91 = omega arith in prim_named _ _ (omega arith) e c.prim_of.ensures

pub returns-in_default : goal.returns-in_default
returns-in_default c = no_prim_name _ (λ l e. omega arith)

pub returns-in_default-2 : goal.returns-in_default-2
returns-in_default-2 c = no_prim_name _ (λ l e. omega arith)

pub returns-in_default-3 : goal.returns-in_default-3
returns-in_default-3 c = no_prim_name _ (λ l e. omega arith)
