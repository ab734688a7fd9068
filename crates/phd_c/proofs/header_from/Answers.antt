-- The test of a flag in the code is the test of the definition.
use Rattle.std.proofs.Common.{◌≡◌, ℕ, zero, suc, not, eqb, ltb, refl, arith, ne_eqb, lt-ltb}
use Rattle.phd_c.specs.Boundary.{header_from}
use Rattle.phd_c.proofs.header_from.Goals as goal

-- A number is not 0 exactly if it is above 0.
set_above : (n : ℕ) → not (eqb n 0) ≡ ltb 0 n
set_above zero = refl
set_above (suc n) = rw (ne_eqb (suc n) 0 (λ e. omega arith), lt-ltb 0 (suc n) (omega arith))

pub returns : goal.returns
unfolding header_from
returns c = simp set_above
