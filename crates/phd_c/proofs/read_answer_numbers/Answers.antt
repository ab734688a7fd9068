-- Each flag is its number.
use Rattle.std.proofs.Common.{◌≡◌, refl, Bool, true, false}
use mir.Val.{bool_byte}
use Rattle.phd_c.specs.Boundary.{flag, read_answer_numbers}
use Rattle.phd_c.proofs.read_answer_numbers.Goals as goal

flag_is : (b : Bool) → bool_byte b ≡ flag b
flag_is true = refl
flag_is false = refl

pub returns : goal.returns
unfolding read_answer_numbers
returns c = rw (c.from.ensures, c.from-2.ensures, c.from-3.ensures) (simp flag_is)
