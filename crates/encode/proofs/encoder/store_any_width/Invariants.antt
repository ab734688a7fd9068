use Rattle.std.proofs.Common.{◌≡◌}
use Rattle.std.proofs.lemmas.List.Edits.{sets}
use Rattle.encode.specs.Encode.{be}
use Rattle.encode.proofs.encoder.store_any_width.Given as goal

abbrev pub invariant-loop-i : goal.invariant-loop-i
invariant-loop-i l = sets l.out l.at (be l.i l.rest) ≡ sets l.fn.out l.fn.at (be l.fn.n l.fn.value)
