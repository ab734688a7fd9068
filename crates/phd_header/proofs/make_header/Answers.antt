use Rattle.std.proofs.Common.{◌≡◌, cond}
use Rattle.phd.specs.Phd.{bit, make_header}
use Rattle.phd_header.proofs.make_header.Goals as goal
use Rattle.phd_header.proofs.make_header.Goals.{then-bit, else-bit}

pub returns : goal.returns
unfolding make_header
returns c =
    let bits : c.if-bit.result ≡ cond (bit 1 c.args.flags) 64 32
    = elim c.if-bit.branch [ then-bit w ↦ rw (← w.if-bit.ensures) w.result-is | else-bit w ↦ rw (← w.if-bit.ensures) w.result-is ] in
    rw (bits, c.bit-2.ensures, c.bit-3.ensures)
