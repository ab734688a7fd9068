use mir.Syntax.{w64}
use mir.Facts.{to_z-of_z}
use Rattle.std.proofs.Common.{refl}
use Rattle.decode.specs.Fields.{count}
use Rattle.decode.specs.Reads.{stopped, reads_then, reads_stop, reads_stop_at, reads_needs}
use Rattle.decode.proofs.decoder.Decoder.count.Goals as goal

pub returns-in_err-raw-clause-reads : goal.returns-in_err-raw-clause-reads
unfolding count
returns-in_err-raw-clause-reads c = rw (stopped c.from_residual.ensures) (reads_stop _ c.in_err-raw.ensures.reads)

pub returns-in-Some-clause-reads : goal.returns-in-Some-clause-reads
unfolding count
returns-in-Some-clause-reads c =
    let same = to_z-of_z {w = w64} {z = c.signed.result} (record { sfits = c.signed.type_inv }) in
    let is = rw (same, c.signed.ensures) at c.in-Some.ensures in
    reads_then _ c.in_ok-raw.ensures.reads (rw (← is) (reads_needs _ _ _))

pub returns-in-None-clause-reads : goal.returns-in-None-clause-reads
unfolding count
returns-in-None-clause-reads c =
    let same = to_z-of_z {w = w64} {z = c.signed.result} (record { sfits = c.signed.type_inv }) in
    let is = rw (same, c.signed.ensures) at c.in-None.ensures in
    reads_then _ c.in_ok-raw.ensures.reads (rw (← is) (reads_stop_at (reads_needs _ _ _) refl))
