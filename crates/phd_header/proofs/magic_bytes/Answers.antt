use Rattle.std.proofs.Common.{refl, sym}
use Rattle.decode.specs.Reads.{stopped, reads_then, reads_stop, reads_stop_at, reads_check, reads_check_refused}
use Rattle.phd.specs.Phd.{magic_bytes}
use Rattle.phd_header.proofs.magic_bytes.Goals as goal

pub returns-in_err-text-clause-reads : goal.returns-in_err-text-clause-reads
unfolding magic_bytes
returns-in_err-text-clause-reads c = rw (stopped c.from_residual.ensures) (reads_stop _ c.in_err-text.ensures.reads)

pub returns-then-not-is_magic-clause-reads : goal.returns-then-not-is_magic-clause-reads
unfolding magic_bytes
returns-then-not-is_magic-clause-reads c = reads_stop_at (reads_then _ c.in_ok-text.ensures.reads (reads_check_refused _ (sym c.if-not-is_magic.ensures))) refl

pub returns-clause-reads : goal.returns-clause-reads
unfolding magic_bytes
returns-clause-reads c = reads_then _ c.in_ok-text.ensures.reads (reads_check _ (sym c.if-not-is_magic.ensures))
