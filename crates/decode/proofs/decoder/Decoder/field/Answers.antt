use Rattle.std.proofs.Common.{arith}
use Rattle.decode.specs.Layout.{raw, field, ◌>>=◌}
use Rattle.decode.specs.Reads.{stopped, reads_then, reads_stop, reads_yield}
use Rattle.decode.proofs.decoder.Decoder.field.Goals as goal

pub returns-in_err-raw-clause-reads : goal.returns-in_err-raw-clause-reads
unfolding raw field ◌>>=◌
returns-in_err-raw-clause-reads c = rw (stopped c.from_residual.ensures) (reads_stop _ c.in_err-raw.ensures.reads)

pub be-requires : goal.be-requires
be-requires c = omega (arith, c.in_ok-raw.ensures.long)

pub returns-clause-reads : goal.returns-clause-reads
unfolding raw field ◌>>=◌
returns-clause-reads c = rw c.be.ensures.is (reads_then _ c.in_ok-raw.ensures.reads (reads_yield _ _))

pub returns-clause-small : goal.returns-clause-small
returns-clause-small c = rw (← c.in_ok-raw.ensures.long) c.be.ensures.small
