-- `encode_trailers` satisfies its contract.
use Rattle.encode.specs.Wrote.{wrote_then}
use Rattle.classic_write.proofs.TextSteps.{trailers_split}
use Rattle.classic_write.proofs.trailers.encode_trailers.Goals as goal

pub returns : goal.returns
returns c = rw (trailers_split c.args.t) (wrote_then c.encode_breakdown.ensures (wrote_then c.byte.ensures (wrote_then c.encode_totals.ensures c.byte-2.ensures)))
