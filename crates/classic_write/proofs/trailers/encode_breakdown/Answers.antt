-- `encode_breakdown` satisfies its contract.
use Rattle.encode.specs.Wrote.{wrote_then}
use Rattle.classic_write.proofs.TextSteps.{breakdown_split}
use Rattle.classic_write.proofs.trailers.encode_breakdown.Goals as goal

pub returns : goal.returns
returns c =
    rw (breakdown_split c.args.t)
    (wrote_then c.encode_text_decimal.ensures (wrote_then c.encode_text_decimal-2.ensures (wrote_then c.encode_text_decimal-3.ensures c.encode_text_decimal-4.ensures)))
