-- `encode_totals` satisfies its contract.
use Rattle.encode.specs.Wrote.{wrote_then}
use Rattle.classic_write.proofs.TextSteps.{totals_split}
use Rattle.classic_write.proofs.trailers.encode_totals.Goals as goal

pub returns : goal.returns
returns c =
    rw (totals_split c.args.t)
    (wrote_then c.encode_text_decimal.ensures (wrote_then c.encode_text_decimal-2.ensures (wrote_then c.encode_text_decimal-3.ensures c.bytes.ensures)))
