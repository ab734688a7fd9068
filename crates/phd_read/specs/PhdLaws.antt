-- PHD is a lawful format of `reader`, so every theorem about lawful formats applies to it.
-- Assumes nothing.
use Rattle.std.proofs.Common.{arith}
use Rattle.decode.specs.Layout.{Layout}
use Rattle.decode.specs.Values.{Refuses}
use Rattle.phd.specs.Phd.{phd}
use Rattle.reader.specs.Steps.{RefusalReply, Lawful, full_row}
use Rattle.reader.specs.RowOrigins.{AlwaysRow}
use Rattle.phd_read.specs.RecordProperties.{entry_advances, entry_read_from}
use Rattle.phd_read.specs.ReadReplies.{RefusalsOnly, refusal_bounds, header_refusals, entry_refusals}

-- A layout that refuses only with 3 to 12 refuses neither with 0 (the end) nor with 1 (a cut).
phd_refusals : {A : Type 0} {l : Layout A} → RefusalsOnly l → Refuses RefusalReply l
phd_refusals g = record {
  each = λ s at r e. let k = refusal_bounds r (g.each s at r e) in record { not_end = λ z. omega arith; not_cut = λ z. omega arith };
}

-- The laws that `reader` requires of a format.
pub phd_lawful : Lawful phd
phd_lawful = record {
  advances = λ h c index s at i e r. entry_advances h c.address c.cache index s at i e r;
  row = λ h c index s at r rs m k e f.
      let x = entry_read_from h s c.address c.cache index at r rs m k e f in
      full_row x.numbers x.offset;
  header_refusals = phd_refusals header_refusals;
  entry_refusals = λ h c index. phd_refusals (entry_refusals h c.address c.cache index);
}

-- Every record has a row.
pub phd_always : AlwaysRow phd
phd_always h c index s at r rs m k e f = (entry_read_from h s c.address c.cache index at r rs m k e f).numbers
