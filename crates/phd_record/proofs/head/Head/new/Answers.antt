use Rattle.phd.specs.Shapes.{shape_widths_le_8}
use Rattle.phd_record.proofs.RecordLaws.{bits_bytes_le_8}
use Rattle.phd_record.proofs.head.Head.new.Goals as goal

pub invariant_of-result : goal.invariant_of-result
invariant_of-result c = record { widths = rw c.shape_of.ensures (shape_widths_le_8 _ _ _ _ (bits_bytes_le_8 _ c.requires)) }
