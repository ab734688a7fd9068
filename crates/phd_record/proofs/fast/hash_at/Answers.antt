use Rattle.phd_record.proofs.FastRecordLaws.{value_no_bytes}
use Rattle.phd_record.proofs.fast.hash_at.Goals as goal

pub returns-in-0 : goal.returns-in-0
returns-in-0 c = value_no_bytes _ _ c.in-0.is
