-- `text_size` satisfies its contract.
use Rattle.classic_write.specs.SizedText.{checked_text_reply}
use Rattle.classic_write.proofs.source.Source.text_size.Goals as goal

pub returns : goal.returns
returns c = checked_text_reply c.args.self.now.good.good c.in_ok-sized.ensures
