-- `reply_of` satisfies its contract.
use borrow.Author.Rules.{rules}
use Rattle.decode.specs.Layout.{reply_of}
use Rattle.decode.proofs.reply_of.Statement.{statement}
use Rattle.decode.proofs.reply_of.Tie as tie

enum_told-1 : tie.Need-enum_told-1
enum_told-1 c = search rules

enum_known-w : tie.Need-enum_known-w
enum_known-w c = search rules

returns-in-Cut : tie.Need-returns-in-Cut
unfolding reply_of
returns-in-Cut c = rw c.in-Cut.is

returns-in-Refused : tie.Need-returns-in-Refused
unfolding reply_of
returns-in-Refused c = rw c.in-Refused.is

pub reply_of_spec : {M : Type 1} → statement M
reply_of_spec = tie.close (tie.spec enum_told-1 enum_known-w returns-in-Cut returns-in-Refused)
