-- As each key is there once, no entry before one that has the key has it.
use Rattle.std.proofs.Common.{rules, ◌≡◌, sym, ◌∙◌}
use Rattle.summary_index.specs.SummaryIndex.{found}
use Rattle.summary_pass.proofs.FromEntry.{from_entry}
use Rattle.summary_pass.proofs.Tally.seek_from.Goals as goal

pub returns-in-Some : goal.returns-in-Some
returns-in-Some c ks s =
    let same : c.in-Some.last ≡ c.args.key = search rules in
    from_entry s _ (rw same at (s.last _ _ c.in-Some.is))

pub returns-in-Some-find : goal.returns-in-Some-find
returns-in-Some-find c ks s = from_entry s _ (found s.index _ _ (sym c.find.ensures ∙ c.in-Some-find.is))
