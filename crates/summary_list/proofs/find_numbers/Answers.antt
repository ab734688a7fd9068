-- A turn of the loop looks at one entry (EntrySearch).
use Rattle.std.proofs.Common.{◌≡◌, sym, ◌∙◌, arith}
use Rattle.summary_list.proofs.EntrySearch.{passed, found, over}
use Rattle.summary_list.proofs.find_numbers.Goals as goal

pub returns-then-has_numbers : goal.returns-then-has_numbers
returns-then-has_numbers c = sym (found _ _ _ _ c.loop-at-test.true (sym c.has_numbers.ensures ∙ c.if-has_numbers.true)) ∙ c.loop-at.invariant

pub loop-at-preserved : goal.loop-at-preserved
loop-at-preserved c = passed _ _ _ _ c.loop-at-test.true (sym c.has_numbers.ensures ∙ c.if-has_numbers.false) ∙ c.loop-at.invariant

pub returns : goal.returns
returns c =
    let e : c.loop-at.at ≡ c.args.used = omega arith in
    sym e ∙ (sym (over _ _ _ _ c.loop-at-test.false) ∙ c.loop-at.invariant)
