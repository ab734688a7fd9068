use Rattle.std.proofs.Common.{ℕ, Bool, ◌&&◌, leb, refl, ◌∙◌, rules, tests}
use Rattle.std.specs.List.{list_all}
use Rattle.std.proofs.lemmas.Iterator.{YieldsList-from_slice}
use Rattle.std.proofs.lemmas.Iterator.Search.{all_from_yields_List}
use Rattle.std.proofs.lemmas.List.Recursion.{same_from_clauses}
use Rattle.decode.specs.Numbers.{all_within}
use Rattle.decode.proofs.bytes_within.Goals as goal

pub returns : goal.returns
unfolding all_within
returns c =
    let a = c.args in
    let test : ℕ → Bool = λ b. leb a.low b && leb b a.high in
    all_from_yields_List test _ _ _ c.all.ensures.ran (YieldsList-from_slice a.text.now cc) (λ x b q k. search (rules, tests))
    ∙ same_from_clauses (list_all test) (all_within a.low a.high) (λ x y. test x && y) refl (λ _ _. refl) (λ _ _. refl) a.text.now
