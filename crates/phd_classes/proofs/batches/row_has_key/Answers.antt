-- A row is counted under its key alone; a class row has none.
use Rattle.std.proofs.Common.{rules, ◌≡◌, ℕ, true, false, sym, ◌∙◌, arith}
use Rattle.std.specs.Prelude.{None}
use Rattle.summaries.specs.EntrySteps.{key_of_row}
use Rattle.phd_classes.specs.KeyAmong.{has_other, has_test}
use Rattle.phd_classes.proofs.batches.row_has_key.Goals as goal

pub returns-in-Some : goal.returns-in-Some
returns-in-Some c =
    let hit : c.eq.result ≡ true → c.in-Some.own ≡ c.args.key = search rules in
    let miss : c.eq.result ≡ false → c.in-Some.own ≡ c.args.key → ⊥ = search rules in
    rw (← c.row_at.ensures) (has_test c.row_at.result c.args.key c.in-Some.own (sym c.of_row.ensures ∙ c.in-Some.is) c.eq.result hit miss)

pub returns-in-None : goal.returns-in-None
returns-in-None c =
    let n : key_of_row c.row_at.result ≡ None = sym c.of_row.ensures ∙ c.in-None.is in
    rw (← c.row_at.ensures) (sym (has_other c.row_at.result c.args.key (λ e. let z = rw n at e in let y : ◌≡◌ {A = ℕ} 0 1 = cc in omega arith)))
