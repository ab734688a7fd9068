-- A class row widens the range of class rows; the entry of any other row is at the place of its key.
use Rattle.std.proofs.Common.{sym, ◌∙◌, arith}
use Rattle.summary_pass.proofs.FromEntry.{found_place}
use Rattle.summary_pass.proofs.CountRow.{no_key_next, some_key_next, class_counted, old_counted, new_counted, at_few}
use Rattle.summary_pass.proofs.Tally.count_row.Goals as goal

pub returns-then-self-eq0 : goal.returns-then-self-eq0
returns-then-self-eq0 c =
    let r = c.requires in
    class_counted r.0 r.1 r.2 (no_key_next r.0 r.1 r.2 c.row_at-row.ensures (sym c.of_row.ensures ∙ c.in_default.is)) _ (omega arith) (λ n. absurd (n c.if-self-eq0.true))

pub returns-else-self-eq0 : goal.returns-else-self-eq0
returns-else-self-eq0 c =
    let r = c.requires in
    class_counted r.0 r.1 r.2 (no_key_next r.0 r.1 r.2 c.row_at-row.ensures (sym c.of_row.ensures ∙ c.in_default.is)) _ (omega (arith, r.0.lowest_in)) (λ n. omega arith)

pub returns-then-at-self : goal.returns-then-at-self
returns-then-at-self c =
    let r = c.requires in
    let k = some_key_next r.0 r.1 r.2 c.row_at-row.ensures c.in-Some.key (sym c.of_row.ensures ∙ c.in-Some.is) in
    rw (c.count_row.ensures, k.2)
    (old_counted r.0 r.1 r.2 c.in-Some.key k.0 k.1 _ (c.find_entry-at.ensures ∙ found_place r.0 r.1 _ _ c.seek_from-from.ensures) c.if-at-self.true)

pub overflow_cast-at : goal.overflow_cast-at
overflow_cast-at c =
    let r = c.requires in
    let k = some_key_next r.0 r.1 r.2 c.row_at-row.ensures c.in-Some.key (sym c.of_row.ensures ∙ c.in-Some.is) in
    record { fits = at_few r.0 r.1 r.2 c.in-Some.key k.0 k.1 _ (c.find_entry-at.ensures ∙ found_place r.0 r.1 _ _ c.seek_from-from.ensures) }

pub returns-then-self : goal.returns-then-self
returns-then-self c =
    let r = c.requires in
    let k = some_key_next r.0 r.1 r.2 c.row_at-row.ensures c.in-Some.key (sym c.of_row.ensures ∙ c.in-Some.is) in
    rw (c.count_row.ensures, k.2)
    (new_counted r.0 r.1 r.2 c.in-Some.key k.0 k.1 _ (c.find_entry-at.ensures ∙ found_place r.0 r.1 _ _ c.seek_from-from.ensures) c.if-at-self.false _ _ _ c.enter-entered.ensures (rw c.if-self.true))

pub returns-else-self : goal.returns-else-self
returns-else-self c =
    let r = c.requires in
    let k = some_key_next r.0 r.1 r.2 c.row_at-row.ensures c.in-Some.key (sym c.of_row.ensures ∙ c.in-Some.is) in
    rw (c.count_row.ensures, k.2)
    (new_counted r.0 r.1 r.2 c.in-Some.key k.0 k.1 _ (c.find_entry-at.ensures ∙ found_place r.0 r.1 _ _ c.seek_from-from.ensures) c.if-at-self.false _ _ _ c.enter-entered.ensures (rw c.if-self.false))
