-- `find_bad` satisfies its contract: the invariant of each loop is that the rows, references or name bytes that are left give the
-- result of all of them.
use mathlib.Core.Path.{◌≡◌, sym, ap, ◌∙◌}
use mathlib.Core.Bool.{true, false}
use mathlib.Core.Logic.{⊎_elim}
use Prim.Native.Nat.{◌+◌, ◌-◌, ◌≤◌, ◌<◌}
use native.Mathlib.Omega.{arith}
use lib.ListN.{length, take, drop}
use borrow.Author.Rules.{rules}
use Rattle.decode.specs.Numbers.{all_within}
use Rattle.table.specs.Rows.{row_at, refs_of, name_of, rows_of, rows_left}
use Rattle.table.specs.Table.{row_count}
use Rattle.std.specs.Prelude.{Some}
use Rattle.phd_check.specs.GoodRows.{good_numbers, good_refs, good_row, first_bad_from, first_bad}
use Rattle.phd_check.specs.WellFormed.{SpansInBounds, row_first, numbers_in_bounds}
use Rattle.phd_check.proofs.CheckLaws.{all_true_false, good_refs_of, good_refs_false, good_refs_next, name_bytes_false, name_bytes_next, first_bad_here, first_bad_later, first_bad_end, good_row_by_parts, refs_of_slice, name_of_slice}
use Rattle.phd_check.proofs.find_bad.Statement.{statement}
use Rattle.phd_check.proofs.find_bad.Tie as tie

abbrev invariant-loop-j : tie.invariant-loop-j
invariant-loop-j header names refs rows n top clean index i row last j₀ j =
    (j ≤ last) × (last ≤ length refs) × (good_refs top (take (last - j) (drop j refs)) ≡ good_refs top (refs_of refs row))

abbrev decreases-loop-j : tie.decreases-loop-j
decreases-loop-j header names refs rows n top clean index i row last j₀ j = last - j

abbrev invariant-loop-k : tie.invariant-loop-k
invariant-loop-k header names refs rows n top clean index i row end k₀ k =
    (k ≤ end) × (end ≤ length names) × (all_within 0x21 0x7E (take (end - k) (drop k names)) ≡ all_within 0x21 0x7E (name_of names row))

abbrev decreases-loop-k : tie.decreases-loop-k
decreases-loop-k header names refs rows n top clean index i row end k₀ k = end - k

abbrev invariant-rows : tie.invariant-rows
invariant-rows header names refs rows n top clean index₀ i₀ index i =
    (i ≤ n) × (first_bad_from header names refs i index (rows_left rows i) ≡ first_bad header names refs (rows_of rows))

abbrev decreases-rows : tie.decreases-rows
decreases-rows header names refs rows n top clean index₀ i₀ index i = n - i

-- The head of the outer loop.
abbrev head : tie.Else-not-numbers_good invariant-loop-j decreases-loop-j invariant-loop-k decreases-loop-k invariant-rows decreases-rows → tie.At-rows invariant-loop-j decreases-loop-j invariant-loop-k decreases-loop-k invariant-rows decreases-rows
head c = c.before.before.before.before

-- The function's entry.
abbrev start : tie.At-rows invariant-loop-j decreases-loop-j invariant-loop-k decreases-loop-k invariant-rows decreases-rows → tie.Start invariant-loop-j decreases-loop-j invariant-loop-k decreases-loop-k invariant-rows decreases-rows
start w = w.before.before.before.before.before.before

-- After the first test, the numbers of the row are good.
numbers_are_good : (c : tie.Else-not-numbers_good invariant-loop-j decreases-loop-j invariant-loop-k decreases-loop-k invariant-rows decreases-rows)
    → let a = (start (head c)).args in
    good_numbers a.header (head c).rows.index (length a.refs.now) (length a.names.now) c.row_at-row.result ≡ true
numbers_are_good c = sym c.numbers_good.ensures ∙ c.if-not-numbers_good.false

-- The references and the name of the row lie within their tables.
name_bound : (c : tie.Else-not-numbers_good invariant-loop-j decreases-loop-j invariant-loop-k decreases-loop-k invariant-rows decreases-rows)
    → let a = (start (head c)).args in SpansInBounds a.names.now a.refs.now c.row_at-row.result
name_bound c =
    let a = (start (head c)).args in
    numbers_in_bounds a.header a.names.now a.refs.now (head c).rows.index c.row_at-row.result (numbers_are_good c)

max_address_of-top-requires : tie.Need-max_address_of-top-requires invariant-loop-j decreases-loop-j invariant-loop-k decreases-loop-k invariant-rows decreases-rows
max_address_of-top-requires c κs = search rules

refs_good-clean-requires : tie.Need-refs_good-clean-requires invariant-loop-j decreases-loop-j invariant-loop-k decreases-loop-k invariant-rows decreases-rows
refs_good-clean-requires c κs = search rules

rows-init : tie.Need-rows-init invariant-loop-j decreases-loop-j invariant-loop-k decreases-loop-k invariant-rows decreases-rows
rows-init c = search rules

row_at-row-requires : tie.Need-row_at-row-requires invariant-loop-j decreases-loop-j invariant-loop-k decreases-loop-k invariant-rows decreases-rows
unfolding row_count
row_at-row-requires c κs = search rules

numbers_good-requires : tie.Need-numbers_good-requires invariant-loop-j decreases-loop-j invariant-loop-k decreases-loop-k invariant-rows decreases-rows
numbers_good-requires c κs = search rules

overflow_add-last : tie.Need-overflow_add-last invariant-loop-j decreases-loop-j invariant-loop-k decreases-loop-k invariant-rows decreases-rows
overflow_add-last c = omega (arith, name_bound c.before.before)

loop-j-init : tie.Need-loop-j-init invariant-loop-j decreases-loop-j invariant-loop-k decreases-loop-k invariant-rows decreases-rows
loop-j-init c =
    let d = c.before.before in
    (omega arith, omega (arith, name_bound d), ap (good_refs _) (refs_of_slice _ d.row_at-row.result))

offset_bounds-refs-j : tie.Need-offset_bounds-refs-j invariant-loop-j decreases-loop-j invariant-loop-k decreases-loop-k invariant-rows decreases-rows
offset_bounds-refs-j c = search rules

bounds-refs-j : tie.Need-bounds-refs-j invariant-loop-j decreases-loop-j invariant-loop-k decreases-loop-k invariant-rows decreases-rows
bounds-refs-j c = search rules

ref_good-requires : tie.Need-ref_good-requires invariant-loop-j decreases-loop-j invariant-loop-k decreases-loop-k invariant-rows decreases-rows
ref_good-requires c κs = search rules

overflow_add-j : tie.Need-overflow_add-j invariant-loop-j decreases-loop-j invariant-loop-k decreases-loop-k invariant-rows decreases-rows
overflow_add-j c = let d = c.before.before.before.before.before.before.before in omega (arith, (start (head d)).well_formed.1.1.0)

loop-j-smaller : tie.Need-loop-j-smaller invariant-loop-j decreases-loop-j invariant-loop-k decreases-loop-k invariant-rows decreases-rows
loop-j-smaller c = search rules

loop-j-preserved : tie.Need-loop-j-preserved invariant-loop-j decreases-loop-j invariant-loop-k decreases-loop-k invariant-rows decreases-rows
loop-j-preserved c =
    let l = c.before.before.before.before in
    let e = sym c.ref_good.ensures ∙ c.if-not-ref_good.false in
    (omega arith, omega arith, sym (good_refs_next _ _ l.loop-j.j _ (omega arith) (omega arith) e) ∙ l.loop-j.invariant.2)

overflow_add-end : tie.Need-overflow_add-end invariant-loop-j decreases-loop-j invariant-loop-k decreases-loop-k invariant-rows decreases-rows
overflow_add-end c = let d = c.before.before in omega (arith, name_bound d, (start (head d)).well_formed.1.0)

loop-k-init : tie.Need-loop-k-init invariant-loop-j decreases-loop-j invariant-loop-k decreases-loop-k invariant-rows decreases-rows
loop-k-init c =
    let d = c.before.before in
    (omega arith, omega (arith, name_bound d), ap (all_within 0x21 0x7E) (name_of_slice _ d.row_at-row.result))

bounds-names-k : tie.Need-bounds-names-k invariant-loop-j decreases-loop-j invariant-loop-k decreases-loop-k invariant-rows decreases-rows
bounds-names-k c = search rules

bounds-names-k-in-loop-k : tie.Need-bounds-names-k-in-loop-k invariant-loop-j decreases-loop-j invariant-loop-k decreases-loop-k invariant-rows decreases-rows
bounds-names-k-in-loop-k c = search rules

overflow_add-k : tie.Need-overflow_add-k invariant-loop-j decreases-loop-j invariant-loop-k decreases-loop-k invariant-rows decreases-rows
overflow_add-k c = let d = c.before.before.before.before.before.before.before in omega (arith, (start (head d)).well_formed.1.0)

loop-k-smaller : tie.Need-loop-k-smaller invariant-loop-j decreases-loop-j invariant-loop-k decreases-loop-k invariant-rows decreases-rows
loop-k-smaller c = search rules

loop-k-preserved : tie.Need-loop-k-preserved invariant-loop-j decreases-loop-j invariant-loop-k decreases-loop-k invariant-rows decreases-rows
loop-k-preserved c =
    let l = c.before.before.before.before in
    (omega arith, omega arith, sym (name_bytes_next _ l.loop-k.k _ (omega arith) (omega arith) c.if-names-k.false) ∙ l.loop-k.invariant.2)

-- The point after the test of the row's numbers, from the end of its checks.
abbrev good_from : tie.After-struct_known-in-rows-2-1 invariant-loop-j decreases-loop-j invariant-loop-k decreases-loop-k invariant-rows decreases-rows → tie.Else-not-numbers_good invariant-loop-j decreases-loop-j invariant-loop-k decreases-loop-k invariant-rows decreases-rows
good_from c = c.before.before.before.before.before

overflow_add-index : tie.Need-overflow_add-index invariant-loop-j decreases-loop-j invariant-loop-k decreases-loop-k invariant-rows decreases-rows
overflow_add-index c =
    let d = good_from c in
    let a = (start (head d)).args in
    omega (arith, name_bound d, row_first a.header a.names.now a.refs.now (head d).rows.index _ (numbers_are_good d), (start (head d)).well_formed.1.1.0)

overflow_add-i : tie.Need-overflow_add-i invariant-loop-j decreases-loop-j invariant-loop-k decreases-loop-k invariant-rows decreases-rows
overflow_add-i c = omega (arith, (start (head (good_from c))).well_formed.1.1.1.0)

rows-smaller : tie.Need-rows-smaller invariant-loop-j decreases-loop-j invariant-loop-k decreases-loop-k invariant-rows decreases-rows
rows-smaller c = search rules

-- After the second test the references of the row are good: the loop passed them all, or all of the table are good.
refs_checked : (c : tie.Joined-not-clean invariant-loop-j decreases-loop-j invariant-loop-k decreases-loop-k invariant-rows decreases-rows)
    → let w = head c.before in
    good_refs w.max_address_of-top.result (refs_of (start w).args.refs.now c.row_at-row.result) ≡ true
unfolding good_refs
refs_checked c =
    let w = head c.before in
    let r = c.row_at-row.result in
    ⊎_elim (λ o. let e : r.first + r.count - o.loop-j.j ≡ 0 = omega arith in sym (rw e at o.loop-j.invariant.2))
    (λ o. good_refs_of _ _ r (sym w.refs_good-clean.ensures ∙ o.if-not-clean.false))
    c.if-not-clean.branch-raw

-- A row that passed all checks is good.
row_checked : (c : tie.After-struct_known-in-rows-2-1 invariant-loop-j decreases-loop-j invariant-loop-k decreases-loop-k invariant-rows decreases-rows)
    → let w = head (good_from c) in
    let a = (start w).args in
    good_row a.header a.names.now a.refs.now w.rows.index (row_at a.rows.now w.rows.i) ≡ true
unfolding all_within
row_checked c =
    let d = good_from c in
    let w = head d in
    let a = (start w).args in
    let m = c.before.before in
    let r = d.row_at-row.result in
    let f : r.place + r.namelen - m.loop-k.k ≡ 0 = omega arith in
    rw (← d.row_at-row.ensures)
    (good_row_by_parts a.header a.names.now a.refs.now w.rows.index r (numbers_are_good d) (rw (← w.max_address_of-top.ensures) (refs_checked m.before.before))
    (sym (rw f at m.loop-k.invariant.2)))

rows-preserved : tie.Need-rows-preserved invariant-loop-j decreases-loop-j invariant-loop-k decreases-loop-k invariant-rows decreases-rows
unfolding row_count
rows-preserved c =
    let d = good_from c in
    let w = head d in
    let a = (start w).args in
    let l = first_bad_later a.header a.names.now a.refs.now a.rows.now w.rows.i w.rows.index (omega arith) (row_checked c) in
    (omega arith, rw d.row_at-row.ensures (sym l ∙ w.rows.invariant.1))

-- If the loop ended early, the row at which it ended is bad: by its numbers, a reference or a name byte.
left_at : (c : tie.Left-rows invariant-loop-j decreases-loop-j invariant-loop-k decreases-loop-k invariant-rows decreases-rows)
    → let w = c.before in
    let a = (start w).args in
    w.rows.i < row_count a.rows.now
    → good_row a.header a.names.now a.refs.now w.rows.index (row_at a.rows.now w.rows.i) ≡ false
unfolding good_row row_count
left_at c more =
    let w = c.before in
    let a = (start w).args in
    ⊎_elim (λ o. absurd (omega arith))
    (⊎_elim (λ o. rw (← o.row_at-row.ensures) (all_true_false _ 0 (sym o.numbers_good.ensures ∙ o.if-not-numbers_good.true)))
    (⊎_elim (λ o. rw (← o.row_at-row.ensures, ← w.max_address_of-top.ensures)
    (all_true_false _ 1 (sym o.loop-j.invariant.2 ∙ good_refs_false _ _ o.loop-j.j _ (omega arith) (omega arith) (sym o.ref_good.ensures ∙ o.if-not-ref_good.true))))
    (λ o. rw (← o.row_at-row.ensures) (all_true_false _ 2 (sym o.loop-k.invariant.2 ∙ name_bytes_false _ o.loop-k.k _ (omega arith) (omega arith) o.if-names-k.true)))))
    c.rows-test.branch-raw

-- The row returned is the one at which the loop ended.
returns-then-i-n : tie.Need-returns-then-i-n invariant-loop-j decreases-loop-j invariant-loop-k decreases-loop-k invariant-rows decreases-rows
unfolding row_count
returns-then-i-n c =
    let w = c.before.before in
    let a = (start w).args in
    ap Some (omega arith)
    ∙ sym (first_bad_here a.header a.names.now a.refs.now a.rows.now w.rows.i w.rows.index (omega arith) (left_at c.before (omega arith)))
    ∙ w.rows.invariant.1

returns : tie.Need-returns invariant-loop-j decreases-loop-j invariant-loop-k decreases-loop-k invariant-rows decreases-rows
unfolding row_count
returns c =
    let w = c.before.before in
    let a = (start w).args in
    sym (first_bad_end a.header a.names.now a.refs.now a.rows.now w.rows.i w.rows.index (omega arith)) ∙ w.rows.invariant.1

pub find_bad_spec : {M : Type 1} → statement M
find_bad_spec =
    tie.close
    (tie.spec
    invariant-loop-j
    decreases-loop-j
    invariant-loop-k
    decreases-loop-k
    invariant-rows
    decreases-rows
    max_address_of-top-requires
    refs_good-clean-requires
    rows-init
    row_at-row-requires
    numbers_good-requires
    overflow_add-last
    loop-j-init
    offset_bounds-refs-j
    bounds-refs-j
    ref_good-requires
    overflow_add-j
    loop-j-smaller
    loop-j-preserved
    overflow_add-end
    loop-k-init
    bounds-names-k
    bounds-names-k-in-loop-k
    overflow_add-k
    loop-k-smaller
    loop-k-preserved
    overflow_add-index
    overflow_add-i
    rows-smaller
    rows-preserved
    returns-then-i-n
    returns)
