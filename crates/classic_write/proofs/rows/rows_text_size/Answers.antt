-- `rows_text_size` satisfies its contract.
use Rattle.std.proofs.Common.{◌≡◌, ◌⊎◌, inl, inr, ◌∙◌, arith, rules}
use Rattle.table.specs.Table.{row_count}
use Rattle.table.specs.Rows.{rows_of}
use Rattle.phd_counts.specs.CountLoop.{counted_before_first, counted_before_next, counted_no_overflow, counted_before_end}
use Rattle.class_index.specs.LastSearch.{found_by, search_after, no_search_holds, search_after_holds, search_after_found}
use Rattle.classic_row.specs.RowText.{size_means}
use Rattle.classic_write.specs.TextInvariants.{size_loop_start, size_loop_end, size_loop_refuses, size_loop_bound, size_loop_step, row_in_bounds, row_known_kind}
use Rattle.classic_write.proofs.SearchSteps.{after_instance, after_other}
use Rattle.classic_write.proofs.rows.rows_text_size.Goals as goal
use Rattle.classic_write.proofs.rows.rows_text_size.Goals.{then-row-eq2, then-row-eq2-via-then-row-eq2, then-row-eq2-via-else-row-eq2+then-row-eq3, else-row-eq2+else-row-eq3}

pub loop-i-init : goal.loop-i-init
loop-i-init c = record {
  size = size_loop_start _ _ _ _ c.requires.rows_bound;
  last = no_search_holds _;
  counted = rw c.no_rows-tally.ensures (counted_before_first _);
}

pub row_at-row-requires : goal.row_at-row-requires
unfolding row_count
row_at-row-requires c = omega arith

pub row_text_size-requires-clause-row_numbers_in_bounds : goal.row_text_size-requires-clause-row_numbers_in_bounds
unfolding row_count
row_text_size-requires-clause-row_numbers_in_bounds c = row_in_bounds _ _ _ (omega arith) c.row_at-row.ensures _ c.args.finder.now.numbers_in_bounds

pub row_text_size-requires-clause-known_kind : goal.row_text_size-requires-clause-known_kind
unfolding row_count
row_text_size-requires-clause-known_kind c = row_known_kind _ _ _ (omega arith) c.row_at-row.ensures _ c.args.finder.now.numbers_in_bounds

pub row_text_size-requires-clause-class_found : goal.row_text_size-requires-clause-class_found
row_text_size-requires-clause-class_found c =
    let r = c.row_at-row.result in
    let after : c.if-row-eq2.last ≡ search_after (rows_of c.args.finder.now.rows.now) r c.loop-i.last = elim c.if-row-eq2.branch [
      | then-row-eq2 w ↦
          let kind : (r.kind ≡ 2) ⊎ (r.kind ≡ 3) = elim w.then-row-eq2.branch [
            | then-row-eq2-via-then-row-eq2 v ↦ inl v.if-row-eq2.true
            | then-row-eq2-via-else-row-eq2+then-row-eq3 v ↦ inr v.if-row-eq3.true
          ] in
          after_instance _ _ _ _ kind (w.last-is ∙ w.search-last.ensures)
      | else-row-eq2+else-row-eq3 w ↦ after_other _ _ _ _ w.if-row-eq2.false w.if-row-eq3.false w.last-is
    ] in
    let found : c.map-found.result ≡ found_by c.if-row-eq2.last = search rules in
    rw found (search_after_found _ _ _ _ after)

pub returns-in_default : goal.returns-in_default
unfolding row_count
returns-in_default c =
    size_loop_refuses _ _ _ _ _ _ _ c.loop-i.invariant.size (omega arith) c.row_at-row.ensures (size_means _ _ _ _ _ c.in_default.ensures)

pub overflow_add-bytes : goal.overflow_add-bytes
unfolding row_count
overflow_add-bytes c =
    let m = size_means _ _ _ _ _ c.in-Some.ensures in
    let b = size_loop_bound _ _ _ _ _ _ _ _ c.loop-i.invariant.size (omega arith) c.row_at-row.ensures m.1 in
    omega arith

pub add_row-tally-requires : goal.add_row-tally-requires
unfolding row_count
add_row-tally-requires c = counted_no_overflow _ _ _ c.loop-i.invariant.counted _ (omega arith) c.row_at-row.ensures c.requires.count_bounds

pub loop-i-preserved : goal.loop-i-preserved
unfolding row_count
loop-i-preserved c =
    let r = c.row_at-row.result in
    let after : c.if-row-eq2.last ≡ search_after (rows_of c.args.finder.now.rows.now) r c.loop-i.last = elim c.if-row-eq2.branch [
      | then-row-eq2 w ↦
          let kind : (r.kind ≡ 2) ⊎ (r.kind ≡ 3) = elim w.then-row-eq2.branch [
            | then-row-eq2-via-then-row-eq2 v ↦ inl v.if-row-eq2.true
            | then-row-eq2-via-else-row-eq2+then-row-eq3 v ↦ inr v.if-row-eq3.true
          ] in
          after_instance _ _ _ _ kind (w.last-is ∙ w.search-last.ensures)
      | else-row-eq2+else-row-eq3 w ↦ after_other _ _ _ _ w.if-row-eq2.false w.if-row-eq3.false w.last-is
    ] in
    let m = size_means _ _ _ _ _ c.in-Some.ensures in record {
      size = size_loop_step _ _ _ _ _ _ _ _ c.loop-i.invariant.size (omega arith) c.row_at-row.ensures m.1 m.0;
      last = search_after_holds _ _ _ _ c.loop-i.invariant.last after;
      counted = counted_before_next _ _ _ c.loop-i.invariant.counted _ _ (omega arith) c.row_at-row.ensures c.add_row-tally.ensures;
    }

pub returns : goal.returns
unfolding row_count
returns c = size_loop_end _ _ _ _ _ _ _ c.loop-i.invariant.size (counted_before_end _ _ _ c.loop-i.invariant.counted (omega arith)) (omega arith)
