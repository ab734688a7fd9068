-- `encode_rows_text` satisfies its contract.
use Rattle.std.proofs.Common.{◌≡◌, ◌⊎◌, inl, inr, ◌∙◌, arith, rules}
use Rattle.table.specs.Table.{row_count}
use Rattle.table.specs.Rows.{rows_of}
use Rattle.class_index.specs.LastSearch.{found_by, search_after, no_search_holds, search_after_holds, search_after_found}
use Rattle.classic_write.specs.TextInvariants.{write_loop_start, write_loop_end, write_loop_room, write_loop_step, row_in_bounds, row_known_kind, row_refs_in_bounds, row_has_class}
use Rattle.classic_write.proofs.SearchSteps.{after_instance, after_other}
use Rattle.classic_write.proofs.rows.encode_rows_text.Goals as goal
use Rattle.classic_write.proofs.rows.encode_rows_text.Goals.{then-row-eq2, then-row-eq2-via-then-row-eq2, then-row-eq2-via-else-row-eq2+then-row-eq3, else-row-eq2+else-row-eq3}

pub loop-i-init : goal.loop-i-init
loop-i-init c = record { rest = write_loop_start _ _ _ _ _ c.requires.has_room; last = no_search_holds _ }

pub row_at-row-requires : goal.row_at-row-requires
unfolding row_count
row_at-row-requires c = omega arith

pub class_of-class-requires : goal.class_of-class-requires
unfolding row_count
class_of-class-requires c = (row_in_bounds _ _ _ (omega arith) c.row_at-row.ensures _ c.args.finder.now.numbers_in_bounds).prim_lt

pub write_row_text-e-requires-clause-row_numbers_in_bounds : goal.write_row_text-e-requires-clause-row_numbers_in_bounds
unfolding row_count
write_row_text-e-requires-clause-row_numbers_in_bounds c = row_in_bounds _ _ _ (omega arith) c.row_at-row.ensures _ c.args.finder.now.numbers_in_bounds

pub write_row_text-e-requires-clause-known_kind : goal.write_row_text-e-requires-clause-known_kind
unfolding row_count
write_row_text-e-requires-clause-known_kind c = row_known_kind _ _ _ (omega arith) c.row_at-row.ensures _ c.args.finder.now.numbers_in_bounds

pub write_row_text-e-requires-clause-class_found : goal.write_row_text-e-requires-clause-class_found
write_row_text-e-requires-clause-class_found c =
    let r = c.row_at-row.result in
    let after : c.if-row-eq2.last ≡ search_after (rows_of c.args.finder.now.rows.now) r c.loop-i.last = elim c.if-row-eq2.branch [
      | then-row-eq2 w ↦
          let kind : (r.kind ≡ 2) ⊎ (r.kind ≡ 3) = elim w.then-row-eq2.branch [
            | then-row-eq2-via-then-row-eq2 v ↦ inl v.if-row-eq2.true
            | then-row-eq2-via-else-row-eq2+then-row-eq3 v ↦ inr v.if-row-eq3.true
          ] in
          after_instance _ _ _ _ kind (w.last-is ∙ w.search-last.ensures)
      | else-row-eq2+else-row-eq3 w ↦ after_other _ _ _ _ w.if-row-eq2.false w.if-row-eq3.false w.last-is
    ] in
    let found : c.map-found.result ≡ found_by c.if-row-eq2.last = search rules in
    rw found (search_after_found _ _ _ _ after)

pub write_row_text-e-requires-clause-row_value : goal.write_row_text-e-requires-clause-row_value
unfolding row_count
write_row_text-e-requires-clause-row_value c = row_has_class _ _ _ (omega arith) c.row_at-row.ensures c.requires.rows_value

pub write_row_text-e-requires-clause-refs_in_bounds : goal.write_row_text-e-requires-clause-refs_in_bounds
unfolding row_count
write_row_text-e-requires-clause-refs_in_bounds c = row_refs_in_bounds _ _ _ (omega arith) c.row_at-row.ensures _ c.requires.all_refs_in_bounds

pub write_row_text-e-requires-clause-has_capacity : goal.write_row_text-e-requires-clause-has_capacity
unfolding row_count
write_row_text-e-requires-clause-has_capacity c = write_loop_room _ _ _ _ _ _ _ _ c.loop-i.invariant.rest (omega arith) c.row_at-row.ensures

pub loop-i-preserved : goal.loop-i-preserved
unfolding row_count
loop-i-preserved c =
    let r = c.row_at-row.result in
    let after : c.if-row-eq2.last ≡ search_after (rows_of c.args.finder.now.rows.now) r c.loop-i.last = elim c.if-row-eq2.branch [
      | then-row-eq2 w ↦
          let kind : (r.kind ≡ 2) ⊎ (r.kind ≡ 3) = elim w.then-row-eq2.branch [
            | then-row-eq2-via-then-row-eq2 v ↦ inl v.if-row-eq2.true
            | then-row-eq2-via-else-row-eq2+then-row-eq3 v ↦ inr v.if-row-eq3.true
          ] in
          after_instance _ _ _ _ kind (w.last-is ∙ w.search-last.ensures)
      | else-row-eq2+else-row-eq3 w ↦ after_other _ _ _ _ w.if-row-eq2.false w.if-row-eq3.false w.last-is
    ] in
    record {
      rest = write_loop_step _ _ _ _ _ _ _ _ c.loop-i.invariant.rest (omega arith) c.row_at-row.ensures _ (search (rules, c.write_row_text-e.ensures));
      last = search_after_holds _ _ _ _ c.loop-i.invariant.last after;
    }

pub returns : goal.returns
unfolding row_count
returns c = write_loop_end _ _ _ _ _ _ _ c.loop-i.invariant.rest (omega arith)
