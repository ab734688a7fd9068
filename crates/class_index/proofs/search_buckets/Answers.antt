-- `search_buckets` satisfies its contract.
use Rattle.std.proofs.Common.{sym, ◌∙◌}
use Rattle.table.specs.Rows.{rows_of}
use Rattle.class_index.proofs.BucketSteps.{probed_search, bucket_empty, bucket_found, bucket_next, bucket_end}
use Rattle.class_index.proofs.search_buckets.Goals as goal

pub returns-then-entry-eq0 : goal.returns-then-entry-eq0
returns-then-entry-eq0 c =
    let p = probed_search (rows_of c.args.rows.now) c.args.buckets.now c.args.address _ c.probed-entry-items.ensures in
    sym (bucket_empty _ _ _ _ c.loop-entry-test.true c.if-entry-eq0.true) ∙ (c.loop-entry.invariant ∙ p)

pub returns-then-is_class_row : goal.returns-then-is_class_row
returns-then-is_class_row c =
    let p = probed_search (rows_of c.args.rows.now) c.args.buckets.now c.args.address _ c.probed-entry-items.ensures in
    sym (bucket_found _ _ _ _ c.loop-entry-test.true c.if-entry-eq0.false (sym c.is_class_row.ensures ∙ c.if-is_class_row.true)) ∙ (c.loop-entry.invariant ∙ p)

pub loop-entry-preserved : goal.loop-entry-preserved
loop-entry-preserved c =
    sym (bucket_next _ _ _ _ c.loop-entry-test.true c.if-entry-eq0.false (sym c.is_class_row.ensures ∙ c.if-is_class_row.false)) ∙ c.loop-entry.invariant

pub returns : goal.returns
returns c =
    let p = probed_search (rows_of c.args.rows.now) c.args.buckets.now c.args.address _ c.probed-entry-items.ensures in
    sym (bucket_end _ _ _ _ c.loop-entry-test.false) ∙ (c.loop-entry.invariant ∙ p)
