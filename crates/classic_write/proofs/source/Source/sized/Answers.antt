-- `sized` checks the classes while it sizes the rows, then adds the sizes of the three parts.
use Rattle.std.proofs.Common.{arith}
use Rattle.table.specs.Refusals.{passed_on}
use Rattle.phd_check.specs.WellFormed.{header_bits_good}
use Rattle.phd_counts.specs.ExactCounts.{exact_counts}
use Rattle.classic_write.specs.TextOutcomes.{class_refusal, size_has_classes, good_vm_in_bounds, rows_size_lt}
use Rattle.classic_write.proofs.WriteText.{tally_bound_of, size_is, size_lt}
use Rattle.classic_write.proofs.source.Source.sized.Goals as goal

pub version_size-first-requires : goal.version_size-first-requires
version_size-first-requires c = good_vm_in_bounds _ _ _ _ c.args.self.now.good.good

pub rows_text_size-requires-clause-valid_bits : goal.rows_text_size-requires-clause-valid_bits
rows_text_size-requires-clause-valid_bits c = header_bits_good _ _ _ _ c.args.self.now.good.good.0

pub rows_text_size-requires-clause-rows_bound : goal.rows_text_size-requires-clause-rows_bound
rows_text_size-requires-clause-rows_bound c =
    let s = c.args.self.now in
    let b = rows_size_lt _ _ _ _ s.good.good in
    let e = c.version_size-first.ensures in
    rw (s.names, s.rows) (omega arith)

pub rows_text_size-requires-clause-count_bounds : goal.rows_text_size-requires-clause-count_bounds
rows_text_size-requires-clause-count_bounds c = let s = c.args.self.now in rw s.rows (exact_counts _ _ _ _ s.good.good).few

pub returns-in_err-bytes : goal.returns-in_err-bytes
returns-in_err-bytes c =
    let s = c.args.self.now in
    rw (passed_on c.from_residual.ensures) (class_refusal _ _ _ _ s.good.good _ _ _ (rw (s.names, s.rows) at c.in_err-bytes.ensures))

pub trailers_size-requires : goal.trailers_size-requires
trailers_size-requires c =
    let s = c.args.self.now in
    let k = size_has_classes _ _ _ _ (rw (s.names, s.rows) at c.in_ok-bytes.ensures) in
    tally_bound_of _ _ _ _ _ k.2 s.good.good

pub overflow_add-result : goal.overflow_add-result
overflow_add-result c =
    let s = c.args.self.now in
    let k = size_has_classes _ _ _ _ (rw (s.names, s.rows) at c.in_ok-bytes.ensures) in
    let z = size_lt _ _ _ _ _ k.2 s.good.good _ _ _ c.version_size-first.ensures k.1 c.trailers_size.ensures in
    omega arith

pub returns : goal.returns
returns c =
    let s = c.args.self.now in
    let k = size_has_classes _ _ _ _ (rw (s.names, s.rows) at c.in_ok-bytes.ensures) in record {
      classes = k.0;
      size_is = size_is _ _ _ _ _ k.2 s.good.good _ _ _ c.version_size-first.ensures k.1 c.trailers_size.ensures;
      tally_is = k.2;
    }
