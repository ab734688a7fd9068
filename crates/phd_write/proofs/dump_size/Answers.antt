-- `dump_size` adds the sizes of header and rows, and compares the sum with the size limit.
use Rattle.std.proofs.Common.{◌≡◌, length, arith}
use Rattle.phd.specs.Phd.{limit}
use Rattle.phd_check.specs.WellFormed.{header_vm_good, vm_in_bounds}
use Rattle.phd_write.specs.WriteTerms.{tables_dump}
use Rattle.phd_write.specs.HeaderBytes.{length_header, header_small}
use Rattle.phd_write.specs.WriteOutcomes.{size_over_limit, size_within_limit}
use Rattle.phd_write.proofs.DumpSize.{dump_size_sum}
use Rattle.phd_write.proofs.dump_size.Goals as goal

pub header_size-first-requires : goal.header_size-first-requires
header_size-first-requires c = vm_in_bounds _ _ (header_vm_good _ _ _ _ c.args.good.good.0)

pub rows_size-size-requires : goal.rows_size-size-requires
rows_size-size-requires c =
    let t = c.args.good.tables in
    let v = vm_in_bounds t.names.now t.header.vm (header_vm_good _ _ _ _ c.args.good.good.0) in
    omega (arith, c.header_size-first.ensures, length_header t.names.now t.header v, header_small t.names.now t.header v)

pub returns-then-size-gt-LIMIT : goal.returns-then-size-gt-LIMIT
unfolding limit
returns-then-size-gt-LIMIT c =
    let e = dump_size_sum _ _ _ _ _ _ c.header_size-first.ensures c.rows_size-size.ensures in
    size_over_limit _ _ _ _ c.args.good.good (omega arith)

pub returns-else-size-gt-LIMIT : goal.returns-else-size-gt-LIMIT
unfolding limit
returns-else-size-gt-LIMIT c =
    let e : c.rows_size-size.result ≡ length (tables_dump c.args.good.tables) = dump_size_sum _ _ _ _ _ _ c.header_size-first.ensures c.rows_size-size.ensures in
    rw e (size_within_limit _ _ _ _ c.args.good.good (omega arith))
