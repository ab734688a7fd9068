use Rattle.std.proofs.Common.{◌≡◌, ◌+◌, ◌-◌, arith}
use Rattle.decode.specs.Slices.{length_slice}
use Rattle.phd_read.proofs.StepLaws.{span_in_dump, span_width_le_8, refs_all_read, values_length, continues}
use Rattle.phd_read.proofs.StoreLaws.{stored_part}
use Rattle.phd_read.proofs.records.store.Goals as goal

pub store_refs-requires-clause-at_in_bounds : goal.store_refs-requires-clause-at_in_bounds
store_refs-requires-clause-at_in_bounds c =
    let r = c.requires in
    (span_in_dump c.args.header r.cursor_in_bounds.0 r.found_at, span_width_le_8 c.args.header r.cursor_in_bounds.0 r.found_at)

pub store_refs-requires-clause-refs_all_read : goal.store_refs-requires-clause-refs_all_read
store_refs-requires-clause-refs_all_read c =
    let r = c.requires in
    let n : c.args.k.now.refs + c.args.found.span.count - c.args.k.now.refs ≡ c.args.found.span.count = omega arith in
    rw (c.max_address_of-top.ensures, n, length_slice c.args.refs.now c.args.k.now.refs c.args.found.span.count r.row_width_in_bounds.1)
    (refs_all_read c.args.header r.cursor_in_bounds.0 r.found_at)

pub returns : goal.returns
returns c =
    let r = c.requires in
    let n : c.args.k.now.refs + c.args.found.span.count - c.args.k.now.refs ≡ c.args.found.span.count = omega arith in
    rw (
      c.advance.ensures,
      c.store_row.ensures,
      c.store_refs.ensures,
      c.max_address_of-top.ensures,
      n,
      length_slice c.args.refs.now c.args.k.now.refs c.args.found.span.count r.row_width_in_bounds.1,
      stored_part c.args.refs.now _ c.args.k.now.refs c.args.found.span.count (values_length c.args.header r.cursor_in_bounds.0 r.found_at) r.row_width_in_bounds.1,
    )
    (continues c.args.header r.cursor_in_bounds.0 r.found_at r.row_width_in_bounds.0 r.row_width_in_bounds.1)
