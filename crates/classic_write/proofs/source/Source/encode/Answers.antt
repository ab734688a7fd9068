-- `encode` satisfies its contract: the three parts, encoded one after the other, are the text.
use Rattle.std.proofs.Common.{arith}
use Rattle.table.specs.Rows.{rows_of}
use Rattle.phd_check.specs.WellFormed.{header_bits_good}
use Rattle.classic.specs.RowBounds.{all_refs_in_bounds}
use Rattle.classic_write.specs.TextOutcomes.{good_vm_in_bounds}
use Rattle.classic_write.proofs.WriteText.{tally_bound_of, text_encoded, text_room}
use Rattle.classic_write.proofs.source.Source.encode.Goals as goal

pub encode_version-requires-clause-vm_in_bounds : goal.encode_version-requires-clause-vm_in_bounds
encode_version-requires-clause-vm_in_bounds c = good_vm_in_bounds _ _ _ _ c.args.self.now.good.good

pub encode_version-requires-clause-has_room : goal.encode_version-requires-clause-has_room
encode_version-requires-clause-has_room c =
    let t = c.args.self.now.good.tables in
    let l = text_room t.header t.names.now t.refs.now (rows_of t.rows.now) _ c.requires.checked.tally_is in
    let room = c.requires.has_room in
    omega arith

pub encode_rows_text-requires-clause-valid_bits : goal.encode_rows_text-requires-clause-valid_bits
encode_rows_text-requires-clause-valid_bits c = header_bits_good _ _ _ _ c.args.self.now.good.good.0

pub encode_rows_text-requires-clause-rows_value : goal.encode_rows_text-requires-clause-rows_value
encode_rows_text-requires-clause-rows_value c = rw c.args.self.now.rows c.requires.checked.classes

pub encode_rows_text-requires-clause-all_refs_in_bounds : goal.encode_rows_text-requires-clause-all_refs_in_bounds
encode_rows_text-requires-clause-all_refs_in_bounds c = rw c.args.self.now.rows (all_refs_in_bounds _ _ _ _ c.args.self.now.good.good)

pub encode_rows_text-requires-clause-has_room : goal.encode_rows_text-requires-clause-has_room
encode_rows_text-requires-clause-has_room c =
    let s = c.args.self.now in
    let t = s.good.tables in
    let l = text_room t.header t.names.now t.refs.now (rows_of t.rows.now) _ c.requires.checked.tally_is in
    let room = c.requires.has_room in
    rw (s.names, s.rows) (omega arith)

pub encode_trailers-requires-clause-tally_bound : goal.encode_trailers-requires-clause-tally_bound
encode_trailers-requires-clause-tally_bound c = tally_bound_of _ _ _ _ _ c.requires.checked.tally_is c.args.self.now.good.good

pub encode_trailers-requires-clause-has_room : goal.encode_trailers-requires-clause-has_room
encode_trailers-requires-clause-has_room c =
    let s = c.args.self.now in
    let t = s.good.tables in
    let l = text_room t.header t.names.now t.refs.now (rows_of t.rows.now) _ c.requires.checked.tally_is in
    let room = c.requires.has_room in
    let p = rw (s.names, s.rows) at c.encode_rows_text.ensures.place in
    omega arith

pub returns : goal.returns
returns c =
    let s = c.args.self.now in
    let t = s.good.tables in
    text_encoded t.header t.names.now t.refs.now (rows_of t.rows.now) _ c.requires.checked.tally_is c.encode_version.ensures (rw (s.names, s.rows) at c.encode_rows_text.ensures) c.encode_trailers.ensures
