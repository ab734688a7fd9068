-- `write_row_text` satisfies its contract: the two lines with their line ends, encoded one after the other, are the row's text.
use Rattle.std.proofs.Common.{◌≡◌, ℕ, List, ◌∷◌, [], ◌++◌, length-append, arith, rules}
use Rattle.table.specs.Rows.{rows_of, refs_of}
use Rattle.table.specs.declared.Row.{Row}
use Rattle.encode.specs.Wrote.{wrote_then}
use Rattle.classic.specs.ClassicText.{address, refs_text, class_of}
use Rattle.classic_row.specs.Label.{IsLabel, label_found, type_text}
use Rattle.classic_row.specs.declared.label.Label.{Label}
use Rattle.classic_row.specs.RowText.{row_text, label_line, row_text_label_parts}
use Rattle.classic_row.proofs.write_row_text.Goals as goal

-- A row's two lines from its label and the class word shown.
text_by_label : (bits : ℕ) (names refs : List ℕ) (rows : List Row) (r : Row) (label : Label) (class : ℕ) → class ≡ class_of names rows r → IsLabel names rows r label
    → row_text bits names refs rows r
    ≡ label_line bits r label.bytes (type_text label.type_name) ++ ((0x0A ∷ []) ++ ((address bits class ++ refs_text bits (refs_of refs r)) ++ (0x0A ∷ [])))
text_by_label bits names refs rows r label class e l = rw e (row_text_label_parts bits names refs rows r label l)

-- The output has capacity for each of the four parts.
pub encode_first_line-requires-clause-has_room : goal.encode_first_line-requires-clause-has_room
encode_first_line-requires-clause-has_room c =
    let a = c.args in
    let text = text_by_label a.bits a.names.now a.refs.now (rows_of a.rows.now) a.row _ a.class c.requires.class_value (label_found c.unwrap-label.ensures c.of.ensures) in
    omega (arith, simp length-append at (rw text at c.requires.has_capacity))

pub byte-requires : goal.byte-requires
byte-requires c =
    let a = c.args in
    let text = text_by_label a.bits a.names.now a.refs.now (rows_of a.rows.now) a.row _ a.class c.requires.class_value (label_found c.unwrap-label.ensures c.of.ensures) in
    omega (arith, simp length-append at (rw text at c.requires.has_capacity))

pub encode_second_line-requires-clause-has_room : goal.encode_second_line-requires-clause-has_room
encode_second_line-requires-clause-has_room c =
    let a = c.args in
    let text = text_by_label a.bits a.names.now a.refs.now (rows_of a.rows.now) a.row _ a.class c.requires.class_value (label_found c.unwrap-label.ensures c.of.ensures) in
    rw c.refs_of.ensures (simp length-append (omega (arith, simp length-append at (rw text at c.requires.has_capacity))))

pub byte-requires-2 : goal.byte-requires-2
byte-requires-2 c =
    let a = c.args in
    let text = text_by_label a.bits a.names.now a.refs.now (rows_of a.rows.now) a.row _ a.class c.requires.class_value (label_found c.unwrap-label.ensures c.of.ensures) in
    let second = rw c.refs_of.ensures at c.encode_second_line.ensures in
    omega (arith, simp length-append at (rw text at c.requires.has_capacity), simp length-append at second.place)

pub returns : goal.returns
returns c =
    let a = c.args in
    let text = text_by_label a.bits a.names.now a.refs.now (rows_of a.rows.now) a.row _ a.class c.requires.class_value (label_found c.unwrap-label.ensures c.of.ensures) in
    let second = rw c.refs_of.ensures at c.encode_second_line.ensures in
    let w = wrote_then c.encode_first_line.ensures (wrote_then c.byte.ensures (wrote_then second c.byte-2.ensures)) in
    rw text (search (rules, w))
