-- The origin of each stored row: the theorem of `reader` (RowOrigins) for PHD, and that the byte at a row's offset is a record's
-- tag.
-- A reader must believe `TagAt`.
use Rattle.std.specs.Prelude.{◌≡◌, ℕ, ◌<◌, List, length, take, drop, Some}
use Rattle.decode.specs.Numbers.{value}
use Rattle.phd.specs.Phd.{tag_form, State, phd, capacity, read_result}
use Rattle.table.specs.Table.{row_count}
use Rattle.phd.specs.declared.Form.{Form}
use Rattle.reader.proofs.RowOrigins as AnyFormat
use Rattle.reader.specs.RowOrigins.{offset_of, AllRowOrigins}
use Rattle.phd_read.specs.PhdLaws.{phd_lawful}
use Rattle.phd_read.specs.RecordProperties.{entry_tag_form}

-- The byte at a place is the tag of a record of some form.
pub record TagAt (s : List ℕ) (place : ℕ) : Type 0 where
  pub form : Form
  pub tag : tag_form (value (take 1 (drop place s))) ≡ Some form

-- Every stored row came from a record at its offset, and the offsets increase strictly.
pub phd_row_origins : (s : List ℕ) (R F : ℕ) → AllRowOrigins phd s (capacity R F) (read_result s R F)
phd_row_origins s R F = AnyFormat.read_row_origins phd phd_lawful s (capacity R F)

-- The byte at the offset of each stored row is a record's tag.
pub read_row_tag : (s : List ℕ) (R F i : ℕ) → i < row_count (read_result s R F).rows → TagAt s (offset_of (read_result s R F).rows i)
read_row_tag s R F i l =
    let x = (phd_row_origins s R F).each i l in
    let st : State = x.before in
    let t = entry_tag_form (read_result s R F).header s st.context.address st.context.cache (length st.refs) st.at _ x.list x.note x.context x.end x.item_is in
    record { form = t.0; tag = rw x.offset t.1 }
