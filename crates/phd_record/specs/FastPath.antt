-- The contract of the fast path: after a hit, its record is the one that the layout gives, and the decoder is after it; a miss leaves
-- the decoder as it was. Also the widths of a class word, and the forms of objects. Assumes nothing.
use Rattle.std.specs.Prelude.{◌≡◌, ◌⊎◌, ℕ, Ok, Option, Some, None}
use Rattle.decode.specs.Layout.{Layout, Outcome, whole}
use Rattle.decode.specs.ReadsAs.{map_outcome, ReadsAs}
use Rattle.decode.specs.declared.decoder.Decoder.{Decoder}
use Rattle.phd.specs.Phd.{Item}
use Rattle.phd.specs.declared.Form.{Form}
use Rattle.phd.specs.declared.Form.TheVariants.{Short, Medium}
use Rattle.phd_record.specs.RecordReads.{record_of}
use Rattle.phd_record.specs.declared.Record.{Record}
use Rattle.phd_record.specs.declared.fast.Hit.{Hit}

-- A hit is what the outcome o of the layout says.
abbrev pub HitAgrees : Outcome Item → Option Hit → Type 0
HitAgrees o (Some h) = map_outcome record_of o ≡ whole (Some h.record) h.next
HitAgrees o None = Unit {0}

-- A hit has read the layout l; a miss has not moved the decoder.
abbrev pub FastRead : Layout Item → Decoder → Option Record → Decoder → Type 0
FastRead l before (Some r) after = ReadsAs record_of l before (Ok (Some r)) after
FastRead l before None after = after ≡ before

-- The width of a class word: 4 or 8 bytes, or 0 if there is none.
abbrev pub ClassWidth : ℕ → Type 0
ClassWidth w = (w ≡ 0) ⊎ ((w ≡ 4) ⊎ (w ≡ 8))

-- The forms of an object without a flag byte.
abbrev pub ObjectForm : Form → Type 0
ObjectForm fm = (fm ≡ Short) ⊎ (fm ≡ Medium)
