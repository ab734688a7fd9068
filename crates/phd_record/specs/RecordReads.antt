-- Records as the functions return them, and the layouts that they are of.
-- A reader must believe `record_of`, `dropped` and `some_record`.
use Rattle.std.specs.Prelude.{◌≡◌, ℕ, ◌/◌, cond, List, Result, Ok, Err, Option, Some, None}
use Rattle.std.proofs.Common.{ap, arith}
use Rattle.decode.specs.Layout.{Outcome, whole, stops}
use Rattle.decode.specs.ReadsAs.{map_outcome}
use Rattle.decode.specs.declared.Stop.{Stop}
use Rattle.decode.specs.declared.StringSpan.{StringSpan}
use Rattle.phd.specs.Phd.{make_context, Item, end_item, item, row, push, max_address}
use Rattle.phd.specs.Phd
use Rattle.phd.specs.declared.Header.{Header}
use Rattle.phd.specs.declared.Form.{Form}
use Rattle.phd.specs.declared.Origin.{Origin}
use Rattle.phd.specs.declared.Shape.{Shape}
use Rattle.phd.specs.declared.cache.Cache.{Cache}
use Rattle.phd.specs.declared.Front.{Front}
use Rattle.phd.specs.declared.Middle.{Middle}
use Rattle.phd.specs.declared.Tail.{Tail}
use Rattle.phd_record.specs.declared.Record.{Record}
use Rattle.phd_record.specs.declared.head.Head.{Head}

-- The record that was read, without the references' values, or `None` for the end tag.
abbrev pub record_of : Item → Option Record
record_of end_item = None
record_of (item r rs sp k) = Some (record { row = r; span = sp; context = k })

-- A list of references whose values are not returned.
abbrev pub dropped : List ℕ → Unit {0}
dropped rs = tt

-- The result of a function that reads a record and not the end tag.
abbrev pub some_record : Result Record Stop → Result (Option Record) Stop
some_record (Ok r) = Ok (Some r)
some_record (Err w) = Err w

-- The record whose n references begin at offset `place`.
unfoldable pub make_record : ℕ → ℕ → Tail → Cache → Origin → ℕ → ℕ → Shape → Front → Middle → StringSpan → Record
make_record place n t c origin known hk sh v m name = record {
  row = row origin hk known sh v m name n t;
  span = record { place = place; width = sh.refwidth; count = n };
  context = make_context v.address (cond sh.cached (push c v.class) c);
}

-- What is known of a record of form fm with the tag t and the flag byte f; k is the class word from its slot.
pub record IsHead (h : Header) (c : Cache) (o : Origin) (k : ℕ) (fm : Form) (t f : ℕ) (hd : Head) : Type 0 where
  pub top : hd.top ≡ max_address h.bits
  pub cache : hd.cache ≡ c
  pub origin : hd.origin ≡ o
  pub known : hd.known ≡ k
  pub hash_kind : hd.hash_kind ≡ Phd.hash_kind h t f
  pub shape : hd.shape ≡ Phd.shape (h.bits / 8) fm t f

-- ---- what was read, by the record

-- A record that was read is the layout's, with some references.
pub read_item : {o : Outcome Item} {f : Record} {n : ℕ} → map_outcome record_of o ≡ whole (Some f) n
    → (rs : List ℕ) × (o ≡ whole (item f.row rs f.span f.context) n)
read_item {o = whole end_item m} e = let z : ◌≡◌ {A = ℕ} 0 1 = cc in absurd (omega arith)
read_item {o = whole (item r rs sp k) m} {f} {n} e =
    let p : f ≡ record { row = r; span = sp; context = k } = cc in
    let q : m ≡ n = cc in
    (rs, rw (p, q))
read_item {o = stops w} e = let z : ◌≡◌ {A = ℕ} 0 1 = cc in absurd (omega arith)

-- Without a record, the end tag was read.
pub read_end : {o : Outcome Item} {n : ℕ} → map_outcome record_of o ≡ whole None n → o ≡ whole end_item n
read_end {o = whole end_item m} e = ap (whole end_item) cc
read_end {o = whole (item r rs sp k) m} e = let z : ◌≡◌ {A = ℕ} 0 1 = cc in absurd (omega arith)
read_end {o = stops w} e = let z : ◌≡◌ {A = ℕ} 0 1 = cc in absurd (omega arith)
