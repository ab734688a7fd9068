-- The portable heap dump (docs/FORMAT.md 2, 3, 4.1 and 5): the header, the record layouts, the class cache, the rows, and the
-- result of reading any bytes. A reader must believe these definitions; every promise about reading cites them.
-- A dump and the tables are lists of numbers; a byte is a number below 256. A reply (the scope paper's term) is one of the
-- numbers of docs/FORMAT.md 8.
use Rattle.std.specs.Prelude.{ℕ, zero, suc, ◌+◌, ◌-◌, ◌/◌, ◌%◌, ◌^◌, Bool, true, false, not, cond, ◌&&◌, ◌||◌, List, [], ◌∷◌, length, get_or, set, leb, ltb, eqb, Option, Some, None}
use Rattle.decode.specs.Layout.{Layout, yield, refuse, ◌>>=◌, ◌>>◌, position, raw, field, check, need}
use Rattle.decode.specs.Fields.{exactly, below, address, ref_field, count, string, no_string}
use Rattle.decode.specs.declared.StringSpan.{StringSpan}
use Rattle.reader.specs.Reader
unfoldable pub use Rattle.reader.specs.Reader.{limit, ended}
pub use Rattle.reader.specs.Reader.{capacity, end_item, item, go, halt}
use Rattle.phd.specs.declared.cache.Cache.{Cache}
use Rattle.phd.specs.declared.Header.{Header}
use Rattle.phd.specs.declared.Form.{Form}
use Rattle.phd.specs.declared.Form.TheVariants.{Short, Medium, Long, Class, ObjectArray, Primitive, LongPrimitive}
use Rattle.phd.specs.declared.Origin.{Origin}
use Rattle.phd.specs.declared.Shape.{Shape}
use Rattle.phd.specs.declared.Front.{Front}
use Rattle.phd.specs.declared.Middle.{Middle}
use Rattle.phd.specs.declared.Span.{Span}
use Rattle.phd.specs.declared.Tail.{Tail}
use Rattle.phd.specs.declared.RecordContext as Declared

-- Whether the bit of value m (1, 2, 4, 8 ..) is set in x.
unfoldable pub bit : ℕ → ℕ → Bool
bit m x = eqb (x / m % 2) 1

-- The greatest address for W (32 or 64): addresses, class words and references lie in 0 to 2^W - 1.
unfoldable pub max_address : ℕ → ℕ
max_address bits = 2 ^ bits - 1

-- ---- the header

-- Whether two lists of bytes are equal.
unfoldable pub bytes_equal : List ℕ → List ℕ → Bool
bytes_equal [] [] = true
bytes_equal [] (y ∷ ys) = false
bytes_equal (x ∷ xs) [] = false
bytes_equal (x ∷ xs) (y ∷ ys) = eqb x y && bytes_equal xs ys

-- The opening string, "portable heap dump".
unfoldable pub magic : List ℕ
magic =
    0x70 ∷ 0x6F ∷ 0x72 ∷ 0x74 ∷ 0x61 ∷ 0x62 ∷ 0x6C ∷ 0x65 ∷ 0x20 ∷ 0x68 ∷ 0x65 ∷ 0x61 ∷ 0x70 ∷ 0x20 ∷ 0x64 ∷ 0x75 ∷ 0x6D ∷ 0x70 ∷ []

-- The bytes of the opening string, without the length before them; other bytes are refused with 3.
unfoldable pub magic_bytes : Layout (Unit {0})
magic_bytes = do
  text ← raw 18
  check 3 (bytes_equal text magic)

-- The opening string, the version, the flags and the start byte 1; the value is the flags. (`exactly n v r` is a field of n bytes
-- that must be v, else reply r; in `below n v r` it must be below v.)
unfoldable pub preamble : Layout ℕ
preamble = do
  exactly 2 18 3
  magic_bytes
  exactly 4 6 4
  flags ← below 4 8 5
  exactly 1 1 6
  yield flags

-- The tag after the VM string: 2 ends the header records; 4 (a second VM string) is refused with 7, any other tag with 6.
unfoldable pub after_vm : Layout (Unit {0})
after_vm = do
  tag ← field 1
  check 7 (not (eqb tag 4))
  check 6 (eqb tag 2)

-- The header records and the tag 2 that ends them: none, or one VM string.
unfoldable pub header_records : Layout StringSpan
header_records = do
  tag ← field 1
  cond (eqb tag 2) (yield no_string) (cond (eqb tag 4) (do
    vm ← string 0x20 0
    after_vm
    yield vm) (refuse 6))

-- The header for the flags and the VM string.
unfoldable pub make_header : ℕ → StringSpan → Header
make_header flags vm = record { bits = cond (bit 1 flags) 64 32; hashed = bit 2 flags; openj9 = bit 4 flags; vm = vm }

-- The whole header, up to the byte 2 that starts the body (docs/FORMAT.md 2).
unfoldable pub header : Layout Header
header = do
  flags ← preamble
  vm ← header_records
  exactly 1 2 6
  yield (make_header flags vm)

-- The header that a reading returns if it stops before the end of the header.
unfoldable pub empty_header : Header
empty_header = record { bits = 0; hashed = false; openj9 = false; vm = no_string }

-- ---- the class cache: four slots, filled in the order 0, 1, 2, 3, 0 .. (docs/FORMAT.md 3.5; scope paper's terms: cache, slot)

-- The content of slot i after pushing the class words ws (the last one first): the last word whose push number, counted from 0,
-- is i modulo 4, or `None`. The cache below agrees with it (`ClassCache.slot_push_all`), in every reading (phd_read,
-- `ReadTheorems.slots_before_row`).
unfoldable pub slot_after : List ℕ → ℕ → Option ℕ
slot_after [] i = None
slot_after (w ∷ ws) i = cond (eqb (length ws % 4) i) (Some w) (slot_after ws i)

-- The cache at the start of a dump: all slots are empty.
unfoldable pub empty_cache : Cache
empty_cache = record { classes = 0 ∷ 0 ∷ 0 ∷ 0 ∷ []; pushes = 0 }

-- The cache after pushing a class word into the next slot, `pushes` % 4. `pushes` counts up to 7 and then cycles through 4 to 7;
-- modulo 4 it is the number of pushes.
unfoldable pub push : Cache → ℕ → Cache
push c w = record { classes = set c.classes (c.pushes % 4) w; pushes = cond (ltb c.pushes 7) (c.pushes + 1) 4 }

-- The class word in slot i, if the slot has been filled.
unfoldable pub slot : Cache → ℕ → Option ℕ
slot c i = cond (ltb i c.pushes) (Some (get_or c.classes i 0)) None

-- ---- tags and flag bytes

-- The form that a tag begins (docs/FORMAT.md 3.1); `None` for the end tag and for tags that are refused.
unfoldable pub tag_form : ℕ → Option Form
tag_form t =
    cond (leb 0x80 t) (Some Short)
    (cond (leb 0x40 t) (Some Medium)
    (cond (leb 0x20 t) (Some Primitive)
    (cond (eqb t 4) (Some Long)
    (cond (eqb t 6) (Some Class)
    (cond (eqb t 7) (Some LongPrimitive)
    (cond (eqb t 8) (Some ObjectArray) None))))))

-- The form; a tag that begins no record is refused with 6.
unfoldable pub need_form : Option Form → Layout Form
need_form (Some fm) = yield fm
need_form None = refuse 6

-- The class word of a short object, from the slot that its tag names; 0 for other forms, which use no slot.
unfoldable pub slot_class : Cache → ℕ → Option ℕ
slot_class c t = cond (leb 0x80 t) (slot c (t / 0x20 % 4)) (Some 0)

-- The moved bit of the flag byte f after tag t: 0x02, in a class record 0x08.
unfoldable pub moved_bit : ℕ → ℕ → Bool
moved_bit t f = cond (eqb t 6) (bit 0x08 f) (bit 0x02 f)

-- The hashed bit: 0x01; a class record has none.
unfoldable pub hashed_bit : ℕ → ℕ → Bool
hashed_bit t f = cond (eqb t 6) false (bit 0x01 f)

-- In an all-hashed dump a flag byte has no moved and no hashed bit.
abbrev pub flags_allowed : Header → ℕ → ℕ → Bool
flags_allowed h t f = not (h.hashed && (moved_bit t f || hashed_bit t f))

-- The flag byte if the form has one (tag below 0x20), else 0. In an all-hashed dump a moved or hashed bit is refused with 11.
unfoldable pub flag_byte : Header → ℕ → Layout ℕ
flag_byte h t = do
  f ← field (cond (ltb t 0x20) 1 0)
  check 11 (flags_allowed h t f)
  yield f

-- The hash kind (docs/FORMAT.md 3.2): 0 not hashed, 1 hashed but no hash is stored, 2 a stored 32-bit hash, 3 a 16-bit hash.
unfoldable pub hash_kind : Header → ℕ → ℕ → ℕ
hash_kind h t f = cond h.hashed 3 (cond (moved_bit t f) 2 (cond (hashed_bit t f) 1 0))

-- The bytes of the hash field, by the hash kind.
unfoldable pub hash_bytes : ℕ → ℕ
hash_bytes k = cond (eqb k 2) 4 (cond (eqb k 3) 2 0)

-- ---- record layouts: the seven forms share one order of fields; a field that a form lacks has no bytes and reads as 0

-- The bytes of a width code: 0 byte, 1 short, 2 int, 3 long.
unfoldable pub width : ℕ → ℕ
width c = 2 ^ c

-- A shape from its numbers, in the order of the columns of `shape`.
abbrev pub make_shape : ℕ → ℕ → ℕ → ℕ → ℕ → ℕ → ℕ → ℕ → ℕ → ℕ → ℕ → ℕ → Bool → ℕ → Shape
make_shape kind gap class len inst superclass name countwidth count refwidth size truelen cached prim = record {
  kind = kind;
  gap = gap;
  class = class;
  len = len;
  inst = inst;
  superclass = superclass;
  name = name;
  countwidth = countwidth;
  count = count;
  refwidth = refwidth;
  size = size;
  truelen = truelen;
  cached = cached;
  prim = prim;
}

-- The shape of a record (docs/FORMAT.md 3.3), from W in bytes (w), the form, the tag t and the flag byte f. Division extracts
-- bits: f / 0x40 % 4 is the two bits 0xC0. The columns: kind; bytes of gap, class word, array length, instance size, superclass
-- word, name length, reference count; the count in the tag; bytes of a reference, of size, of true length; cached; type.
unfoldable pub shape : ℕ → Form → ℕ → ℕ → Shape
shape w Short t f = make_shape 2 (width (t / 0x04 % 2)) 0 0 0 0 0 0 (t / 0x08 % 4) (width (t % 4)) 0 0 false 0
shape w Medium t f = make_shape 2 (width (t / 0x04 % 2)) w 0 0 0 0 0 (t / 0x08 % 8) (width (t % 4)) 0 0 true 0
shape w Long t f = make_shape 2 (width (f / 0x40 % 4)) w 0 0 0 0 4 0 (width (f / 0x10 % 4)) 0 0 true 0
shape w Class t f = make_shape 1 (width (f / 0x40 % 4)) 0 0 4 w 2 4 0 (width (f / 0x10 % 4)) 0 0 false 0
shape w ObjectArray t f = make_shape 3 (width (f / 0x40 % 4)) w 0 0 0 0 4 0 (width (f / 0x10 % 4)) 4 4 false 0
shape w Primitive t f = make_shape 4 (width (t % 4)) 0 (width (t % 4)) 0 0 0 0 0 0 4 0 false (t / 0x04 % 8)
shape w LongPrimitive t f =
    make_shape 4 (cond (bit 0x10 f) w 1) 0 (cond (bit 0x10 f) w 1) 0 0 0 0 0 0 4 0 false (f / 0x20 % 8)

-- ---- records

-- Gap, class word and array length. `before` is the address of the record before, `top` the greatest address.
unfoldable pub front : ℕ → ℕ → Shape → Layout Front
front top before sh = do
  a ← address sh.gap before top
  class ← field sh.class
  len ← count sh.len
  yield (record { address = a; class = class; len = len })

-- Instance size of a class, hash of hb bytes, and superclass word.
unfoldable pub middle : Shape → ℕ → Layout Middle
middle sh hb = do
  inst ← count sh.inst
  hash ← field hb
  superclass ← field sh.superclass
  yield (record { inst = inst; hash = hash; superclass = superclass })

-- The name of a class: 1 to 65,535 bytes, each 0x21 to 0x7E. There is none if its length field has n = 0 bytes.
unfoldable pub class_name : ℕ → Layout StringSpan
class_name n = cond (eqb n 0) (yield no_string) (string 0x21 1)

-- The number of references: in a field of n bytes, or, if n is 0, the number `tagcount` from the tag.
unfoldable pub ref_count : ℕ → ℕ → Layout ℕ
ref_count n tagcount = cond (eqb n 0) (yield tagcount) (count n)

-- n references of w bytes each, of a record at address a.
unfoldable pub ref_list : ℕ → ℕ → ℕ → ℕ → Layout (List ℕ)
ref_list w a top zero = yield []
ref_list w a top (suc n) = do
  r ← ref_field w a top
  rs ← ref_list w a top n
  yield (r ∷ rs)

-- References, and their position in the dump.
pub record SpannedRefs : Type 0 where
  pub span : Span
  pub list : List ℕ

-- As `ref_list`, with the span of the references.
unfoldable pub spanned_refs : ℕ → ℕ → ℕ → ℕ → Layout SpannedRefs
spanned_refs w a top n = do
  p ← position
  rs ← ref_list w a top n
  yield (record { span = record { place = p; width = w; count = n }; list = rs })

-- The true length of an object array: w bytes, at least the reference count n, else reply 12. It is 0 if w is 0.
unfoldable pub true_length : ℕ → ℕ → Layout ℕ
true_length w n = cond (eqb w 0) (yield 0) (do
  t ← count w
  check 12 (leb n t)
  yield t)

-- The fields after the references: size and true length, of so many bytes; n is the reference count.
unfoldable pub tail : ℕ → ℕ → ℕ → Layout Tail
tail size truelen n = do
  z ← field size
  t ← true_length truelen n
  yield (record { size = z; truelen = t })

-- The value v of a field of w bytes, or `other` if the record lacks the field (w is 0).
unfoldable pub field_or : ℕ → ℕ → ℕ → ℕ
field_or w v other = cond (eqb w 0) other v

-- The row of a record (row: the scope paper's term; docs/FORMAT.md 4.1): kind, address, class word, hash kind, hash, index of the
-- first reference, reference count, size, length, name place, name length, primitive type, offset of the record. `tagcount` is the
-- class word of a short object, from its slot.
unfoldable pub row : Origin → ℕ → ℕ → Shape → Front → Middle → StringSpan → ℕ → Tail → List ℕ
row origin hk known sh v m name n t =
    sh.kind ∷ v.address ∷ field_or sh.class v.class (field_or sh.superclass m.superclass known) ∷ hk ∷ m.hash
    ∷ origin.index ∷ n ∷ field_or sh.inst m.inst t.size ∷ field_or sh.truelen t.truelen v.len
    ∷ name.place ∷ name.len ∷ sh.prim ∷ origin.offset ∷ []

-- What reading a record needs from the records before it: the address of the previous one, and the cache.
abbrev pub RecordContext : Type 0
RecordContext = Declared.RecordContext

abbrev pub make_context : ℕ → Cache → RecordContext
make_context a c = record { address = a; cache = c }

-- The end tag, or a record with its row, its references, their span, and the context for the next record.
abbrev pub Item : Type 0
Item = Reader.Item Span RecordContext

-- The fields from the reference count on; they complete the record.
unfoldable pub from_ref_count : ℕ → Cache → Origin → ℕ → ℕ → Shape → Front → Middle → StringSpan → Layout Item
from_ref_count top c origin known hk sh v m name = do
  n ← ref_count sh.countwidth sh.count
  ls ← spanned_refs sh.refwidth v.address top n
  t ← tail sh.size sh.truelen n
  yield (item (row origin hk known sh v m name n t) ls.list ls.span (make_context v.address (cond sh.cached (push c v.class) c)))

-- The fields after the tag and the flag byte, in file order.
unfoldable pub fields : ℕ → ℕ → Cache → Origin → ℕ → ℕ → Shape → Layout Item
fields top before c origin known hk sh = do
  v ← front top before sh
  m ← middle sh (hash_bytes hk)
  name ← class_name sh.name
  from_ref_count top c origin known hk sh v m name

-- The rest of a record after its tag t.
unfoldable pub record_body : Header → ℕ → Cache → Origin → ℕ → Layout Item
record_body h before c origin t = do
  fm ← need_form (tag_form t)
  known ← need 10 (slot_class c t)
  f ← flag_byte h t
  fields (max_address h.bits) before c origin known (hash_kind h t f) (shape (h.bits / 8) fm t f)

-- The end tag 3, or a whole record.
unfoldable pub from_tag : Header → ℕ → Cache → Origin → Layout Item
from_tag h before c origin = do
  t ← field 1
  cond (eqb t 3) (yield end_item) (record_body h before c origin t)

-- The end tag or a record at the current offset, with `index` references before it.
unfoldable pub entry : Header → ℕ → Cache → ℕ → Layout Item
entry h before c index = do
  offset ← position
  from_tag h before c (record { offset = offset; index = index })

-- ---- reading

-- The context before the first record: address 0 and an empty cache.
abbrev pub initial_context : RecordContext
initial_context = make_context 0 empty_cache

-- PHD as a format of the crate `reader`, whose definition of reading and whose theorems on any format apply to it.
abbrev pub phd : Reader.Format
phd = record {
  Header = Header;
  Context = RecordContext;
  Note = Span;
  header = header;
  empty_header = empty_header;
  start = λ _. initial_context;
  entry = λ h k. entry h k.address k.cache;
}

-- The state between records, the result of a reading, and the transition by one record.
abbrev pub State : Type 0
State = Reader.State phd

abbrev pub Result : Type 0
Result = Reader.Result phd

abbrev pub Transition : Type 0
Transition = Reader.Transition phd

-- The transition by the next record of the dump s, into tables of R numbers for rows and F for references.
abbrev pub step : Header → List ℕ → ℕ → ℕ → State → Transition
step h s R F = Reader.step phd h s (Reader.capacity R F)

-- The result of reading record after record from a state; f bounds their number.
abbrev pub records : ℕ → Header → List ℕ → ℕ → ℕ → State → Result
records f h s R F = Reader.records phd f h s (Reader.capacity R F)

-- The state before the first record, which is at the given offset.
abbrev pub initial_state : ℕ → State
initial_state = Reader.initial_state phd initial_context

-- The result of a reading that stops before the first record, from its reply and its missing bytes.
abbrev pub no_records : ℕ → ℕ → Result
no_records = Reader.no_records phd

-- The result of reading the bytes s into tables of R numbers for rows and F for references.
abbrev pub read_result : List ℕ → ℕ → ℕ → Result
read_result s R F = Reader.read_result phd s (Reader.capacity R F)
