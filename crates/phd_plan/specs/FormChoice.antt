-- The form in which a record is written, with its tag and its flag byte (docs/FORMAT.md 6.2).
-- A reader must believe these definitions.
use Rattle.std.specs.Prelude.{ℕ, ◌+◌, ◌*◌, ◌^◌, ◌≤◌, ◌<◌, Bool, cond, ◌&&◌, ◌||◌, List, get_or, leb, ltb, eqb, pos}
use Rattle.encode.specs.Encode.{gap, width_code, max, refs_code}
use Rattle.phd.specs.Phd.{shape}
use Rattle.phd.specs.declared.cache.Cache.{Cache}
use Rattle.phd.specs.declared.Form.{Form}
use Rattle.phd.specs.declared.Form.TheVariants.{Short, Medium, Long, Class, ObjectArray, Primitive, LongPrimitive}
use Rattle.table.specs.declared.Row.{Row}
use Rattle.phd_plan.specs.declared.PlanInput.{PlanInput}
use Rattle.phd_plan.specs.declared.Plan.{Plan}

-- Whether slot i is filled and holds the class word w.
unfoldable pub slot_holds : Cache → ℕ → ℕ → Bool
slot_holds c w i = ltb i c.pushes && eqb (get_or c.classes i 0) w

-- The lowest filled slot that holds the class word w, 4 if none does.
unfoldable pub find_slot : Cache → ℕ → ℕ
find_slot c w = cond (slot_holds c w 0) 0 (cond (slot_holds c w 1) 1 (cond (slot_holds c w 2) 2 (cond (slot_holds c w 3) 3 4)))

-- Everything that determines the form, the tag and the flag byte of a row with its references, after a record at the address
-- `before`, with the cache c.
unfoldable pub plan_input : Cache → ℕ → Row → List ℕ → PlanInput
plan_input c before r refs = record {
  kind = r.kind;
  hashkind = r.hashkind;
  prim = r.prim;
  slot = find_slot c r.class;
  count = r.count;
  gap = width_code (gap before r.address);
  refcode = refs_code 0 r.address refs;
  paircode = max (width_code (gap before r.address)) (width_code (pos r.len));
}

-- Bounds on the plan input of every good row, so that no sum below exceeds 64 bits.
pub record Bounded (m : PlanInput) : Type 0 where
  pub slot_le : m.slot ≤ 4
  pub count_lt : m.count < 2 ^ 31
  pub gap_lt : m.gap < 4
  pub ref_lt : m.refcode < 4
  pub pair_lt : m.paircode < 4
  pub prim_lt : m.prim < 8

-- Whether the hash kind needs a flag byte: kinds 1 and 2 do.
unfoldable pub needs_flag_byte : ℕ → Bool
needs_flag_byte k = eqb k 1 || eqb k 2

-- The form of an object. A gap fits a short if its width code is below 2.
unfoldable pub object_form : PlanInput → Form
object_form m =
    cond (needs_flag_byte m.hashkind) Long
    (cond (leb m.count 3 && (ltb m.slot 4 && ltb m.gap 2)) Short
    (cond (leb m.count 7 && ltb m.gap 2) Medium Long))

-- The form of a record, by its kind: 1 class, 2 object, 3 object array, else primitive array.
unfoldable pub form_of : PlanInput → Form
form_of m =
    cond (eqb m.kind 1) Class
    (cond (eqb m.kind 2) (object_form m)
    (cond (eqb m.kind 3) ObjectArray (cond (needs_flag_byte m.hashkind) LongPrimitive Primitive)))

-- The tag of a record, with the bits of docs/FORMAT.md 3.1.
unfoldable pub tag_of : Form → PlanInput → ℕ
tag_of Short m = 0x80 + 0x20 * m.slot + 0x08 * m.count + 0x04 * m.gap + m.refcode
tag_of Medium m = 0x40 + 0x08 * m.count + 0x04 * m.gap + m.refcode
tag_of Primitive m = 0x20 + 0x04 * m.prim + m.paircode
tag_of Long m = 4
tag_of Class m = 6
tag_of LongPrimitive m = 7
tag_of ObjectArray m = 8

-- The flag bits for a hash kind, of every record but a class: kind 2 sets moved (0x02) and hashed (0x01), kind 1 sets hashed.
unfoldable pub hash_flags : ℕ → ℕ
hash_flags k = cond (eqb k 2) 0x03 (cond (eqb k 1) 0x01 0)

-- The flag bits for a hash kind, of a class: kind 2 sets moved (0x08).
unfoldable pub class_flags : ℕ → ℕ
class_flags k = cond (eqb k 2) 0x08 0

-- The flag byte of a record, 0 if its form has none. The gap and the length of a long primitive array are bytes if both fit, else
-- words.
unfoldable pub flags_of : Form → PlanInput → ℕ
flags_of Short m = 0
flags_of Medium m = 0
flags_of Primitive m = 0
flags_of Long m = 0x40 * m.gap + 0x10 * m.refcode + hash_flags m.hashkind
flags_of ObjectArray m = 0x40 * m.gap + 0x10 * m.refcode + hash_flags m.hashkind
flags_of Class m = 0x40 * m.gap + 0x10 * m.refcode + class_flags m.hashkind
flags_of LongPrimitive m = 0x20 * m.prim + 0x10 * cond (eqb m.paircode 0) 0 1 + hash_flags m.hashkind

-- The tag, the flag byte, and the shape that the reader's `shape` gives for them; w is W / 8.
unfoldable pub make_plan : ℕ → PlanInput → Plan
make_plan w m =
    let fm = form_of m in
    let t = tag_of fm m in
    let f = flags_of fm m in
    record { tag = t; flags = f; shape = shape w fm t f }
