-- The writer's choice is minimal: each width code is the least that holds its values, and an object is written in the shortest of
-- the forms that can hold it.
-- A reader must believe `CanHold` and `overhead`.
use Rattle.std.specs.Prelude.{◌≡◌, refl, ℕ, ◌+◌, ◌^◌, ◌≤◌, ◌<◌, Bool, true, false, cond, ◌&&◌, List, leb, ltb, pos}
use Rattle.std.proofs.Common.{arith, le-leb, lt-ltb, leb-true, ltb-true}
use Rattle.decode.specs.Values.{and_left, and_right}
use Rattle.encode.specs.Encode.{gap, fits, width_code}
use Rattle.encode.specs.Widths.{AllFit, max_le}
use Rattle.encode.proofs.Widths.{code_least, refs_code_least}
use Rattle.table.specs.declared.Row.{Row}
use Rattle.phd.specs.declared.cache.Cache.{Cache}
use Rattle.phd.specs.declared.Form.{Form}
use Rattle.phd.specs.declared.Form.TheVariants.{Short, Medium, Long, Class, ObjectArray, Primitive, LongPrimitive}
use Rattle.phd_plan.specs.FormChoice.{plan_input, needs_flag_byte, object_form}
use Rattle.phd_plan.specs.declared.PlanInput.{PlanInput}

-- ---- widths

-- The plan input of a row, after a record at the address `before`, with the cache c.
module _ (c : Cache) (before : ℕ) (r : Row) (refs : List ℕ) where
  -- If the gap fits 2^k bytes, its width code is at most k.
  pub gap_least : (k : ℕ) → fits (2 ^ k) (gap before r.address) ≡ true → (plan_input c before r refs).gap ≤ k
  unfolding plan_input
  gap_least k p = omega (arith, code_least (gap before r.address) k p)

  -- If all references fit 2^k bytes each, their width code is at most k.
  pub ref_least : (k : ℕ) → AllFit (2 ^ k) r.address refs → (plan_input c before r refs).refcode ≤ k
  unfolding plan_input
  ref_least k p = omega (arith, refs_code_least k 0 r.address refs (omega arith) p)

  -- If the gap and the length fit 2^k bytes each, their common width code is at most k.
  pub pair_least : (k : ℕ) → fits (2 ^ k) (gap before r.address) ≡ true → fits (2 ^ k) (pos r.len) ≡ true → (plan_input c before r refs).paircode ≤ k
  unfolding plan_input
  pair_least k p q =
      omega (arith, max_le (width_code (gap before r.address)) (width_code (pos r.len)) k (code_least _ k p) (code_least _ k q))

-- ---- the form of an object

-- The form can hold an object with this plan input. A short or medium object has no hash bits, a byte or a short for its gap, and
-- for its count two bits (short) or three (medium); a short object has two bits for a slot.
abbrev pub CanHold : Form → PlanInput → Type 0
CanHold Short m = (needs_flag_byte m.hashkind ≡ false) × (m.gap < 2) × (m.count ≤ 3) × (m.slot < 4)
CanHold Medium m = (needs_flag_byte m.hashkind ≡ false) × (m.gap < 2) × (m.count ≤ 7)
CanHold Long m = Unit {0}
CanHold Class m = ⊥
CanHold ObjectArray m = ⊥
CanHold Primitive m = ⊥
CanHold LongPrimitive m = ⊥

-- The bytes of an object's form besides its gap, its hash and its references: the tag; if medium or long, a class word of w
-- bytes; if long, a flag byte and a count of 4 bytes.
abbrev pub overhead : ℕ → Form → ℕ
overhead w Short = 1
overhead w Medium = 1 + w
overhead w Long = 6 + w
overhead w Class = 0
overhead w ObjectArray = 0
overhead w Primitive = 0
overhead w LongPrimitive = 0

short_or_medium : (w : ℕ) (b : Bool) → overhead w (cond b Short Medium) ≤ 1 + w
short_or_medium w true = omega arith
short_or_medium w false = omega arith

at_most_long : (w : ℕ) (fm : Form) → overhead w fm ≤ 6 + w
at_most_long w Short = omega arith
at_most_long w Medium = omega arith
at_most_long w Long = omega arith
at_most_long w Class = omega arith
at_most_long w ObjectArray = omega arith
at_most_long w Primitive = omega arith
at_most_long w LongPrimitive = omega arith

-- No form that can hold an object is shorter than the chosen one.
pub object_form_shortest : (w : ℕ) (fm : Form) (m : PlanInput) → CanHold fm m → overhead w (object_form m) ≤ overhead w fm
unfolding object_form
object_form_shortest w Short m x = rw (x.0, lt-ltb _ _ x.1, le-leb _ _ x.2, lt-ltb _ _ x.3) (omega arith)
object_form_shortest w Medium m x = rw (x.0, lt-ltb _ _ x.1, le-leb _ _ x.2) (short_or_medium w (leb m.count 3 && (ltb m.slot 4 && true)))
object_form_shortest w Long m x = at_most_long w (object_form m)
object_form_shortest w Class m x = absurd x
object_form_shortest w ObjectArray m x = absurd x
object_form_shortest w Primitive m x = absurd x
object_form_shortest w LongPrimitive m x = absurd x

-- The chosen form can hold the object.
pub object_form_can_hold : (m : PlanInput) → CanHold (object_form m) m
unfolding object_form
object_form_can_hold m = by (needs_flag_byte m.hashkind) (n3 && (s4 && g2)) (n7 && g2) refl refl refl
  where
    n3 : Bool
    n3 = leb m.count 3

    n7 : Bool
    n7 = leb m.count 7

    s4 : Bool
    s4 = ltb m.slot 4

    g2 : Bool
    g2 = ltb m.gap 2

    by : (f a b : Bool) → needs_flag_byte m.hashkind ≡ f → n3 && (s4 && g2) ≡ a → n7 && g2 ≡ b → CanHold (cond f Long (cond a Short (cond b Medium Long))) m
    by true a b ef ea eb = tt
    by false true b ef ea eb =
        let t = and_right n3 (s4 && g2) ea in
        (ef, ltb-true _ _ (and_right s4 g2 t), leb-true _ _ (and_left n3 (s4 && g2) ea), ltb-true _ _ (and_left s4 g2 t))
    by false false true ef ea eb = (ef, ltb-true _ _ (and_right n7 g2 eb), leb-true _ _ (and_left n7 g2 eb))
    by false false false ef ea eb = tt
