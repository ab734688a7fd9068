-- A good record is `Decodable` in the form that is chosen for it.
-- Assumes nothing.
use Rattle.std.specs.Prelude.{◌≡◌, ℕ, ◌%◌, ◌≤◌, ◌<◌, Bool, true, false, cond, ◌&&◌, leb, ltb}
use Rattle.std.proofs.Math.Path.{refl}
use Rattle.std.proofs.Common.{arith, leb-true, ltb-true, eq-eqb, ne_eqb}
use Rattle.encode.specs.Encode.{gap, width_code}
use Rattle.phd.specs.Phd.{max_address}
use Rattle.phd.specs.Shapes.{ValidBits}
use Rattle.phd.specs.declared.cache.Cache.{Cache}
use Rattle.phd.specs.declared.Header.{Header}
use Rattle.phd.specs.declared.Form.{Form}
use Rattle.phd.specs.declared.Form.TheVariants.{Short, Medium, Long, Primitive, LongPrimitive}
use Rattle.table.specs.Rows.{Rec}
use Rattle.phd_check.specs.WellFormed.{GoodKind, a_class, an_object, an_array, a_primitive, GoodRec}
use Rattle.phd_plan.specs.FormChoice.{plan_input, needs_flag_byte, object_form, form_of, tag_of, flags_of, find_slot}
use Rattle.phd_plan.specs.declared.PlanInput.{PlanInput}
use Rattle.phd_encode.specs.PlanBounds.{AddressSize, address_size_of}
use Rattle.phd_round_trip.specs.PrimitiveForms.{primitive_decodable, long_primitive_decodable}
use Rattle.phd_round_trip.specs.Decodable.{named, Decodable}
use Rattle.phd_round_trip.specs.FormsWithRefs.{short_decodable, medium_decodable, long_decodable, object_array_decodable, class_decodable}

-- A good record r after one at the address `before`, with the cache c.
module _ (h : Header) (c : Cache) (before index : ℕ) (r : Rec)
    (w : AddressSize h.bits) (g : GoodRec h index r) (bf : before % 4 ≡ 0) (bl : before ≤ max_address h.bits) where
  -- The record r is `Decodable` in the form fm, with the tag and the flag byte that the writer gives it.
  abbrev DecodableForm : Form → Type 0
  DecodableForm fm =
      let m : PlanInput = plan_input c before r.row r.refs in
      (known : ℕ) × Decodable h c before r fm (tag_of fm m) (flags_of fm m) known

  object_decodable : r.row.kind ≡ 2 → r.row.size ≡ 0 → r.row.len ≡ 0 → r.row.prim ≡ 0 → r.row.namelen ≡ 0
      → DecodableForm (object_form (plan_input c before r.row r.refs))
  unfolding object_form tag_of flags_of plan_input
  object_decodable k2 s0 l0 y0 n0 =
      by (needs_flag_byte m.hashkind) (leb n 3) (ltb s 4) (ltb d 2) (leb n 7) refl refl refl refl refl
    where
      m : PlanInput
      m = plan_input c before r.row r.refs

      n : ℕ
      n = r.row.count

      s : ℕ
      s = find_slot c r.row.class

      d : ℕ
      d = width_code (gap before r.row.address)

      a_long : DecodableForm Long
      a_long = (0, long_decodable h c before index r w g bf bl k2 s0 l0 y0 n0)

      not_short : (n7 d2 : Bool) → needs_flag_byte m.hashkind ≡ false → ltb d 2 ≡ d2 → leb n 7 ≡ n7 → DecodableForm (cond (n7 && d2) Medium Long)
      not_short true true e1 e4 e5 = (0, medium_decodable h c before index r w g bf bl k2 s0 l0 y0 n0 e1 (ltb-true _ _ e4) (leb-true _ _ e5))
      not_short true false e1 e4 e5 = a_long
      not_short false d2 e1 e4 e5 = a_long

      by : (f n3 s4 d2 n7 : Bool) → needs_flag_byte m.hashkind ≡ f → leb n 3 ≡ n3 → ltb s 4 ≡ s4 → ltb d 2 ≡ d2 → leb n 7 ≡ n7
          → DecodableForm (cond f Long (cond (n3 && (s4 && d2)) Short (cond (n7 && d2) Medium Long)))
      by true n3 s4 d2 n7 e1 e2 e3 e4 e5 = a_long
      by false true true true n7 e1 e2 e3 e4 e5 =
          (r.row.class, short_decodable h c before index r w g bf bl k2 s0 l0 y0 n0 e1 (ltb-true _ _ e4) (leb-true _ _ e2) (ltb-true _ _ e3))
      by false true true false n7 e1 e2 e3 e4 e5 = not_short n7 false e1 e4 e5
      by false true false d2 n7 e1 e2 e3 e4 e5 = not_short n7 d2 e1 e4 e5
      by false false s4 d2 n7 e1 e2 e3 e4 e5 = not_short n7 d2 e1 e4 e5

  good_record_decodable : DecodableForm (form_of (plan_input c before r.row r.refs))
  unfolding form_of tag_of flags_of plan_input
  good_record_decodable = by g.kind_good
    where
      m : PlanInput
      m = plan_input c before r.row r.refs

      array : (a : Bool) → needs_flag_byte m.hashkind ≡ a → r.row.kind ≡ 4 → r.row.class ≡ 0 → r.row.count ≡ 0
          → r.row.prim < 8 → r.row.namelen ≡ 0 → DecodableForm (cond a LongPrimitive Primitive)
      array true e k4 c0 r0 y8 n0 = (0, long_primitive_decodable h c before index r w g bf bl k4 c0 r0 y8 n0)
      array false e k4 c0 r0 y8 n0 = (0, primitive_decodable h c before index r w g bf bl k4 c0 r0 y8 n0 e)

      by : GoodKind r.row r.name → DecodableForm (form_of m)
      by (a_class k h1 sl l0 y0 a b v) =
          let n = g.namelen in
          rw (eq-eqb r.row.kind 1 k) (0, class_decodable h c before index r w g bf bl k h1 sl l0 y0 (named (omega arith) (omega arith) v))
      by (an_object k s0 l0 y0 n0) = rw (ne_eqb r.row.kind 1 (omega arith), eq-eqb r.row.kind 2 k) (object_decodable k s0 l0 y0 n0)
      by (an_array k _ _ nl y0 n0) =
          rw (ne_eqb r.row.kind 1 (omega arith), ne_eqb r.row.kind 2 (omega arith), eq-eqb r.row.kind 3 k)
          (0, object_array_decodable h c before index r w g bf bl k nl y0 n0)
      by (a_primitive k c0 r0 _ _ y8 n0) =
          rw (ne_eqb r.row.kind 1 (omega arith), ne_eqb r.row.kind 2 (omega arith), ne_eqb r.row.kind 3 (omega arith))
          (array (needs_flag_byte m.hashkind) refl k c0 r0 y8 n0)

-- A good record is `Decodable` in the form that is chosen for it.
pub chosen_form_decodable : (h : Header) (c : Cache) (before index : ℕ) (r : Rec)
    → ValidBits h.bits → GoodRec h index r → before % 4 ≡ 0 → before ≤ max_address h.bits
    → let m : PlanInput = plan_input c before r.row r.refs in
    (known : ℕ) × Decodable h c before r (form_of m) (tag_of (form_of m) m) (flags_of (form_of m) m) known
chosen_form_decodable h c before index r w g bf bl = good_record_decodable h c before index r (address_size_of h.bits w) g bf bl
