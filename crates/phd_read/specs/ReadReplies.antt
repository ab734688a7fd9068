-- The header and the records are refused with the replies 3 to 12 only (docs/FORMAT.md 8), so a reading gives one of the replies
-- 0 to 14, and reply 1 only for a cut.
-- Assumes nothing.
use Rattle.std.specs.Prelude.{◌≡◌, refl, true, not, ◌&&◌, leb, eqb, Option, Some, None}
use Prim.Native.Nat.{ℕ, zero, suc, ◌≤◌}
use mathlib.Core.List.{List, []}
use Rattle.std.proofs.Common.{lit≤, arith, leb-true}
use Rattle.decode.specs.Layout.{Layout}
use Rattle.decode.specs.Fields.{no_string}
use Rattle.decode.specs.Values.{and_left, and_right, Refuses, refuses_yield, refuses_refuse, refuses_then, refuses_cond, refuses_field, refuses_raw, refuses_position, refuses_check, refuses_need_nothing, refuses_exactly, refuses_below, refuses_address, refuses_ref, refuses_count, refuses_string}
use Rattle.phd.specs.Phd.{magic_bytes, preamble, after_vm, header_records, header, need_form, slot_class, flag_byte, front, middle, class_name, ref_count, ref_list, spanned_refs, true_length, tail, end_item, from_ref_count, fields, record_body, from_tag, entry, phd, capacity, read_result}
use Rattle.phd.specs.EntryLaws.{entry_refuses}
use Rattle.phd.specs.declared.cache.Cache.{Cache}
use Rattle.phd.specs.declared.Header.{Header}
use Rattle.phd.specs.declared.Origin.{Origin}
use Rattle.phd.specs.declared.Shape.{Shape}
use Rattle.reader.proofs.WithinCapacity.{read_replies}
use Rattle.phd.specs.declared.Form.{Form}

-- A reply that refuses bytes that are present: 3 to 12.
abbrev PhdRefusal : ℕ → Type 0
PhdRefusal r = leb 3 r && leb r 12 ≡ true

-- A reply that refuses a field: 3 to 12, but not 10, which is for an empty slot.
abbrev pub FieldReply : ℕ → Type 0
FieldReply r = (leb 3 r && leb r 12) && not (eqb r 10) ≡ true

-- If P holds for every reply that refuses a field, then P holds for every reply that refuses a header or the fields of a record.
module _ (P : ℕ → Type 0) (p : (r : ℕ) → FieldReply r → P r) where
  -- ---- the header

  magic_refuses : Refuses P magic_bytes
  unfolding magic_bytes
  magic_refuses = refuses_then _ _ (refuses_raw 18) (λ text. refuses_check 3 _ (p 3 refl))

  preamble_refuses : Refuses P preamble
  unfolding preamble
  preamble_refuses =
      refuses_then _ _ (refuses_exactly 2 18 3 (p 3 refl)) (λ _. refuses_then _ _ magic_refuses (λ _.
      refuses_then _ _ (refuses_exactly 4 6 4 (p 4 refl)) (λ _. refuses_then _ _ (refuses_below 4 8 5 (p 5 refl)) (λ flags.
      refuses_then _ _ (refuses_exactly 1 1 6 (p 6 refl)) (λ _. refuses_yield flags)))))

  after_vm_refuses : Refuses P after_vm
  unfolding after_vm
  after_vm_refuses = refuses_then _ _ (refuses_field 1) (λ tag. refuses_then _ _ (refuses_check 7 _ (p 7 refl)) (λ _. refuses_check 6 _ (p 6 refl)))

  header_records_refuses : Refuses P header_records
  unfolding header_records
  header_records_refuses =
      refuses_then _ _ (refuses_field 1) (λ tag. refuses_cond (eqb tag 2) _ _ (refuses_yield no_string) (refuses_cond (eqb tag 4) _ _
      (refuses_then _ _ (refuses_string 0x20 0 (p 7 refl)) (λ vm. refuses_then _ _ after_vm_refuses (λ _. refuses_yield vm)))
      (refuses_refuse 6 (p 6 refl))))

  -- Every reply that refuses a header satisfies P.
  pub header_refuses : Refuses P header
  unfolding header
  header_refuses =
      refuses_then _ _ preamble_refuses (λ flags. refuses_then _ _ header_records_refuses (λ vm.
      refuses_then _ _ (refuses_exactly 1 2 6 (p 6 refl)) (λ _. refuses_yield _)))

  -- ---- a record

  need_form_refuses : (t : Option Form) → Refuses P (need_form t)
  unfolding need_form
  need_form_refuses (Some fm) = refuses_yield fm
  need_form_refuses None = refuses_refuse 6 (p 6 refl)

  flag_byte_refuses : (h : Header) (t : ℕ) → Refuses P (flag_byte h t)
  unfolding flag_byte
  flag_byte_refuses h t = refuses_then _ _ (refuses_field _) (λ f. refuses_then _ _ (refuses_check 11 _ (p 11 refl)) (λ _. refuses_yield f))

  front_refuses : (top before : ℕ) (sh : Shape) → Refuses P (front top before sh)
  unfolding front
  front_refuses top before sh =
      refuses_then _ _ (refuses_address sh.gap before top (p 8 refl)) (λ a. refuses_then _ _ (refuses_field sh.class) (λ class.
      refuses_then _ _ (refuses_count sh.len (p 12 refl)) (λ len. refuses_yield _)))

  middle_refuses : (sh : Shape) (hb : ℕ) → Refuses P (middle sh hb)
  unfolding middle
  middle_refuses sh hb =
      refuses_then _ _ (refuses_count sh.inst (p 12 refl)) (λ inst. refuses_then _ _ (refuses_field hb) (λ hash.
      refuses_then _ _ (refuses_field sh.superclass) (λ superclass. refuses_yield _)))

  class_name_refuses : (n : ℕ) → Refuses P (class_name n)
  unfolding class_name
  class_name_refuses n = refuses_cond (eqb n 0) _ _ (refuses_yield no_string) (refuses_string 0x21 1 (p 7 refl))

  ref_count_refuses : (n known : ℕ) → Refuses P (ref_count n known)
  unfolding ref_count
  ref_count_refuses n known = refuses_cond (eqb n 0) _ _ (refuses_yield known) (refuses_count n (p 12 refl))

  ref_list_refuses : (w a top n : ℕ) → Refuses P (ref_list w a top n)
  unfolding ref_list
  ref_list_refuses w a top zero = refuses_yield []
  ref_list_refuses w a top (suc n) =
      refuses_then _ _ (refuses_ref w a top (p 8 refl) (p 9 refl)) (λ r. refuses_then _ _ (ref_list_refuses w a top n) (λ rs. refuses_yield _))

  spanned_refs_refuses : (w a top n : ℕ) → Refuses P (spanned_refs w a top n)
  unfolding spanned_refs
  spanned_refs_refuses w a top n = refuses_then _ _ refuses_position (λ p. refuses_then _ _ (ref_list_refuses w a top n) (λ rs. refuses_yield _))

  true_length_refuses : (w n : ℕ) → Refuses P (true_length w n)
  unfolding true_length
  true_length_refuses w n =
      refuses_cond (eqb w 0) _ _ (refuses_yield 0)
      (refuses_then _ _ (refuses_count w (p 12 refl)) (λ t. refuses_then _ _ (refuses_check 12 _ (p 12 refl)) (λ _. refuses_yield t)))

  tail_refuses : (size truelen n : ℕ) → Refuses P (tail size truelen n)
  unfolding tail
  tail_refuses size truelen n = refuses_then _ _ (refuses_field size) (λ z. refuses_then _ _ (true_length_refuses truelen n) (λ t. refuses_yield _))

  fields_refuses : (top before : ℕ) (c : Cache) (origin : Origin) (known hk : ℕ) (sh : Shape) → Refuses P (fields top before c origin known hk sh)
  unfolding fields from_ref_count
  fields_refuses top before c origin known hk sh =
      refuses_then _ _ (front_refuses top before sh) (λ v. refuses_then _ _ (middle_refuses sh _) (λ m. refuses_then _ _ (class_name_refuses sh.name) (λ name.
      refuses_then _ _ (ref_count_refuses sh.countwidth sh.count) (λ n. refuses_then _ _ (spanned_refs_refuses sh.refwidth v.address top n) (λ ls.
      refuses_then _ _ (tail_refuses sh.size sh.truelen n) (λ t. refuses_yield _))))))

  -- Every reply that refuses a record satisfies P, if 10 does when the slot is empty.
  pub record_body_refuses : (h : Header) (before : ℕ) (c : Cache) (origin : Origin) (t : ℕ) → (slot_class c t ≡ None → P 10) → Refuses P (record_body h before c origin t)
  unfolding record_body
  record_body_refuses h before c origin t ten =
      refuses_then _ _ (need_form_refuses _) (λ fm. refuses_then _ _ (refuses_need_nothing 10 _ ten) (λ known.
      refuses_then _ _ (flag_byte_refuses h t) (λ f. fields_refuses _ before c origin known _ _)))

-- The layout refuses only with the replies 3 to 12.
abbrev pub RefusalsOnly : {A : Type 0} → Layout A → Type 0
RefusalsOnly l = Refuses PhdRefusal l

field_is_refusal : (r : ℕ) → FieldReply r → PhdRefusal r
field_is_refusal r k = and_left (leb 3 r && leb r 12) (not (eqb r 10)) k

-- A header is refused only with the replies 3 to 12.
pub header_refusals : RefusalsOnly header
header_refusals = header_refuses PhdRefusal field_is_refusal

-- A record is refused only with the replies 3 to 12.
pub entry_refusals : (h : Header) (before : ℕ) (c : Cache) (index : ℕ) → RefusalsOnly (entry h before c index)
unfolding from_tag
entry_refusals h before c index = entry_refuses h before c index (λ origin.
    refuses_then _ _ (refuses_field 1) (λ t. refuses_cond (eqb t 3) _ _ (refuses_yield end_item) (record_body_refuses PhdRefusal field_is_refusal h before c origin t (λ _. refl))))

-- ---- the reading

-- `PhdRefusal` as two inequalities.
pub refusal_bounds : (r : ℕ) → PhdRefusal r → (3 ≤ r) × (r ≤ 12)
refusal_bounds r k = (leb-true _ _ (and_left (leb 3 r) (leb r 12) k), leb-true _ _ (and_right (leb 3 r) (leb r 12) k))

-- Any bytes and any capacity give one of the replies 0 to 14.
pub read_reply_le_14 : (s : List ℕ) (R F : ℕ) → (read_result s R F).reply ≤ 14
read_reply_le_14 s R F =
    read_replies phd (λ r. r ≤ 14) (record { done = lit≤ tt; cut = lit≤ tt; long = lit≤ tt; no_row = lit≤ tt; no_refs = lit≤ tt })
    (at_most header_refusals) (λ h k index. at_most (entry_refusals h _ _ _)) s (capacity R F)
  where
    at_most : {A : Type 0} {l : Layout A} → RefusalsOnly l → Refuses (λ r. r ≤ 14) l
    at_most g = record { each = λ s at r e. omega (arith, (refusal_bounds r (g.each s at r e)).1) }
