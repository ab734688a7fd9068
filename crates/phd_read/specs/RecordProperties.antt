-- Properties of a record that was read from a dump: the numbers of its row, its address, its tag, and where its references are.
-- Assumes nothing.
use Rattle.std.specs.Prelude.{◌≡◌, refl, ℕ, zero, suc, ◌+◌, ◌≤◌, ◌<◌, Bool, true, false, cond, List, [], ◌∷◌, length, get_or, take, drop, eqb, Option, Some, None}
use Rattle.std.proofs.Common.{subst, arith, le-leb}
use Rattle.decode.specs.Numbers.{value, all_within}
use Rattle.decode.specs.Layout.{yield, whole, stops, run, run_then, run_position, run_yield, run_refuse, run_field, then_inv, ◌>>=◌, field}
use Rattle.decode.specs.declared.Stop.TheVariants.{Refused}
use Rattle.decode.specs.Values.{Gives, gives_yield, gives_then, gives_then_any, gives_cond, gives_address, gives_ref}
use Rattle.table.specs.Table.{row_width, offset_number}
use Rattle.phd.specs.Phd.{max_address, tag_form, need_form, ref_list, SpannedRefs, spanned_refs, front, row, RecordContext, Item, end_item, item, from_ref_count, fields, record_body, from_tag, entry}
use Rattle.phd.specs.EntryLaws.{origin_at, entry_from_tag}
use Rattle.phd.specs.Shapes.{ref_width_le_8}
use Rattle.phd.specs.declared.cache.Cache.{Cache}
use Rattle.phd.specs.declared.Header.{Header}
use Rattle.phd.specs.declared.Form.{Form}
use Rattle.phd.specs.declared.Front.{Front}
use Rattle.phd.specs.declared.Origin.{Origin}
use Rattle.phd.specs.declared.Shape.{Shape}
use Rattle.phd.specs.declared.Span.{Span}
use Rattle.reader.specs.Steps.{byte_advances}

-- ---- progress

-- A record or an end tag takes at least one byte, its tag, and ends within the dump.
pub entry_advances : (h : Header) (before : ℕ) (c : Cache) (index : ℕ) (s : List ℕ) (at : ℕ) (i : Item) (e : ℕ)
    → run (entry h before c index) s at ≡ whole i e → (at < e) × (e ≤ length s)
unfolding from_tag field ◌>>=◌
entry_advances h before c index s at i e r = byte_advances _ s at i e (rw entry_from_tag at r)

-- ---- references

-- The list has n references, each in 1 to top.
pub record RefsInBounds (n top : ℕ) (rs : List ℕ) : Type 0 where
  pub many : length rs ≡ n
  pub range : all_within 1 top rs ≡ true

-- Every list of n references that is read satisfies `RefsInBounds`.
pub gives_ref_list : {s : List ℕ} (w a top n : ℕ) → Gives s (RefsInBounds n top) (ref_list w a top n)
unfolding ref_list all_within
gives_ref_list w a top zero = gives_yield [] (record { many = refl; range = refl })
gives_ref_list w a top (suc n) =
    gives_then _ _ _ (gives_ref w a top) (λ r p. gives_then _ _ _ (gives_ref_list w a top n) (λ rs q.
    gives_yield (r ∷ rs) (record { many = rw q.many; range = rw (le-leb _ _ p.0, le-leb _ _ p.1, q.range) })))

-- The references of a record at the address a are at the place that their span gives, with its width and count.
pub record RefsAtSpan (s : List ℕ) (a top : ℕ) (ls : SpannedRefs) : Type 0 where
  pub end : ℕ
  pub read : run (ref_list ls.span.width a top ls.span.count) s ls.span.place ≡ whole ls.list end
  pub inside : ls.span.place ≤ length s
  pub width_le_8 : ls.span.width ≤ 8
  pub in_bounds : RefsInBounds ls.span.count top ls.list

gives_spanned_refs : {s : List ℕ} (w a top n : ℕ) → w ≤ 8 → Gives s (RefsAtSpan s a top) (spanned_refs w a top n)
unfolding spanned_refs
gives_spanned_refs {s} w a top n small = record {
  each = λ at ls e l h. placed at ls e l (then_inv (ref_list w a top n) _ s at ls e (rw (run_then, run_position) at h));
}
  where
    found : (p : ℕ) (rs : List ℕ) → SpannedRefs
    found p rs = record { span = record { place = p; width = w; count = n }; list = rs }

    placed : (at : ℕ) (ls : SpannedRefs) (e : ℕ) → at ≤ length s
        → (rs : List ℕ) × (m : ℕ) × (run (ref_list w a top n) s at ≡ whole rs m) × (run (yield (found at rs)) s m ≡ whole ls e) → RefsAtSpan s a top ls
    placed at ls e l v =
        let y : whole (found at v.0) v.1 ≡ whole ls e = rw run_yield at v.3 in
        let x : found at v.0 ≡ ls = cc in
        subst (RefsAtSpan s a top) x (record { end = v.1; read = v.2; inside = l; width_le_8 = small; in_bounds = (gives_ref_list w a top n).each at v.0 v.1 l v.2 })

-- ---- the record

-- Properties of a record with the row r, the references ls and the address a, read from s under the header h.
pub record ReadFrom (h : Header) (s : List ℕ) (origin : Origin) (r : List ℕ) (ls : SpannedRefs) (a : ℕ) : Type 0 where
  pub numbers : length r ≡ row_width
  pub address : get_or r 1 0 ≡ a
  pub offset : get_or r offset_number 0 ≡ origin.offset
  pub most : a ≤ max_address h.bits
  pub refs : RefsAtSpan s a (max_address h.bits) ls

-- A record satisfies `ReadFrom`; the end tag has no properties.
abbrev ItemReadFrom : Header → List ℕ → Origin → Item → Type 0
ItemReadFrom h s origin end_item = Unit {0}
ItemReadFrom h s origin (item r rs sp k) = ReadFrom h s origin r (record { span = sp; list = rs }) k.address

gives_front : {s : List ℕ} (top before : ℕ) (sh : Shape) → Gives s (λ (v : Front). v.address ≤ top) (front top before sh)
unfolding front
gives_front top before sh =
    gives_then _ _ _ (gives_address sh.gap before top) (λ a l. gives_then_any _ _ (λ class. gives_then_any _ _ (λ len. gives_yield _ l)))

gives_fields : (h : Header) (s : List ℕ) (before : ℕ) (c : Cache) (origin : Origin) (known hk : ℕ) (sh : Shape) → sh.refwidth ≤ 8
    → Gives s (ItemReadFrom h s origin) (fields (max_address h.bits) before c origin known hk sh)
unfolding fields from_ref_count row
gives_fields h s before c origin known hk sh small =
    gives_then _ _ _ (gives_front (max_address h.bits) before sh) (λ v l. gives_then_any _ _ (λ m. gives_then_any _ _ (λ name. gives_then_any _ _ (λ n.
    gives_then _ _ _ (gives_spanned_refs sh.refwidth v.address (max_address h.bits) n small) (λ ls p. gives_then_any _ _ (λ t.
    gives_yield _ (record { numbers = refl; address = refl; offset = refl; most = l; refs = p })))))))

gives_from_tag : (h : Header) (s : List ℕ) (before : ℕ) (c : Cache) (origin : Origin) → Gives s (ItemReadFrom h s origin) (from_tag h before c origin)
unfolding from_tag record_body
gives_from_tag h s before c origin =
    gives_then_any _ _ (λ t. gives_cond (eqb t 3) _ _ (gives_yield end_item tt) (gives_then_any _ _ (λ fm. gives_then_any _ _ (λ known. gives_then_any _ _ (λ f.
    gives_fields h s before c origin known _ _ (ref_width_le_8 _ fm t f))))))

-- ---- the tag

-- If a record was read after the byte t, then t is a record's tag.
tag_has_form : (h : Header) (s : List ℕ) (before : ℕ) (c : Cache) (origin : Origin) (t m : ℕ) (r rs : List ℕ) (sp : Span) (k : RecordContext) (n : ℕ)
    → run (cond (eqb t 3) (yield end_item) (record_body h before c origin t)) s m ≡ whole (item r rs sp k) n → (fm : Form) × (tag_form t ≡ Some fm)
unfolding record_body need_form
tag_has_form h s before c origin t m r rs sp k n e = by (eqb t 3) (tag_form t) refl refl
  where
    by : (b : Bool) (g : Option Form) → eqb t 3 ≡ b → tag_form t ≡ g → (fm : Form) × (tag_form t ≡ Some fm)
    by b (Some fm) p q = (fm, q)
    by true None p q =
        let y : whole end_item m ≡ whole (item r rs sp k) n = rw (p, run_yield) at e in
        let z : ◌≡◌ {A = ℕ} 0 1 = cc in
        absurd (omega arith)
    by false None p q =
        let y : stops (Refused 6) ≡ whole (item r rs sp k) n = rw (p, run_then, q, run_refuse) at e in
        let z : ◌≡◌ {A = ℕ} 0 1 = cc in
        absurd (omega arith)

-- The byte at which a record was read is a record's tag.
pub entry_tag_form : (h : Header) (s : List ℕ) (before : ℕ) (c : Cache) (index at : ℕ) (r rs : List ℕ) (sp : Span) (k : RecordContext) (n : ℕ)
    → run (entry h before c index) s at ≡ whole (item r rs sp k) n → (fm : Form) × (tag_form (value (take 1 (drop at s))) ≡ Some fm)
unfolding from_tag
entry_tag_form h s before c index at r rs sp k n e =
    let f = entry_advances h before c index s at (item r rs sp k) n e in
    tag_has_form h s before c (origin_at at index) (value (take 1 (drop at s))) (at + 1) r rs sp k n
    (rw (entry_from_tag, run_then, run_field 1 s at (omega arith)) at e)

-- ---- a record of the dump

-- Every record that was read satisfies `ReadFrom`.
pub entry_read_from : (h : Header) (s : List ℕ) (before : ℕ) (c : Cache) (index at : ℕ) (r rs : List ℕ) (sp : Span) (k : RecordContext) (n : ℕ)
    → run (entry h before c index) s at ≡ whole (item r rs sp k) n → ReadFrom h s (origin_at at index) r (record { span = sp; list = rs }) k.address
entry_read_from h s before c index at r rs sp k n e =
    let f = entry_advances h before c index s at (item r rs sp k) n e in
    let l : at ≤ length s = omega arith in
    (gives_from_tag h s before c (origin_at at index)).each at (item r rs sp k) n l (rw entry_from_tag at e)
