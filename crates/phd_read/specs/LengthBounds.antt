-- In every stored row the length is below 2^31, and an object array has no more references than its true length.
-- A reader must believe `LengthInBounds` and `LengthsInBounds`.
use Rattle.std.specs.Prelude.{◌≡◌, refl, ℕ, ◌^◌, ◌≤◌, ◌<◌, false, List, length, get_or, eqb}
use Rattle.std.proofs.Common.{arith, leb-true}
use Rattle.decode.specs.Values.{Gives, cond_elim, gives_yield, gives_then, gives_then_any, gives_cond, gives_cases, gives_check, gives_count}
use Rattle.phd.specs.Phd.{shape, front, true_length, tail, field_or, row, Item, end_item, item, from_ref_count, fields, record_body, from_tag, entry, State, read_result}
use Rattle.table.specs.Table.{row_count, row_slice, number, number_row_slice}
use Rattle.phd.specs.EntryLaws.{entry_gives}
use Rattle.phd.specs.declared.cache.Cache.{Cache}
use Rattle.phd.specs.declared.Header.{Header}
use Rattle.phd.specs.declared.Form.{Form}
use Rattle.phd.specs.declared.Form.TheVariants.{Short, Medium, Long, Class, ObjectArray, Primitive, LongPrimitive}
use Rattle.phd.specs.declared.Front.{Front}
use Rattle.phd.specs.declared.Origin.{Origin}
use Rattle.phd.specs.declared.Shape.{Shape}
use Rattle.phd.specs.declared.Tail.{Tail}
use Rattle.phd_read.specs.RecordProperties.{entry_advances}
use Rattle.phd_read.specs.RowTags.{phd_row_origins}

-- Bounds on the length of a row, given its kind and its count of references.
pub record LengthInBounds (kind refs len : ℕ) : Type 0 where
  pub short : len < 2 ^ 31
  pub array : kind ≡ 3 → refs ≤ len

-- ---- a record

gives_front : {s : List ℕ} (top before : ℕ) (sh : Shape) → Gives s (λ (v : Front). v.len < 2 ^ 31) (front top before sh)
unfolding front
gives_front top before sh =
    gives_then_any _ _ (λ a. gives_then_any _ _ (λ class. gives_then _ _ _ (gives_count sh.len) (λ len l. gives_yield _ l)))

-- A true length t, read from w bytes, is below 2^31, and at least the count n unless w is 0.
abbrev pub AtLeastCount : ℕ → ℕ → ℕ → Type 0
AtLeastCount w n t = (t < 2 ^ 31) × (eqb w 0 ≡ false → n ≤ t)

-- Every true length that is read satisfies `AtLeastCount`.
pub gives_true_length : {s : List ℕ} (w n : ℕ) → Gives s (AtLeastCount w n) (true_length w n)
unfolding true_length
gives_true_length w n =
    gives_cases (eqb w 0) _ _ (λ e. gives_yield 0 (omega arith, λ f. let z : ◌≡◌ {A = ℕ} 0 1 = cc in absurd (omega arith)))
    (λ e. gives_then _ _ _ (gives_count w) (λ t l. gives_then _ _ _ (gives_check 12 _) (λ _ c. gives_yield t (l, λ _. leb-true _ _ c))))

gives_tail : {s : List ℕ} (size truelen n : ℕ) → Gives s (λ (t : Tail). AtLeastCount truelen n t.truelen) (tail size truelen n)
unfolding tail
gives_tail size truelen n = gives_then_any _ _ (λ z. gives_then _ _ _ (gives_true_length truelen n) (λ t l. gives_yield _ l))

-- The row of a record satisfies `LengthInBounds`.
abbrev ItemLengthInBounds : Item → Type 0
ItemLengthInBounds end_item = Unit {0}
ItemLengthInBounds (item r rs sp k) = LengthInBounds (get_or r 0 0) (get_or r 6 0) (get_or r 8 0)

gives_fields : {s : List ℕ} (top before : ℕ) (c : Cache) (origin : Origin) (known hk : ℕ) (sh : Shape) → (sh.kind ≡ 3 → eqb sh.truelen 0 ≡ false)
    → Gives s ItemLengthInBounds (fields top before c origin known hk sh)
unfolding fields from_ref_count row field_or
gives_fields top before c origin known hk sh k =
    gives_then _ _ _ (gives_front top before sh) (λ v l. gives_then_any _ _ (λ m. gives_then_any _ _ (λ name. gives_then_any _ _ (λ n. gives_then_any _ _ (λ ls.
    gives_then _ _ _ (gives_tail sh.size sh.truelen n) (λ t p.
    gives_yield _ (record {
      short = cond_elim (λ x. x < 2 ^ 31) (eqb sh.truelen 0) v.len t.truelen l p.0;
      array = λ e. rw (k e) (p.1 (k e));
    })))))))

-- Only an object array has kind 3, and it has a true length.
array_has_true_length : (w : ℕ) (fm : Form) (t f : ℕ) → (shape w fm t f).kind ≡ 3 → eqb (shape w fm t f).truelen 0 ≡ false
unfolding shape
array_has_true_length w Short t f e = absurd (omega arith)
array_has_true_length w Medium t f e = absurd (omega arith)
array_has_true_length w Long t f e = absurd (omega arith)
array_has_true_length w Class t f e = absurd (omega arith)
array_has_true_length w ObjectArray t f e = refl
array_has_true_length w Primitive t f e = absurd (omega arith)
array_has_true_length w LongPrimitive t f e = absurd (omega arith)

gives_entry : {s : List ℕ} (h : Header) (before : ℕ) (c : Cache) (index : ℕ) → Gives s ItemLengthInBounds (entry h before c index)
unfolding from_tag record_body
gives_entry h before c index = entry_gives h before c index (λ origin.
    gives_then_any _ _ (λ t. gives_cond (eqb t 3) _ _ (gives_yield end_item tt) (gives_then_any _ _ (λ fm. gives_then_any _ _ (λ known. gives_then_any _ _ (λ f.
    gives_fields _ before c origin known _ _ (array_has_true_length _ fm t f)))))))

-- ---- the tables of a reading

-- Every whole row satisfies `LengthInBounds`: number 0 of a row is its kind, 6 its count of references, 8 its length.
abbrev pub LengthsInBounds : List ℕ → Type 0
LengthsInBounds rows = (i : ℕ) → i < row_count rows → LengthInBounds (number rows i 0) (number rows i 6) (number rows i 8)

-- The rows that a reading of any bytes stores satisfy `LengthsInBounds`.
pub read_lengths_in_bounds : (s : List ℕ) (R F : ℕ) → LengthsInBounds (read_result s R F).rows
read_lengths_in_bounds s R F i l =
    let rows : List ℕ = (read_result s R F).rows in
    let x = (phd_row_origins s R F).each i l in
    let st : State = x.before in
    let f = entry_advances (read_result s R F).header st.context.address st.context.cache (length st.refs) s st.at _ x.end x.item_is in
    let m : LengthInBounds (get_or (row_slice rows i) 0 0) (get_or (row_slice rows i) 6 0) (get_or (row_slice rows i) 8 0) =
    (gives_entry (read_result s R F).header st.context.address st.context.cache (length st.refs)).each st.at _ x.end (omega (arith, f.0, f.1)) x.item_is in
    rw (number_row_slice rows i 0 (omega arith), number_row_slice rows i 6 (omega arith), number_row_slice rows i 8 (omega arith)) m
