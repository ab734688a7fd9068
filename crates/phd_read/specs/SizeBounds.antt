-- In every row stored from bytes the size and the count of references are below 2^32.
-- A reader must believe `SizeInBounds`.
use Rattle.std.specs.Prelude.{ℕ, ◌^◌, ◌≤◌, ◌<◌, List, length, get_or, eqb}
use Rattle.std.proofs.Common.{arith}
use Rattle.decode.specs.Values.{Gives, cond_elim, gives_yield, gives_then, gives_then_any, gives_cond, gives_count}
use Rattle.decode.specs.ByteValues.{AllBytes, gives_field}
use Rattle.phd.specs.Phd.{shape, middle, ref_count, tail, field_or, row, Item, end_item, item, from_ref_count, fields, record_body, from_tag, entry, State, read_result}
use Rattle.table.specs.Table.{row_count, row_slice, number, number_row_slice}
use Rattle.phd.specs.EntryLaws.{entry_gives}
use Rattle.phd.specs.declared.cache.Cache.{Cache}
use Rattle.phd.specs.declared.Header.{Header}
use Rattle.phd.specs.declared.Form.{Form}
use Rattle.phd.specs.declared.Form.TheVariants.{Short, Medium, Long, Class, ObjectArray, Primitive, LongPrimitive}
use Rattle.phd.specs.declared.Middle.{Middle}
use Rattle.phd.specs.declared.Origin.{Origin}
use Rattle.phd.specs.declared.Shape.{Shape}
use Rattle.phd.specs.declared.Tail.{Tail}
use Rattle.phd_read.specs.RecordProperties.{entry_advances}
use Rattle.phd_read.specs.RowTags.{phd_row_origins}

-- Bounds on the count of references and the size of a row.
pub record SizeInBounds (count size : ℕ) : Type 0 where
  pub count_below : count < 2 ^ 32
  pub size_below : size < 2 ^ 32

-- ---- a record

-- The count in the tag and the field of the size are small enough in every shape.
record SmallShape (sh : Shape) : Type 0 where
  pub tag_count : sh.count < 2 ^ 31
  pub size_field : 256 ^ sh.size ≤ 2 ^ 32

small_shape : (w : ℕ) (fm : Form) (t f : ℕ) → SmallShape (shape w fm t f)
unfolding shape
small_shape w Short t f = record { tag_count = omega arith; size_field = omega arith }
small_shape w Medium t f = record { tag_count = omega arith; size_field = omega arith }
small_shape w Long t f = record { tag_count = omega arith; size_field = omega arith }
small_shape w Class t f = record { tag_count = omega arith; size_field = omega arith }
small_shape w ObjectArray t f = record { tag_count = omega arith; size_field = omega arith }
small_shape w Primitive t f = record { tag_count = omega arith; size_field = omega arith }
small_shape w LongPrimitive t f = record { tag_count = omega arith; size_field = omega arith }

gives_inst : {s : List ℕ} (sh : Shape) (hb : ℕ) → Gives s (λ (m : Middle). m.inst < 2 ^ 31) (middle sh hb)
unfolding middle
gives_inst sh hb = gives_then _ _ _ (gives_count sh.inst) (λ inst l. gives_then_any _ _ (λ hash. gives_then_any _ _ (λ superclass. gives_yield _ l)))

gives_ref_count : {s : List ℕ} (n known : ℕ) → known < 2 ^ 31 → Gives s (λ v. v < 2 ^ 31) (ref_count n known)
unfolding ref_count
gives_ref_count n known l = gives_cond (eqb n 0) _ _ (gives_yield known l) (gives_count n)

gives_size : {s : List ℕ} → AllBytes s → (size truelen n : ℕ) → Gives s (λ (t : Tail). t.size < 256 ^ size) (tail size truelen n)
unfolding tail
gives_size b size truelen n = gives_then _ _ _ (gives_field b size) (λ z k. gives_then_any _ _ (λ t. gives_yield _ k))

-- The row of a record satisfies `SizeInBounds`.
abbrev ItemSizeInBounds : Item → Type 0
ItemSizeInBounds end_item = Unit {0}
ItemSizeInBounds (item r rs sp k) = SizeInBounds (get_or r 6 0) (get_or r 7 0)

gives_fields : {s : List ℕ} → AllBytes s → (top before : ℕ) (c : Cache) (origin : Origin) (known hk : ℕ) (sh : Shape) → SmallShape sh
    → Gives s ItemSizeInBounds (fields top before c origin known hk sh)
unfolding fields from_ref_count row field_or
gives_fields b top before c origin known hk sh small =
    gives_then_any _ _ (λ v. gives_then _ _ _ (gives_inst sh _) (λ m l. gives_then_any _ _ (λ name.
    gives_then _ _ _ (gives_ref_count sh.countwidth sh.count small.tag_count) (λ n k. gives_then_any _ _ (λ ls.
    gives_then _ _ _ (gives_size b sh.size sh.truelen n) (λ t p.
    gives_yield _ (record {
      count_below = omega arith;
      size_below = cond_elim (λ x. x < 2 ^ 32) (eqb sh.inst 0) t.size m.inst (omega (arith, small.size_field)) (omega arith);
    })))))))

gives_entry : {s : List ℕ} → AllBytes s → (h : Header) (before : ℕ) (c : Cache) (index : ℕ) → Gives s ItemSizeInBounds (entry h before c index)
unfolding from_tag record_body
gives_entry b h before c index = entry_gives h before c index (λ origin.
    gives_then_any _ _ (λ t. gives_cond (eqb t 3) _ _ (gives_yield end_item tt) (gives_then_any _ _ (λ fm. gives_then_any _ _ (λ known. gives_then_any _ _ (λ f.
    gives_fields b _ before c origin known _ _ (small_shape _ fm t f)))))))

-- ---- the tables of a reading

-- The rows that a reading of bytes stores satisfy `SizeInBounds`: number 6 of a row is its count of references, 7 its size.
pub read_sizes_in_bounds : (s : List ℕ) (R F : ℕ) → AllBytes s → (i : ℕ) → i < row_count (read_result s R F).rows
    → SizeInBounds (number (read_result s R F).rows i 6) (number (read_result s R F).rows i 7)
read_sizes_in_bounds s R F b i l =
    let rows : List ℕ = (read_result s R F).rows in
    let x = (phd_row_origins s R F).each i l in
    let st : State = x.before in
    let f = entry_advances (read_result s R F).header st.context.address st.context.cache (length st.refs) s st.at _ x.end x.item_is in
    let m : SizeInBounds (get_or (row_slice rows i) 6 0) (get_or (row_slice rows i) 7 0) =
    (gives_entry b (read_result s R F).header st.context.address st.context.cache (length st.refs)).each st.at _ x.end (omega (arith, f.0, f.1)) x.item_is in
    rw (number_row_slice rows i 6 (omega arith), number_row_slice rows i 7 (omega arith)) m
