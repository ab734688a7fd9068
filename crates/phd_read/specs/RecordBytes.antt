-- The minimum and maximum size of a record, and the most rows and references that a dump of a given length can give.
-- A reader must believe the numbers of "the bounds", `RowBytesBounds` and the statements.
use Rattle.std.specs.Prelude.{◌≡◌, refl, ℕ, ◌+◌, ◌-◌, ◌*◌, ◌/◌, ◌≤◌, ◌<◌, false, ◌⊎◌, List, [], ◌∷◌, ◌++◌, eqb}
use Rattle.std.proofs.Common.{arith, inl, inr, lit<}
use Rattle.std.proofs.Math.ListN.{length}
use Rattle.decode.specs.Layout.{Layout, Outcome, whole, stops, run}
use Rattle.decode.specs.Fields.{no_string}
use Rattle.decode.specs.Values.{Refuses}
use Rattle.decode.specs.Takes.{Takes, takes_yield, takes_refuse, takes_then, takes_then_any, takes_weaken, takes_cases, takes_field, takes_raw, takes_check, takes_exactly, takes_below}
use Rattle.table.specs.Table.{row_width, row_count, row_slice, number, number_row_slice}
use Rattle.table.specs.Rows.{row_at, without_place}
use Rattle.phd.specs.Phd.{magic, magic_bytes, preamble, header_records, header, empty_cache, push, RecordContext, item, entry, State, phd, capacity, read_result}
use Rattle.phd.specs.ReadCases.{unfold_all}
use Rattle.phd_header.specs.HeaderOutcomes.{header_bits}
use Rattle.phd.specs.Shapes.{ValidBits, record_bytes_ge, record_bytes_le}
use Rattle.phd.specs.declared.cache.Cache.{Cache}
use Rattle.phd.specs.declared.Header.{Header}
use Rattle.phd.specs.declared.Span.{Span}
use Rattle.reader.specs.DumpBounds.{LeastBytes}
use Rattle.reader.proofs.DumpBounds as AnyFormat
use Rattle.phd_read.specs.RecordLayout.{HasLayout, bare_row, entry_has_layout}
use Rattle.phd_read.specs.PhdLaws.{phd_lawful, phd_always}
use Rattle.phd_read.specs.RowTags.{phd_row_origins}
use Rattle.phd_read.specs.ReadReplies.{RefusalsOnly, refusal_bounds, header_refusals, entry_refusals}

-- ---- the bounds

-- The minimum size of a header, in bytes.
abbrev pub header_min : ℕ
header_min = 31

-- The minimum size of a record with `refs` references: its tag, a gap of one byte, and one byte for each reference.
abbrev pub record_min : ℕ → ℕ
record_min refs = 2 + refs

-- The maximum size of a record with a name of `namelen` bytes and `refs` references.
abbrev pub record_max : (namelen refs : ℕ) → ℕ
record_max namelen refs = 34 + namelen + refs * 8

-- The maximum number of rows that a dump of n bytes gives.
abbrev pub max_rows : ℕ → ℕ
max_rows n = (n - header_min) / record_min 0

-- The maximum number of references that a dump of n bytes gives.
abbrev pub max_refs : ℕ → ℕ
max_refs n = n - header_min

-- ---- the header

takes_magic : Takes (λ _ n. n ≡ 18) magic_bytes
unfolding magic_bytes
takes_magic = takes_then _ _ _ (takes_raw 18) (λ text n e. takes_weaken (takes_check 3 _) (λ _ m k. omega (arith, e.0, k.0)))

takes_preamble : Takes (λ _ n. n ≡ 29) preamble
unfolding preamble
takes_preamble =
    takes_then _ _ _ (takes_exactly 2 18 3) (λ _ n e. takes_then _ _ _ takes_magic (λ _ n₁ e₁.
    takes_then _ _ _ (takes_exactly 4 6 4) (λ _ n₂ e₂. takes_then _ _ _ (takes_below 4 8 5) (λ flags n₃ e₃.
    takes_then _ _ _ (takes_exactly 1 1 6) (λ _ n₄ e₄. takes_yield flags (omega (arith, e, e₁, e₂, e₃, e₄)))))))

takes_header_records : Takes (λ _ n. 1 ≤ n) header_records
unfolding header_records
takes_header_records =
    takes_then _ _ _ (takes_field 1) (λ tag n e. takes_cases (eqb tag 2) _ _ (λ _. takes_yield no_string (omega (arith, e.0)))
    (λ _. takes_cases (eqb tag 4) _ _
    (λ _. takes_then_any _ _ (λ vm n₁. takes_then_any _ _ (λ _ n₂. takes_yield vm (omega (arith, e.0)))))
    (λ _. takes_refuse 6)))

-- A header has at least 31 bytes.
takes_header : Takes (λ (_ : Header) n. header_min ≤ n) header
unfolding header
takes_header =
    takes_then _ _ _ takes_preamble (λ flags n e. takes_then _ _ _ takes_header_records (λ vm n₁ e₁.
    takes_then _ _ _ (takes_exactly 1 2 6) (λ _ n₂ e₂. takes_yield _ (omega (arith, e, e₁, e₂)))))

-- ---- a record

-- The bytes from `offset` to `end`, those of the record of row i, lie within the bounds. (Number 6 of a row is its count of
-- references, 10 the length of its name.)
pub record RowBytesBounds (rows : List ℕ) (i : ℕ) (offset end : ℕ) : Type 0 where
  pub least : offset + record_min (number rows i 6) ≤ end
  pub most : end ≤ offset + record_max (number rows i 10) (number rows i 6)

module _ (h : Header) (before : ℕ) (c : Cache) (index : ℕ) (s : List ℕ) (at : ℕ) (r rs : List ℕ) (sp : Span) (k : RecordContext) (e : ℕ)
    (g : run (entry h before c index) s at ≡ whole (item r rs sp k) e) where
  has_layout : (n : ℕ) × (e ≡ at + n) × HasLayout h before c (bare_row r) rs n
  has_layout = entry_has_layout h before c index s at r rs sp k e g

  entry_ge_record_min : at + record_min (bare_row r).count ≤ e
  entry_ge_record_min =
      let l = has_layout.2 in
      omega (arith, has_layout.1, l.bytes, record_bytes_ge (h.bits / 8) l.form l.tag l.flags (bare_row r) l.fits.count)

  entry_bytes : ValidBits h.bits → RowBytesBounds r 0 at e
  unfolding without_place row_at
  entry_bytes w =
      let l = has_layout.2 in
      let b = record_bytes_le (h.bits / 8) l.form l.tag l.flags (bare_row r) (narrow w) in
      record { least = entry_ge_record_min; most = omega (arith, has_layout.1, l.bytes, b) }
    where
      narrow : ValidBits h.bits → h.bits / 8 ≤ 8
      narrow (inl e) = rw e (omega arith)
      narrow (inr e) = rw e (omega arith)

  entry_ge_stored : at + (row_count r * record_min 0 + length rs) ≤ e
  unfolding row_count
  entry_ge_stored =
      let n : length r ≡ row_width = phd_always h (record { address = before; cache = c }) index s at r rs sp k e g in
      omega (arith, entry_ge_record_min, has_layout.2.fits.refs_count, n)

-- ---- a reading

phd_min_bytes : LeastBytes phd header_min (record_min 0)
phd_min_bytes = record {
  header = λ s h n e. let x = takes_header.each s 0 h n e in omega (arith, x.1, x.2);
  entry = λ h c index s at r rs m k e g. entry_ge_stored h c.address c.cache index s at r rs m k e g;
}

-- A dump has at least two bytes after the header for each stored row, and one for each stored reference.
pub stored_fits_dump : (s : List ℕ) (R F : ℕ) → row_count (read_result s R F).rows * record_min 0 + length (read_result s R F).refs ≤ length s - header_min
stored_fits_dump s R F = AnyFormat.stored_bound phd phd_lawful header_min (record_min 0) phd_min_bytes s (capacity R F)

-- Replies above 12 occur only if the tables are smaller than the bounds.
module _ (s : List ℕ) (R F n : ℕ) (above : 12 < n) where
  not_refused : {A : Type 0} {l : Layout A} → RefusalsOnly l → Refuses (λ r. r ≡ n → ⊥) l
  not_refused g = record { each = λ s at r e z. omega (arith, (refusal_bounds r (g.each s at r e)).1) }

  never_reply : (max_rows (length s) * row_width ≤ R) ⊎ (13 ≡ n → ⊥) → (max_refs (length s) ≤ F) ⊎ (14 ≡ n → ⊥) → (read_result s R F).reply ≡ n → ⊥
  never_reply p q =
      AnyFormat.reply_when_enough phd phd_lawful header_min (record_min 0) phd_min_bytes s (capacity R F) (lit< tt) (λ r. r ≡ n → ⊥) (λ e. omega arith) (λ e. omega arith) (λ e. omega arith)
      (not_refused header_refusals) (λ h c index. not_refused (entry_refusals h c.address c.cache index)) p q

-- With capacity for `max_rows` rows, reply 13 does not occur.
pub max_rows_enough : (s : List ℕ) (R F : ℕ) → max_rows (length s) * row_width ≤ R → (read_result s R F).reply ≡ 13 → ⊥
max_rows_enough s R F l = never_reply s R F 13 (lit< tt) (inl l) (inr (λ e. omega arith))

-- With capacity for `max_refs` references, reply 14 does not occur.
pub max_refs_enough : (s : List ℕ) (R F : ℕ) → max_refs (length s) ≤ F → (read_result s R F).reply ≡ 14 → ⊥
max_refs_enough s R F l = never_reply s R F 14 (lit< tt) (inr (λ e. omega arith)) (inl l)

-- The bytes of each stored row's record, from its offset to its end, lie within the bounds.
pub row_bytes : (s : List ℕ) (R F i : ℕ) (l : i < row_count (read_result s R F).rows)
    → let x = (phd_row_origins s R F).each i l in RowBytesBounds (read_result s R F).rows i x.before.at x.end
row_bytes s R F i l =
    let rows : List ℕ = (read_result s R F).rows in
    let x = (phd_row_origins s R F).each i l in
    let st : State = x.before in
    let w = header_bits s (read_result s R F).header x.start x.header_whole in
    let b = entry_bytes (read_result s R F).header st.context.address st.context.cache (length st.refs) s st.at (row_slice rows i) x.list x.note x.context x.end x.item_is w in
    record {
      least = rw (number_row_slice rows i 6 (omega arith)) b.least;
      most = rw (number_row_slice rows i 6 (omega arith), number_row_slice rows i 10 (omega arith)) b.most;
    }

-- ---- examples that reach the bounds

-- The offset after the bytes that were read; 0 if reading stops.
abbrev end_of : {A : Type 0} → Outcome A → ℕ
end_of (whole a e) = e
end_of (stops w) = 0

-- A header of 31 bytes, without a VM string.
abbrev small_header : List ℕ
small_header = 0x00 ∷ 0x12 ∷ magic ++ 0x00 ∷ 0x00 ∷ 0x00 ∷ 0x06 ∷ 0x00 ∷ 0x00 ∷ 0x00 ∷ 0x01 ∷ 0x01 ∷ 0x02 ∷ 0x02 ∷ []

-- A short object without references.
abbrev small_object : List ℕ
small_object = 0x80 ∷ 0x04 ∷ []

-- A short object with one reference of one byte.
abbrev small_with_ref : List ℕ
small_with_ref = 0x88 ∷ 0x04 ∷ 0x01 ∷ []

-- An object array with a gap of 8 bytes, a class word of 8, a hash of 4, and `count` references of 8 bytes each, with the bytes
-- `refs`.
abbrev large_array : ℕ → List ℕ → List ℕ
large_array count refs =
    0x08 ∷ 0xF2 ∷ 0x00 ∷ 0x00 ∷ 0x00 ∷ 0x00 ∷ 0x00 ∷ 0x00 ∷ 0x04 ∷ 0x00 ∷ 0x00 ∷ 0x00 ∷ 0x00 ∷ 0x00 ∷ 0x00 ∷ 0x00 ∷ 0x10 ∷ 0x00
    ∷ 0x12 ∷ 0x34 ∷ 0x56 ∷ 0x78 ∷ 0x00 ∷ 0x00 ∷ 0x00 ∷ count
    ∷ refs ++ 0x00 ∷ 0x00 ∷ 0x00 ∷ 0x06 ∷ 0x00 ∷ 0x00 ∷ 0x00 ∷ 0x03 ∷ []

abbrev header_64 : Header
header_64 = record { bits = 64; hashed = false; openj9 = false; vm = no_string }

-- The offset after a record that is read at 0, after a record at the address 0x1000, with the class word 0x1000 in slot 0.
abbrev entry_end : List ℕ → ℕ
entry_end s = end_of (run (entry header_64 0x1000 (push empty_cache 0x1000) 0) s 0)

-- The bounds of headers and records are exact: these examples reach them.
pub bounds_met : (end_of (run header small_header 0) ≡ header_min)
    × (entry_end small_object ≡ record_min 0) × (entry_end small_with_ref ≡ record_min 1)
    × (entry_end (large_array 0 []) ≡ record_max 0 0) × (entry_end (large_array 1 (0x00 ∷ 0x00 ∷ 0x00 ∷ 0x00 ∷ 0x00 ∷ 0x00 ∷ 0x00 ∷ 0x01 ∷ [])) ≡ record_max 0 1)
unfolding unfold_all
bounds_met = (refl, refl, refl, refl, refl)
