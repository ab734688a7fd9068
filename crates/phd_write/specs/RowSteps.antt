-- One step of the loops that size and encode the rows: the bytes from a row of a table on, and what holds of that row.
-- Assumes nothing.
use Rattle.std.specs.Prelude.{◌≡◌, refl, List, ◌++◌, cond, length, None}
use Prim.Native.Nat.{ℕ, suc, ◌+◌, ◌*◌, ◌/◌, ◌%◌, ◌≤◌, ◌<◌}
use native.Mathlib.Omega.{arith}
use Rattle.encode.specs.Encode.{be}
use Rattle.phd.specs.Phd.{max_address, push}
use Rattle.phd.specs.Shapes.{ValidBits, WidthsLe8, shape_widths_le_8}
use Rattle.phd.specs.declared.cache.Cache.{Cache}
use Rattle.phd.specs.declared.Header.{Header}
use Rattle.table.specs.Rows.{row_at, refs_of, name_of, without_place, rec_of, recs, rows_left, rows_left_next, rows_left_none as rows_none}
use Rattle.table.specs.Table.{row_count}
use Rattle.phd_check.specs.GoodRows.{first_bad_from}
use Rattle.phd_check.specs.WellFormed.{GoodRec, SpansInBounds, spans_in_bounds, good_rec, none_bad, length_refs_of, length_name_of}
use Rattle.table.specs.declared.Row.{Row}
use Rattle.phd_plan.specs.FormChoice.{Bounded, plan_input, make_plan}
use Rattle.phd_plan.specs.declared.Plan.{Plan}
use Rattle.phd_encode.specs.EncodeRecord.{encode_front, encode_middle, encode_name, encode_refs, encode_tail, encode_fields, encode_planned, plan_record, encode_record, cache_after, plan_size}
use Rattle.phd_encode.specs.EncodedLengths.{length_encode_planned, plan_size_most}
use Rattle.phd_encode.specs.PlanBounds.{address_size_of, good_plan_input_bounded}
use Rattle.phd_write.specs.Write.{encode_records}

-- The plan of a row, with its references from the table `refs`.
abbrev pub plan_row : Header → List ℕ → ℕ → Cache → Row → Plan
plan_row h refs before c r = make_plan (h.bits / 8) (plan_input c before r (refs_of refs r))

-- The place of the name does not affect the bytes.
encode_planned_bare : (before : ℕ) (p : Plan) (r : Row) (refs name : List ℕ) → encode_planned before p (without_place r) refs name ≡ encode_planned before p r refs name
unfolding encode_planned encode_fields encode_front encode_middle encode_name encode_refs encode_tail without_place
encode_planned_bare before p r refs name = refl

module _ (h : Header) (names refs table : List ℕ) where
  -- The bytes of the rows from index i on, and the end tag.
  abbrev pub bytes_left : ℕ → ℕ → Cache → List ℕ
  bytes_left i before c = encode_records h before c (recs names refs (rows_left table i))

  -- The plan of row i, after a record at the address `before`, with the cache c.
  abbrev pub nth_plan : ℕ → ℕ → Cache → Plan
  nth_plan i before c = plan_row h refs before c (row_at table i)

  -- The bytes of that row.
  abbrev pub nth_bytes : ℕ → ℕ → Cache → List ℕ
  nth_bytes i before c = encode_planned before (nth_plan i before c) (row_at table i) (refs_of refs (row_at table i)) (name_of names (row_at table i))

  -- The size of that row.
  abbrev pub nth_size : ℕ → ℕ → Cache → ℕ
  nth_size i before c = plan_size (nth_plan i before c) (row_at table i)

  -- The cache after that row.
  abbrev pub cache_after_nth : ℕ → ℕ → Cache → Cache
  cache_after_nth i before c = cond (nth_plan i before c).shape.cached (push c (row_at table i).class) c

  -- What holds between two rows: the next one has index i, its references begin at `index`, and the record before it is at the
  -- address `before`.
  pub record BetweenRows (i index before : ℕ) : Type 0 where
    pub at_most : i ≤ row_count table
    pub none : first_bad_from h names refs i index (rows_left table i) ≡ None
    pub aligned : before % 4 ≡ 0
    pub most : before ≤ max_address h.bits

  -- What holds of the next row: it lies within the tables, its plan input and size are bounded, and the bytes left are its own,
  -- followed by those of the rows after it.
  pub record RowStep (i index before : ℕ) (c : Cache) : Type 0 where
    pub in_bounds : SpansInBounds names refs (row_at table i)
    pub bound : Bounded (plan_input c before (row_at table i) (refs_of refs (row_at table i)))
    pub first_is_index : (row_at table i).first ≡ index
    pub size : length (nth_bytes i before c) ≡ nth_size i before c
    pub size_small : nth_size i before c ≤ 65664 + (row_at table i).count * 8
    pub more : bytes_left i before c ≡ nth_bytes i before c ++ bytes_left (i + 1) (row_at table i).address (cache_after_nth i before c)
    pub between : BetweenRows (i + 1) (index + (row_at table i).count) (row_at table i).address

  -- Between two rows, `RowStep` holds of the next one.
  pub row_step : (i index before : ℕ) (c : Cache) → ValidBits h.bits → BetweenRows i index before → i < row_count table → RowStep i index before c
  unfolding recs encode_records rec_of without_place plan_record make_plan encode_record cache_after plan_input
  row_step i index before c w v l =
      let r : Row = row_at table i in
      let n = rows_left_next table i l in
      let b = none_bad h names refs i index r (rows_left table (i + 1)) (rw n at v.none) in
      let g : GoodRec h index (rec_of names refs r) = good_rec h names refs index r b.0 in
      let t : SpansInBounds names refs r = spans_in_bounds h names refs index r b.0 in
      let p : Plan = nth_plan i before c in
      let k : WidthsLe8 p.shape = shape_widths_le_8 _ _ _ _ (address_size_of h.bits w).most in
      let s : i + 1 ≡ suc i = omega arith in
      record {
        in_bounds = t;
        bound = good_plan_input_bounded h c before index (rec_of names refs r) w g v.aligned v.most;
        first_is_index = g.first;
        size = length_encode_planned before p r _ _ (length_refs_of refs r t.span) (length_name_of names r t.name_in_bounds);
        size_small = let z = plan_size_most p r k in let y = t.short in omega arith;
        more = rw (n, encode_planned_bare);
        between = record { at_most = omega arith; none = rw (← s) at b.1; aligned = g.aligned; most = g.most };
      }

  -- If no row is left, the end tag is.
  pub bytes_left_end : (i before : ℕ) (c : Cache) → row_count table ≤ i → bytes_left i before c ≡ be 1 3
  unfolding recs encode_records
  bytes_left_end i before c l = rw (rows_none table i l)
