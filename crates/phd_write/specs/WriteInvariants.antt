-- Invariants of the loops that size and encode the rows: each holds at the start, a row preserves it, and at the end it gives the
-- contract.
-- Assumes nothing.
use Rattle.std.specs.Prelude.{◌≡◌, refl, ℕ, ◌+◌, ◌*◌, ◌^◌, ◌≤◌, ◌<◌, List, [], ◌++◌, cond, length, None}
use Rattle.std.proofs.Math.Path.{ap}
use Rattle.std.proofs.Common.{◌∙◌, append-nil, length-append}
use native.Mathlib.Omega.{arith}
use Rattle.encode.specs.Encode.{be}
use Rattle.encode.specs.NumberRoundTrip.{length_be}
use Rattle.encode.specs.Wrote.{Wrote, HasRoom, room_first, Remains, remains_start, remains_next, remains_room, remains_done}
use Rattle.encode.specs.declared.encoder.Encoder.{Encoder}
use Rattle.table.specs.Table.{row_count}
use Rattle.table.specs.Rows.{row_at, refs_of, name_of, recs, rows_of}
use Rattle.table.specs.declared.Row.{Row}
use Rattle.phd.specs.Phd.{max_address, empty_cache, push}
use Rattle.phd.specs.Shapes.{ValidBits}
use Rattle.phd.specs.declared.cache.Cache.{Cache}
use Rattle.phd.specs.declared.Header.{Header}
use Rattle.phd_check.specs.GoodRows.{first_bad}
use Rattle.phd_plan.specs.FormChoice.{Bounded, plan_input}
use Rattle.phd_plan.specs.declared.Plan.{Plan}
use Rattle.phd_encode.specs.EncodeRecord.{encode_planned, record_size}
use Rattle.phd_encode.specs.declared.sizes.EncodedSize.{EncodedSize}
use Rattle.phd_write.specs.Write.{encode_records}
use Rattle.phd_write.specs.RowSteps.{plan_row, bytes_left, nth_plan, nth_bytes, nth_size, cache_after_nth, BetweenRows, RowStep, row_step, bytes_left_end}

module _ (h : Header) (names refs table : List ℕ) where
  -- The bytes of all rows, and the end tag.
  abbrev pub all_bytes : List ℕ
  all_bytes = encode_records h 0 empty_cache (recs names refs (rows_of table))

  -- `BetweenRows` holds before the first row.
  between_start : first_bad h names refs (rows_of table) ≡ None → BetweenRows h names refs table 0 0 0
  unfolding max_address
  between_start e = record { at_most = omega arith; none = e; aligned = refl; most = omega arith }

  -- ---- size of the rows, after a header of `header` bytes

  -- Before row i, `total` and the bytes left add up to the size of the dump, and `total` is bounded.
  pub record SizeLoop (header i before total : ℕ) (c : Cache) : Type 0 where
    pub index : ℕ
    pub between : BetweenRows h names refs table i index before
    pub few : index ≤ length refs
    pub small : total ≤ 65570 + i * 65664 + index * 8
    pub sum : total + length (bytes_left h names refs table i before c) ≡ header + length all_bytes

  -- The invariant holds at the start.
  pub size_loop_start : (header : ℕ) → header < 65570 → first_bad h names refs (rows_of table) ≡ None → SizeLoop header 0 0 header empty_cache
  size_loop_start header l e = record { index = 0; between = between_start e; few = omega arith; small = omega arith; sum = refl }

  -- Adding the size of row i preserves the invariant.
  pub size_loop_step : (header i before total : ℕ) (c : Cache) → ValidBits h.bits → SizeLoop header i before total c → i < row_count table
      → SizeLoop header (i + 1) (row_at table i).address (total + nth_size h names refs table i before c) (cache_after_nth h names refs table i before c)
  size_loop_step header i before total c w z l =
      let n : RowStep h names refs table i z.index before c = row_step h names refs table i z.index before c w z.between l in
      let r : Row = row_at table i in
      let b = n.first_is_index in
      let s = n.in_bounds.span in
      let m = n.size_small in
      let t : total + length (nth_bytes h names refs table i before c ++ bytes_left h names refs table (i + 1) r.address (cache_after_nth h names refs table i before c)) ≡ header + length all_bytes = rw n.more at z.sum in
      let u = n.size in
      record {
        index = z.index + r.count;
        between = n.between;
        few = omega arith;
        small = omega arith;
        sum = omega (arith, rw length-append at t);
      }

  -- After the last row, `total` and the end tag are the size of the dump.
  pub size_loop_end : (header i before total : ℕ) (c : Cache) → SizeLoop header i before total c → row_count table ≤ i → total + 1 ≡ header + length all_bytes
  size_loop_end header i before total c z l = rw (bytes_left_end h names refs table i before c l, length_be) at z.sum

  -- ---- encoding the rows with an encoder that was `first` before them

  -- Before row i, the bytes left remain to be written by the encoder as it is now, and its output can hold all of them.
  pub record EncodeLoop (first : Encoder) (i before : ℕ) (c : Cache) (now : Encoder) : Type 0 where
    pub index : ℕ
    pub between : BetweenRows h names refs table i index before
    pub rest : Remains first now all_bytes (bytes_left h names refs table i before c)
    pub room : HasRoom first all_bytes

  -- The invariant holds at the start.
  pub encode_loop_start : (e : Encoder) → HasRoom e all_bytes → first_bad h names refs (rows_of table) ≡ None → EncodeLoop e 0 0 empty_cache e
  encode_loop_start e l g = record { index = 0; between = between_start g; rest = remains_start e all_bytes; room = l }

  module _ (first : Encoder) (i before : ℕ) (c : Cache) (now : Encoder) (z : EncodeLoop first i before c now) where
    -- Row i exists.
    module _ (w : ValidBits h.bits) (l : i < row_count table) where
      -- What holds of row i.
      this_step : RowStep h names refs table i z.index before c
      this_step = row_step h names refs table i z.index before c w z.between l

      -- The bytes that remain after row i.
      abbrev after_row : List ℕ
      after_row = bytes_left h names refs table (i + 1) (row_at table i).address (cache_after_nth h names refs table i before c)

      -- The bytes that remain are those of row i and those after it.
      progress_split : Remains first now all_bytes (nth_bytes h names refs table i before c ++ after_row)
      progress_split = rw this_step.more at z.rest

      -- The output can hold row i.
      pub encode_loop_room : HasRoom now (nth_bytes h names refs table i before c)
      encode_loop_room = room_first now (nth_bytes h names refs table i before c) after_row (remains_room progress_split z.room)

      -- Writing row i preserves the invariant.
      pub encode_loop_step : (next : Encoder) → Wrote now next (nth_bytes h names refs table i before c)
          → EncodeLoop first (i + 1) (row_at table i).address (cache_after_nth h names refs table i before c) next
      encode_loop_step next p = record { index = z.index + (row_at table i).count; between = this_step.between; rest = remains_next after_row progress_split p; room = z.room }

    -- No row is left.
    module _ (l : row_count table ≤ i) where
      -- The end tag is all that remains.
      last : Remains first now all_bytes (be 1 3 ++ [])
      last = rw (append-nil (be 1 3)) (rw (bytes_left_end h names refs table i before c l) at z.rest)

      -- The output can hold the end tag.
      pub end_tag_room : HasRoom now (be 1 3)
      end_tag_room = room_first now (be 1 3) [] (remains_room last z.room)

      -- Writing the end tag completes the rows.
      pub encode_loop_end : (next : Encoder) → Wrote now next (be 1 3) → Wrote first next all_bytes
      encode_loop_end next p = remains_done (remains_next [] last p)

  -- ---- the next row in the functions' variables: r is the row, p its plan

  module _ (i index before : ℕ) (c : Cache) (n : RowStep h names refs table i index before c) (r : Row) (e : r ≡ row_at table i) where
    -- The references of the row lie within their table.
    pub row_refs_in_bounds : r.first + r.count ≤ length refs
    row_refs_in_bounds = rw e n.in_bounds.span

    -- The name of the row lies within the name bytes.
    pub row_name_in_bounds : r.place + r.namelen ≤ length names
    row_name_in_bounds = rw e n.in_bounds.name_in_bounds

    -- The plan input of the row is bounded.
    pub row_plan_bounded : Bounded (plan_input c before r (refs_of refs r))
    row_plan_bounded = rw e n.bound

    -- The name of the row is below 2^16 bytes.
    pub row_name_short : r.namelen < 2 ^ 16
    row_name_short = rw e n.in_bounds.short

    -- s is the size of the record, and whether its class word is pushed.
    module _ (s : EncodedSize) (f : s ≡ record_size (plan_row h refs before c r) r) where
      -- s is the size of row i by its plan.
      sized_is : s ≡ record_size (nth_plan h names refs table i before c) (row_at table i)
      sized_is = f ∙ ap (λ (x : Row). record_size (plan_row h refs before c x) x) e

      -- The cache k after the row is `cache_after_nth`.
      cached_is : (k : Cache) → k ≡ cond s.cached (push c r.class) c → k ≡ cache_after_nth h names refs table i before c
      unfolding record_size
      cached_is k g = rw (sized_is, e) at g

      -- One iteration of `rows_size` preserves the invariant.
      pub size_loop_row : (header total : ℕ) (k : Cache) → k ≡ cond s.cached (push c r.class) c
          → ValidBits h.bits → SizeLoop header i before total c → i < row_count table → SizeLoop header (i + 1) r.address (total + s.size) k
      unfolding record_size
      size_loop_row header total k g w z l = rw (cached_is k g, sized_is, e) (size_loop_step header i before total c w z l)

      -- The new total is below 2^63, so the sum does not exceed 64 bits.
      pub size_loop_bound : (header total : ℕ) → SizeLoop header i before total c → i < row_count table
          → row_count table ≤ 2 ^ 30 → length refs ≤ 2 ^ 30 → total + s.size < 2 ^ 63
      unfolding record_size
      size_loop_bound header total z l rs fs =
          let a : s.size ≡ nth_size h names refs table i before c = ap (λ (x : EncodedSize). x.size) sized_is in
          let b = n.size_small in
          let d = n.in_bounds.few in
          let u = z.small in
          let v = z.few in
          omega arith

    module _ (p : Plan) (f : p ≡ plan_row h refs before c r) where
      -- p is the plan of row i.
      plan_is : p ≡ nth_plan h names refs table i before c
      plan_is = f ∙ ap (plan_row h refs before c) e

      -- The bytes that p gives are those of row i.
      bytes_is : encode_planned before p r (refs_of refs r) (name_of names r) ≡ nth_bytes h names refs table i before c
      bytes_is = rw (plan_is, e)

      -- The cache k after the row is `cache_after_nth`.
      cache_is : (k : Cache) → k ≡ cond p.shape.cached (push c r.class) c → k ≡ cache_after_nth h names refs table i before c
      cache_is k g = rw (plan_is, e) at g

      -- One iteration of `encode_rows` preserves the invariant.
      pub encode_loop_row : (first now : Encoder) → EncodeLoop first i before c now → ValidBits h.bits → i < row_count table
          → (next : Encoder) (k : Cache) → Wrote now next (encode_planned before p r (refs_of refs r) (name_of names r))
          → k ≡ cond p.shape.cached (push c r.class) c → EncodeLoop first (i + 1) r.address k next
      encode_loop_row first now z w l next k a j = rw (cache_is k j, e) (encode_loop_step first i before c now z w l next (rw bytes_is at a))

      -- The output can hold the record that the iteration writes.
      pub encode_loop_row_room : (first now : Encoder) → EncodeLoop first i before c now → ValidBits h.bits → i < row_count table
          → HasRoom now (encode_planned before p r (refs_of refs r) (name_of names r))
      encode_loop_row_room first now z w l = rw bytes_is (encode_loop_room first i before c now z w l)
