-- The plan input of a good record is bounded, so no sum that the writer computes exceeds 64 bits.
-- Assumes nothing.
use Rattle.std.specs.Prelude.{◌≡◌, ℕ, ◌/◌, ◌%◌, ◌^◌, ◌≤◌, ◌<◌, List}
use Rattle.std.proofs.Common.{inl, inr, lit<, lit≤, arith}
use Rattle.encode.specs.Encode.{gap, width_code}
use Rattle.encode.specs.Widths.{max_lt}
use Rattle.encode.proofs.Widths.{code_lt, refs_code_lt}
use Rattle.table.specs.Rows.{Rec}
use Rattle.table.specs.declared.Row.{Row}
use Rattle.phd.specs.Phd.{max_address}
use Rattle.phd.specs.Shapes.{ValidBits}
use Rattle.phd.specs.declared.cache.Cache.{Cache}
use Rattle.phd.specs.declared.Header.{Header}
use Rattle.phd_check.specs.WellFormed.{GoodKind, a_class, an_object, an_array, a_primitive, GoodRec}
use Rattle.phd_plan.specs.FormChoice.{Bounded, plan_input}
use Rattle.phd_encode.specs.TagBits.{find_slot_le}

-- For both values of W, here w: an address takes W / 8 bytes, 4 to 8, and the highest address fits them.
pub record AddressSize (w : ℕ) : Type 0 where
  pub max_address_fits : max_address w < 256 ^ (w / 8)
  pub some : 1 ≤ w / 8
  pub least : 256 ^ 4 ≤ 256 ^ (w / 8)
  pub most : w / 8 ≤ 8
  pub max_address_fits_8 : max_address w < 256 ^ 8

-- `AddressSize` holds for W 32 and W 64.
pub address_size_of : (w : ℕ) → ValidBits w → AddressSize w
unfolding max_address
address_size_of w (inl e) = rw e (record { max_address_fits = lit< tt; some = lit≤ tt; least = lit≤ tt; most = lit≤ tt; max_address_fits_8 = lit< tt })
address_size_of w (inr e) = rw e (record { max_address_fits = lit< tt; some = lit≤ tt; least = lit≤ tt; most = lit≤ tt; max_address_fits_8 = lit< tt })

-- The type of a good row is below 8.
pub prim_lt : (r : Row) (name : List ℕ) → GoodKind r name → r.prim < 8
prim_lt r name (a_class _ _ _ _ e _ _ _) = omega arith
prim_lt r name (an_object _ _ _ e _) = omega arith
prim_lt r name (an_array _ _ _ _ e _) = omega arith
prim_lt r name (a_primitive _ _ _ _ _ l _) = l

-- The plan input of a good record, after a record at a good address, is `Bounded`.
pub good_plan_input_bounded : (h : Header) (c : Cache) (before index : ℕ) (r : Rec)
    → ValidBits h.bits → GoodRec h index r → before % 4 ≡ 0 → before ≤ max_address h.bits
    → Bounded (plan_input c before r.row r.refs)
unfolding plan_input
good_plan_input_bounded h c before index r w g bf bl =
    let d : ℕ = width_code (gap before r.row.address) in
    record {
      slot_le = find_slot_le c r.row.class;
      count_lt = g.few;
      gap_lt = code_lt _;
      ref_lt = refs_code_lt 0 _ _ (lit< tt);
      pair_lt = max_lt d _ 4 (code_lt _) (code_lt _);
      prim_lt = prim_lt r.row r.name g.kind_good;
    }
