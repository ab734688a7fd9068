use Rattle.std.proofs.Common.{◌≡◌, ◌+◌, ◌*◌, ◌-◌, ◌≤◌, ◌<◌, ℕ, length, length-set, arith}
use Rattle.decode.specs.Layout.{run}
use Rattle.decode_fast.specs.RefsInRange.{gap_reach, refs_in_range_width, refs_in_range_low, refs_in_range_high}
use Rattle.phd.specs.Phd.{ref_list}
use Rattle.phd.specs.RefList.{ref_list_none}
use Rattle.phd_read.specs.StoredRefs.{values_of}
use Rattle.phd_read.proofs.InRangeLaws.{mul_pred, in_range_next}
use Rattle.phd_read.proofs.StoreLaws.{stored_next, stored_all}
use Rattle.phd_read.proofs.tables.store_refs_in_range.Goals as goal

pub read_ref_unchecked-requires : goal.read_ref_unchecked-requires
read_ref_unchecked-requires c =
    let a = c.args in
    let is = c.requires.1 in
    let l : c.loop-r.r-index < length c.loop-r.refs = omega arith in
    let m = mul_pred (length c.loop-r.refs - c.loop-r.r-index) a.w (omega arith) in
    let i = c.loop-r.invariant.0 in
    let n : a.w ≤ 4 = refs_in_range_width a.w a.base a.top is in
    let b : gap_reach a.w < a.base = refs_in_range_low a.w a.base a.top is in
    let e : a.base + gap_reach a.w < a.top = refs_in_range_high a.w a.base a.top is in
    (omega arith, n, omega arith, b, omega arith)

pub loop-r-preserved : goal.loop-r-preserved
loop-r-preserved c =
    let a = c.args in
    let refs = c.loop-r.refs in
    let i = c.loop-r.r-index in
    let left = length refs - i in
    let h : 0 < left = omega arith in
    let m : left * a.w ≡ (left - 1) * a.w + a.w = mul_pred left a.w h in
    let v = in_range_next a.w a.base a.top a.s.now c.requires.1 left c.loop-r.here h (let k = c.loop-r.invariant.0 in omega arith) in
    let d : length refs - (i + 1) ≡ left - 1 = omega arith in
    let k = c.loop-r.invariant.0 in (
      rw (length-set, d) (omega arith),
      rw c.read_ref_unchecked.ensures
          (stored_next refs i (λ (n : ℕ). values_of (run (ref_list a.w a.base a.top n) a.s.now (c.loop-r.here + a.w)))
          (λ (n : ℕ). values_of (run (ref_list a.w a.base a.top n) a.s.now a.at)) _ (omega arith) (rw v at c.loop-r.invariant.1)),
    )

pub returns : goal.returns
returns c =
    let a = c.args in
    let e : length a.refs.now ≡ length c.loop-r.refs = omega arith in
    rw e
    (stored_all c.loop-r.refs c.loop-r.r-index (λ (n : ℕ). values_of (run (ref_list a.w a.base a.top n) a.s.now c.loop-r.here))
    (λ (n : ℕ). values_of (run (ref_list a.w a.base a.top n) a.s.now a.at)) (omega arith) (omega arith) (rw ref_list_none) c.loop-r.invariant.1)
