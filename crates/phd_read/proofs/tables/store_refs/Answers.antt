use Rattle.std.proofs.Common.{◌≡◌, sym, ◌∙◌, ◌+◌, ◌-◌, ℕ, length, length-set, arith}
use Rattle.decode.specs.Layout.{whole, run}
use Rattle.decode.specs.Fields.{ref_field}
use Rattle.phd.specs.Phd.{ref_list}
use Rattle.phd.specs.RefList.{ref_list_none}
use Rattle.phd_read.specs.StoredRefs.{values_of, values_next, no_ref_stops}
use Rattle.phd_read.proofs.StoreLaws.{stored_next, stored_all, is_read}
use Rattle.phd_read.proofs.tables.store_refs.Goals as goal

pub unwrap-requires : goal.unwrap-requires
unwrap-requires c =
    let a = c.args in
    let v = rw c.loop-r.invariant.0 at c.ref_field.ensures.reads.value in
    is_read c.ref_field.result _ (λ x e. no_ref_stops a.w a.base a.top a.s.now c.loop-r.d.at (length c.loop-r.refs - c.loop-r.r-index) (omega arith) c.loop-r.invariant.1 x (sym v ∙ e))

pub loop-r-preserved : goal.loop-r-preserved
loop-r-preserved c =
    let a = c.args in
    let refs = c.loop-r.refs in
    let i = c.loop-r.r-index in
    let left = length refs - i in
    let is : whole c.unwrap.result c.ref_field.new.self.at ≡ run (ref_field a.w a.base a.top) a.s.now c.loop-r.d.at = rw (c.unwrap.ensures, c.loop-r.invariant.0) at c.ref_field.ensures.reads.value in
    let v = values_next a.w a.base a.top a.s.now c.loop-r.d.at left (omega arith) c.loop-r.invariant.1 _ _ (sym is) in
    let d : length refs - (i + 1) ≡ left - 1 = omega arith in (
      c.ref_field.ensures.reads.same ∙ c.loop-r.invariant.0,
      rw (length-set, d) v.0,
      stored_next refs i (λ (n : ℕ). values_of (run (ref_list a.w a.base a.top n) a.s.now c.ref_field.new.self.at))
          (λ (n : ℕ). values_of (run (ref_list a.w a.base a.top n) a.s.now a.at)) _ (omega arith) (rw v.1 at c.loop-r.invariant.2),
    )

pub returns : goal.returns
returns c =
    let a = c.args in
    let e : length a.refs.now ≡ length c.loop-r.refs = omega arith in
    rw e
    (stored_all c.loop-r.refs c.loop-r.r-index (λ (n : ℕ). values_of (run (ref_list a.w a.base a.top n) a.s.now c.loop-r.d.at))
    (λ (n : ℕ). values_of (run (ref_list a.w a.base a.top n) a.s.now a.at)) (omega arith) (omega arith) (rw ref_list_none) c.loop-r.invariant.2)
