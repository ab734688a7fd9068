-- Laws of the bytes of records, and of the records within a cut.
-- Assumes nothing.
use Rattle.std.specs.Prelude.{◌≡◌, ℕ, ◌+◌, ◌≤◌, ◌<◌}
use Rattle.std.proofs.Math.Path.{refl}
use mathlib.Core.List.{List, [], ◌∷◌}
use Rattle.std.proofs.Math.ListN.{length}
use Rattle.std.proofs.Common.{length-append, lit<, arith, le-leb}
use Rattle.std.proofs.lemmas.Bool.{lt-leb}
use Rattle.encode.specs.Encode.{be}
use Rattle.table.specs.Rows.{Rec}
use Rattle.phd.specs.declared.cache.Cache.{Cache}
use Rattle.phd.specs.declared.Header.{Header}
use Rattle.phd_check.specs.WellFormed.{GoodRec}
use Rattle.phd_encode.specs.EncodeRecord.{encode_tag, encode_planned, plan_record, encode_record, cache_after}
use Rattle.phd_write.specs.Write.{encode_records}
use Rattle.phd_round_trip.specs.CutRecords.{within_cut, stop_in}

-- ---- good records

-- A good record without its name's place, as `recs` takes it from a table.
pub record GoodBareRecord (h : Header) (index : ℕ) (r : Rec) : Type 0 where
  pub good : GoodRec h index r
  pub place_zero : r.row.place ≡ 0

-- All records are good, and their references follow one another: those of the first begin at `index`, those of each other record
-- where those of the one before end.
abbrev pub AllGood : Header → ℕ → List Rec → Type 0
AllGood h index [] = Unit {0}
AllGood h index (r ∷ rs) = GoodBareRecord h index r × AllGood h (index + r.row.count) rs

-- ---- cuts

-- No record lies within a cut that ends before the first.
pub within_cut_none : (m : ℕ) (h : Header) (p before : ℕ) (c : Cache) (rs : List Rec) → m < p → within_cut m h p before c rs ≡ []
unfolding within_cut
within_cut_none m h p before c [] l = refl
within_cut_none m h p before c (r ∷ rs) l = rw (lt-leb (p + length (encode_record h before c r)) m (omega arith))

-- All records lie within a cut that contains them and the end tag.
pub within_cut_all : (m : ℕ) (h : Header) (p before : ℕ) (c : Cache) (rs : List Rec) → p + length (encode_records h before c rs) ≤ m
    → within_cut m h p before c rs ≡ rs
unfolding within_cut encode_records
within_cut_all m h p before c [] l = refl
within_cut_all m h p before c (r ∷ rs) l =
    let n : ℕ = length (encode_record h before c r) in
    let a = length-append (encode_record h before c r) (encode_records h r.row.address (cache_after h before c r) rs) in
    rw (le-leb (p + n) m (omega arith), within_cut_all m h (p + n) r.row.address (cache_after h before c r) rs (omega arith))

-- A reading stops after the end tag if the cut contains it.
pub stop_in_all : (m : ℕ) (h : Header) (p before : ℕ) (c : Cache) (rs : List Rec) → p + length (encode_records h before c rs) ≤ m
    → stop_in m h p before c rs ≡ p + length (encode_records h before c rs)
unfolding stop_in encode_records be
stop_in_all m h p before c [] l = rw (le-leb (p + 1) m l)
stop_in_all m h p before c (r ∷ rs) l =
    let n : ℕ = length (encode_record h before c r) in
    let a = length-append (encode_record h before c r) (encode_records h r.row.address (cache_after h before c r) rs) in
    rw (le-leb (p + n) m (omega arith)) (omega (arith, stop_in_all m h (p + n) r.row.address (cache_after h before c r) rs (omega arith)))

-- A record has at least one byte.
encode_record_pos : (h : Header) (before : ℕ) (c : Cache) (r : Rec) → 0 < length (encode_record h before c r)
unfolding encode_record encode_planned encode_tag be
encode_record_pos h before c r = omega arith

-- There are fewer records than bytes: each record has at least one byte, and the end tag is one.
pub records_lt_bytes : (h : Header) (before : ℕ) (c : Cache) (rs : List Rec) → length rs < length (encode_records h before c rs)
unfolding encode_records be
records_lt_bytes h before c [] = lit< tt
records_lt_bytes h before c (r ∷ rs) =
    let a = encode_record_pos h before c r in
    let b = records_lt_bytes h r.row.address (cache_after h before c r) rs in
    simp length-append (omega arith)

-- ---- headers with the same W

-- Of the header, only W affects the bytes of records.
module _ (h k : Header) (e : h.bits ≡ k.bits) where
  encode_record_same : (before : ℕ) (c : Cache) (r : Rec) → encode_record h before c r ≡ encode_record k before c r
  unfolding encode_record plan_record
  encode_record_same before c r = rw e

  cache_after_same : (before : ℕ) (c : Cache) (r : Rec) → cache_after h before c r ≡ cache_after k before c r
  unfolding cache_after plan_record
  cache_after_same before c r = rw e

  pub encode_records_same : (before : ℕ) (c : Cache) (rs : List Rec) → encode_records h before c rs ≡ encode_records k before c rs
  unfolding encode_records
  encode_records_same before c [] = refl
  encode_records_same before c (r ∷ rs) =
      rw (encode_record_same before c r, cache_after_same before c r, encode_records_same r.row.address (cache_after k before c r) rs)

  pub stop_in_same : (m p before : ℕ) (c : Cache) (rs : List Rec) → stop_in m h p before c rs ≡ stop_in m k p before c rs
  unfolding stop_in
  stop_in_same m p before c [] = refl
  stop_in_same m p before c (r ∷ rs) =
      rw (encode_record_same before c r, cache_after_same before c r, stop_in_same m (p + length (encode_record k before c r)) r.row.address (cache_after k before c r) rs)

  pub within_cut_same : (m p before : ℕ) (c : Cache) (rs : List Rec) → within_cut m h p before c rs ≡ within_cut m k p before c rs
  unfolding within_cut
  within_cut_same m p before c [] = refl
  within_cut_same m p before c (r ∷ rs) =
      rw (encode_record_same before c r, cache_after_same before c r, within_cut_same m (p + length (encode_record k before c r)) r.row.address (cache_after k before c r) rs)

  -- Of the header, only W and the all-hashed flag affect whether records are good.
  module _ (f : h.hashed ≡ k.hashed) where
    good_record_same : (index : ℕ) (r : Rec) → GoodRec h index r → GoodRec k index r
    good_record_same index r g = record {
      aligned = g.aligned;
      most = rw (← e) g.most;
      class = rw (← e) g.class;
      first = g.first;
      count = g.count;
      few = g.few;
      refs = rw (← e) g.refs;
      namelen = g.namelen;
      all_hashed = rw (← f) g.all_hashed;
      not_all_hashed = rw (← f) g.not_all_hashed;
      hash = g.hash;
      kind_good = g.kind_good;
    }

    pub all_good_same : (index : ℕ) (rs : List Rec) → AllGood h index rs → AllGood k index rs
    all_good_same index [] g = tt
    all_good_same index (r ∷ rs) g =
        (record { good = good_record_same index r g.0.good; place_zero = g.0.place_zero }, all_good_same (index + r.row.count) rs g.1)
