-- The bytes of a compact record are those of its five fields, and `is_compact` recognizes one.
use mathlib.Core.Path.{◌≡◌, refl, sym, ap, ◌∙◌}
use Prim.Native.Nat.{ℕ, ◌≤◌}
use mathlib.Core.Bool.{Bool, true, cond}
use mathlib.Core.List.{List, [], ◌∷◌, ◌++◌, append-nil, append_assoc}
use lib.ListN.{length}
use native.Mathlib.Omega.{arith}
use Rattle.std.proofs.Common.{length-append}
use lib.Dec.{leb, ltb, eqb}
use borrow.Author.Tests.{leb-true, eqb-true, le-ltb}
use Rattle.encode.specs.Encode.{be, gap, twos_complement, encode_ref_list}
use Rattle.encode.specs.SetsLaws.{sets_append}
use Rattle.phd.specs.Phd.{hash_bytes}
use Rattle.phd_plan.specs.declared.Plan.{Plan}
use Rattle.phd_check.specs.WellFormed.{all_true_at}
use Rattle.table.specs.declared.Row.{Row}
use Rattle.phd_check.proofs.CheckLaws.{all_of, all_of_all_true}
use Rattle.phd_encode.specs.EncodeRecord.{encode_tag, encode_front, encode_middle, encode_name, encode_refs, encode_tail, encode_fields, encode_planned, Compact}

-- ---- compact plans

-- The tests of `is_compact` after that of the tag.
abbrev pub compact_tests : Plan → ℕ → List Bool
compact_tests p n =
    let sh = p.shape in
    eqb sh.len 0
    ∷ eqb sh.inst 0
    ∷ eqb sh.superclass 0
    ∷ eqb sh.name 0
    ∷ eqb n 0
    ∷ eqb sh.countwidth 0
    ∷ eqb sh.size 0
    ∷ eqb sh.truelen 0
    ∷ []

-- A plan that passes the tests is compact.
pub compact_of_tests : (p : Plan) (n : ℕ) → all_of (leb 0x20 p.tag) (compact_tests p n) ≡ true → Compact p n
compact_of_tests p n e =
    let t = all_true_at _ (sym (all_of_all_true (leb 0x20 p.tag) (compact_tests p n)) ∙ e) in
    record {
      tag = leb-true _ _ (t 0);
      len = eqb-true _ _ (t 1);
      inst = eqb-true _ _ (t 2);
      superclass = eqb-true _ _ (t 3);
      name = eqb-true _ _ (t 4);
      unnamed = eqb-true _ _ (t 5);
      countwidth = eqb-true _ _ (t 6);
      size = eqb-true _ _ (t 7);
      truelen = eqb-true _ _ (t 8);
    }

-- A field of width 0 has no bytes.
be_zero_width : (n v : ℕ) → n ≡ 0 → be n v ≡ []
unfolding be
be_zero_width n v e = ap (λ (k : ℕ). be k v) e

-- A record with a tag of 0x20 or more has no flag byte.
no_flag_byte : (p : Plan) → 0x20 ≤ p.tag → be (cond (ltb p.tag 0x20) 1 0) p.flags ≡ []
unfolding be
no_flag_byte p h = rw (le-ltb p.tag 0x20 h)

-- A name of length 0 has no bytes.
no_name_bytes : (name : List ℕ) → length name ≡ 0 → name ≡ []
no_name_bytes [] e = refl
no_name_bytes (x ∷ name) e = absurd (omega arith)

-- A compact record consists of its tag, its gap, its class word, its hash and its references.
pub encode_compact_parts : (before : ℕ) (p : Plan) (r : Row) (refs name : List ℕ) → Compact p (length name)
    → encode_planned before p r refs name
    ≡ be 1 p.tag
    ++ be p.shape.gap (twos_complement (gap before r.address))
    ++ be p.shape.class r.class
    ++ be (hash_bytes r.hashkind) r.hash
    ++ encode_ref_list p.shape.refwidth r.address refs
unfolding encode_planned encode_tag encode_fields encode_front encode_middle encode_name encode_refs encode_tail
encode_compact_parts before p r refs name l =
    simp (
      no_flag_byte p l.tag,
      be_zero_width _ r.len l.len,
      be_zero_width _ r.size l.inst,
      be_zero_width _ r.class l.superclass,
      be_zero_width _ r.namelen l.name,
      no_name_bytes name l.unnamed,
      be_zero_width _ r.count l.countwidth,
      be_zero_width _ r.size l.size,
      be_zero_width _ r.len l.truelen,
      append-nil,
      append_assoc,
    )

-- The laws by which the check proves that the fields of a compact record are written in order.
pub ruleset compact_fields = (encode_compact_parts, sets_append, length-append)
