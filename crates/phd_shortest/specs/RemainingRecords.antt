-- In a reading of a written dump, the records from number i on remain before record number i, and the first of them is read next.
-- Assumes nothing.
use Rattle.std.specs.Prelude.{◌≡◌, refl, ℕ, zero, suc, ◌+◌, ◌%◌, ◌≤◌, length, drop}
use Rattle.std.proofs.Common.{sym, ap, subst, ◌∙◌, add-one, arith, length-append, drop-drop}
use mathlib.Core.List.{List, [], ◌∷◌, ◌++◌, append_assoc}
use Rattle.decode.specs.Layout.{Outcome, whole, stops}
use Rattle.table.specs.Rows.{Rec, rec_of, recs, nth}
use Rattle.table.specs.declared.Row.{Row}
use Rattle.phd.specs.Phd.{max_address, RecordContext, make_context, Item, end_item, item, State, Transition, phd, capacity, go, halt, step, initial_state}
use Rattle.phd.specs.Shapes.{ValidBits}
use Rattle.phd.specs.declared.Header.{Header}
use Rattle.phd.specs.declared.Span.{Span}
use Rattle.reader.specs.Reader.{next_item, append_item}
use Rattle.reader.specs.Steps.{step_end}
use Rattle.reader.proofs.Steps.{step_cases}
use Rattle.reader.specs.RowOrigins.{StateAfter}
use Rattle.encode.specs.Encode.{be}
use Rattle.phd_encode.specs.EncodeRecord.{encode_record, cache_after}
use Rattle.phd_write.specs.Write.{encode_records}
use Rattle.phd_round_trip.specs.CutRecordLaws.{AllGood}
use Rattle.phd_round_trip.specs.PrefixReading.{decode_end_tag}
use Rattle.phd_round_trip.specs.RecordRoundTrip.{refs_place, decoded_row, decode_encode_record}

-- ---- lists

drop_next : (i : ℕ) (rs : List Rec) (r : Rec) (rest : List Rec) → drop i rs ≡ r ∷ rest → drop (suc i) rs ≡ rest
drop_next i rs r rest e = sym (rw (e, add-one) at (drop-drop 1 i rs))

-- Record number i of a list of rows is the record of row number i.
pub nth_rec : (names refs : List ℕ) (rows : List Row) (i : ℕ) (r : Rec) (rs : List Rec) → drop i (recs names refs rows) ≡ r ∷ rs
    → r ≡ rec_of names refs (nth rows i)
unfolding recs
nth_rec names refs [] zero r rs e = let z : ◌≡◌ {A = ℕ} 0 1 = cc in absurd (omega arith)
nth_rec names refs [] (suc i) r rs e = let z : ◌≡◌ {A = ℕ} 0 1 = cc in absurd (omega arith)
nth_rec names refs (row ∷ rows) zero r rs e = cc
nth_rec names refs (row ∷ rows) (suc i) r rs e = nth_rec names refs rows i r rs e

-- ---- states of the reading

-- From the offset of the state st on, the dump s consists of the bytes of the good records rs and the end tag.
pub record RecordsRemain (h : Header) (s : List ℕ) (st : State) (rs : List Rec) : Type 0 where
  pub bits : ValidBits h.bits
  pub pre : List ℕ
  pub place : length pre ≡ st.at
  pub dump : s ≡ pre ++ encode_records h st.context.address st.context.cache rs
  pub good : AllGood h (length st.refs) rs
  pub aligned : st.context.address % 4 ≡ 0
  pub most : st.context.address ≤ max_address h.bits

module _ (h : Header) (s : List ℕ) where
  -- If no record remains, the end tag is found.
  end_found : (st : State) → RecordsRemain h s st [] → next_item phd h s st ≡ whole end_item (st.at + 1)
  unfolding encode_records be
  end_found st a = rw a.dump ((decode_end_tag h st.context.address st.context.cache (length st.refs) st.at).reads a.pre [] a.place)

  -- The first record that remains.
  module _ (st : State) (r : Rec) (rs : List Rec) (a : RecordsRemain h s st (r ∷ rs)) where
    -- Its bytes.
    abbrev pub encoded : List ℕ
    encoded = encode_record h st.context.address st.context.cache r

    -- The context after it: its address and the cache.
    abbrev pub context_after : RecordContext
    context_after = make_context r.row.address (cache_after h st.context.address st.context.cache r)

    -- The bytes after it.
    abbrev pub bytes_after : List ℕ
    bytes_after = encode_records h context_after.address context_after.cache rs

    pub dump_split : s ≡ a.pre ++ (encoded ++ bytes_after)
    unfolding encode_records
    dump_split = a.dump

    -- The next item that is read is this record.
    pub finds_record : next_item phd h s st
        ≡ whole (item (decoded_row h st.at st.context.address st.context.cache r) r.refs (refs_place h st.at st.context.address st.context.cache r) context_after) (st.at + length encoded)
    finds_record =
        rw dump_split
        ((decode_encode_record h st.context.address st.context.cache (length st.refs) r st.at a.bits a.good.0.good a.aligned a.most).reads a.pre bytes_after a.place)

    -- The state after it, in which the other records remain.
    abbrev next_state : State
    next_state = append_item st (decoded_row h st.at st.context.address st.context.cache r) r.refs context_after (st.at + length encoded)

    remain_next : RecordsRemain h s next_state rs
    remain_next =
        let e : length (st.refs ++ r.refs) ≡ length st.refs + r.row.count = rw (length-append st.refs r.refs, a.good.0.good.count) in
        record {
          bits = a.bits;
          pre = a.pre ++ encoded;
          place = rw (length-append a.pre encoded, a.place);
          dump = dump_split ∙ sym (append_assoc a.pre encoded bytes_after);
          good = rw e a.good.1;
          aligned = a.good.0.good.aligned;
          most = a.good.0.good.most;
        }

    abbrev StepRemains : Transition → Type 0
    StepRemains (go st') = RecordsRemain h s st' rs
    StepRemains (halt x) = Unit {0}

    -- The state after reading one item with that outcome.
    abbrev state_found : Outcome Item → State
    state_found (whole (item row refs sp k) n) = append_item st row refs k n
    state_found (whole end_item n) = st
    state_found (stops x) = st

    step_remains : (R F : ℕ) → StepRemains (step h s R F st)
    step_remains R F =
        step_cases phd StepRemains h s (capacity R F) st (λ n e. tt)
        (λ row refs sp k n e p q. let x : append_item st row refs k n ≡ next_state = ap state_found (sym e ∙ finds_record) in subst (λ (y : State). RecordsRemain h s y rs) (sym x) remain_next)
        tt tt (λ x e. tt)

  -- A step to another state leaves one record fewer.
  remain_step : (R F : ℕ) (st st' : State) (rs : List Rec) → RecordsRemain h s st rs → step h s R F st ≡ go st' → (r : Rec) × (rest : List Rec) × (rs ≡ r ∷ rest) × RecordsRemain h s st' rest
  remain_step R F st st' [] a e =
      let x = step_end phd h s (capacity R F) st (st.at + 1) (end_found st a) in
      let y : halt _ ≡ go st' = sym x ∙ e in
      let z : ◌≡◌ {A = ℕ} 0 1 = cc in
      absurd (omega arith)
  remain_step R F st st' (r ∷ rs) a e = (r, rs, refl, rw e at (step_remains st r rs a R F))

  -- After i records, those from number i on remain.
  pub remain_after : (R F n : ℕ) (rs : List Rec) → RecordsRemain h s (initial_state n) rs → (i : ℕ) (st : State) → StateAfter phd h s (capacity R F) n i st → RecordsRemain h s st (drop i rs)
  remain_after R F n rs a zero st t = subst (λ (y : State). RecordsRemain h s y rs) (sym t) a
  remain_after R F n rs a (suc i) st t =
      let b = remain_after R F n rs a i t.0 t.1 in
      let o = remain_step R F t.0 st (drop i rs) b t.2 in
      rw (drop_next i rs o.0 o.1 o.2) o.3

  -- If a record is found, at least one remains.
  pub record_remains : (st : State) (rs : List Rec) → RecordsRemain h s st rs → (row refs : List ℕ) (sp : Span) (k : RecordContext) (n : ℕ) → next_item phd h s st ≡ whole (item row refs sp k) n
      → (r : Rec) × (rest : List Rec) × (rs ≡ r ∷ rest)
  record_remains st [] a row refs sp k n e =
      let y : whole end_item (st.at + 1) ≡ whole (item row refs sp k) n = sym (end_found st a) ∙ e in
      let z : ◌≡◌ {A = ℕ} 0 1 = cc in
      absurd (omega arith)
  record_remains st (r ∷ rs) a row refs sp k n e = (r, rs, refl)
