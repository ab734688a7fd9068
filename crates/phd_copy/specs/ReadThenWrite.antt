-- If a reading of any bytes has read the header, its header and rows can be written and converted: with the dump as the name
-- bytes they pass every check. So a copy of a damaged dump is refused only if the output is too small or the size limit is
-- exceeded, and its text only if the output is too small or a class row is missing.
-- A reader must believe the records `WriteAfterRead` and `TextAfterRead`.
use Rattle.std.specs.Prelude.{◌≡◌, refl, ◌↔◌, ◌⊎◌, ℕ, ◌+◌, ◌*◌, ◌^◌, ◌≤◌, ◌<◌, Bool, true, false, not, ◌||◌, List, [], ◌∷◌, leb, ltb, eqb, length, take, drop, Some, None}
use Rattle.std.proofs.Common.{sym, ◌∙◌, inl, inr, arith, le-leb, lt-ltb}
use Rattle.std.proofs.Math.Decide.{dec_le}
use Rattle.std.proofs.Math.Seq.{take-append_seam}
use Rattle.decode.specs.Numbers.{all_within}
use Rattle.decode.specs.Layout.{reply_of, missing_of}
use Rattle.decode.specs.Fields.{no_string}
use Rattle.decode.specs.Values.{Gives, gives_yield, gives_refuse, gives_then, gives_then_any, gives_cond, true_not_false}
use Rattle.decode.specs.ByteValues.{AllBytes, StringAt, gives_string}
use Rattle.decode.specs.declared.StringSpan.{StringSpan}
use Rattle.table.specs.Table.{row_width, row_count}
use Rattle.table.specs.Rows.{rows_from, rows_of, length_rows}
use Rattle.table.specs.Buffer.{overwrite}
use Rattle.table.specs.Search.{first_row}
use Rattle.table.specs.Sums.{sum}
use Rattle.table.specs.CheckOrder.{WriteResult}
use Rattle.table.specs.declared.Row.{Row}
use Rattle.phd.specs.Phd.{limit, header_records, make_header, header, empty_header, Result, State, phd, capacity, read_result}
use Rattle.phd.specs.Shapes.{ValidBits}
use Rattle.phd.specs.declared.Header.{Header}
use Rattle.reader.specs.Reader.{no_records, ended, initial_state as initial_state_of}
use Rattle.reader.specs.Steps.{OnTransition, read_induction, read_over_limit}
use Rattle.reader.proofs.Steps.{step_cases}
use Rattle.phd_check.specs.GoodRows.{all_true, good_vm, good_header, first_bad_from, first_bad, TablesGood}
use Rattle.phd_read.specs.ReadContract.{read_answer, AfterRead}
use Rattle.phd_read.specs.declared.ReadAnswer.{ReadAnswer}
use Rattle.phd_read.specs.ReadTheorems.{sound, stored_bounds}
use Rattle.phd_header.specs.HeaderOutcomes.{header_bits}
use Rattle.phd_write.specs.Write.{write_rows, write_result}
use Rattle.phd_write.specs.WriteTerms.{dump_of, TooLong}
use Rattle.phd_write.specs.WriteTheorems as WriteTheorems
use Rattle.classic.specs.ClassicText.{class_missing, text_of, text_rows, text_result}
use Rattle.classic_write.specs.TextTheorems as TextTheorems
use Rattle.phd_copy.specs.ReadRows.{good_context_start}
use Rattle.phd_copy.specs.GoodTables.{GoodState, good_state_step}

-- ---- the header

-- The VM string, if there is one, lies in the dump and has only allowed bytes.
abbrev VmInDump : List ℕ → StringSpan → Type 0
VmInDump s t = t.present ≡ true → StringAt s 0x20 0 t

at_is_not_notfound : {P : Type 0} {i : ℕ} → Some i ≡ None → P
at_is_not_notfound e = let z : ◌≡◌ {A = ℕ} 0 1 = cc in absurd (omega arith)

gives_vm : {s : List ℕ} → AllBytes s → Gives s (VmInDump s) header_records
unfolding header_records
gives_vm b =
    gives_then_any _ _ (λ tag. gives_cond (eqb tag 2) _ _ (gives_yield no_string (λ e. absurd (true_not_false (sym e)))) (gives_cond (eqb tag 4) _ _
    (gives_then _ _ _ (gives_string b 0x20 0) (λ vm k. gives_then_any _ _ (λ _. gives_yield vm (λ _. k))))
    (gives_refuse 6)))

gives_header : {s : List ℕ} → AllBytes s → Gives s (λ (h : Header). VmInDump s h.vm) header
unfolding header make_header
gives_header b = gives_then_any _ _ (λ flags. gives_then _ _ _ (gives_vm b) (λ vm k. gives_then_any _ _ (λ _. gives_yield _ k)))

vm_good : (s : List ℕ) (t : StringSpan) → VmInDump s t → good_vm s t ≡ true
unfolding good_vm all_true
vm_good s t k = by t.present k
  where
    by : (x : Bool) → (x ≡ true → StringAt s 0x20 0 t)
        → not x || all_true (ltb t.len 65536 ∷ leb (t.place + t.len) (length s) ∷ all_within 0x20 0x7E (take t.len (drop t.place s)) ∷ []) ≡ true
    by true k = let v = k refl in rw (lt-ltb _ _ v.short, le-leb _ _ v.inside, v.bytes)
    by false k = refl

bits_good : (w : ℕ) → ValidBits w → eqb w 32 || eqb w 64 ≡ true
bits_good w (inl e) = rw e
bits_good w (inr e) = rw e

header_good : (h : Header) (s rows refs : List ℕ) → ValidBits h.bits → VmInDump s h.vm → row_count rows ≤ 2 ^ 30 → length refs ≤ 2 ^ 30
    → good_header h s (rows_of rows) refs ≡ true
unfolding good_header all_true
header_good h s rows refs w v p q =
    rw (bits_good h.bits w, length_rows rows, le-leb (row_count rows) (2 ^ 30) p, le-leb (length refs) (2 ^ 30) q, vm_good s h.vm v)

-- ---- a reading

-- The header and the rows of a result are good.
record GoodResult (s : List ℕ) (r : Result) : Type 0 where
  pub bits : ValidBits r.header.bits
  pub vm : VmInDump s r.header.vm
  pub rows : first_bad r.header s r.refs (rows_of r.rows) ≡ None

module _ (s : List ℕ) (b : AllBytes s) (R F : ℕ) where
  -- The result is good if the header was read; otherwise W is 0.
  abbrev GoodIfHeader : Result → Type 0
  GoodIfHeader r = (r.header.bits ≡ 0 → ⊥) → GoodResult s r

  -- The invariant between records.
  abbrev GoodSoFar : Header → State → Type 0
  GoodSoFar h st = VmInDump s h.vm × GoodState h s st

  good_at_end : (h : Header) (st : State) (reply place missing : ℕ) → GoodSoFar h st → GoodIfHeader (ended h st reply place missing)
  unfolding ended
  good_at_end h st reply place missing g n = record { bits = g.1.bits; vm = g.0; rows = g.1.good }

  good_without_header : (reply missing : ℕ) → GoodIfHeader (no_records phd reply missing)
  unfolding no_records empty_header
  good_without_header reply missing n = absurd (n refl)

  good_result : GoodIfHeader (read_result s R F)
  unfolding initial_state_of rows_of rows_from row_count sum first_bad_from
  good_result =
      read_induction phd s (capacity R F) GoodSoFar GoodIfHeader (good_without_header 2 0) (λ w e. good_without_header (reply_of w) (missing_of w))
      (λ h n e. (
        (gives_header b).each 0 h n (omega arith) e,
        record {
          bits = header_bits s h n e;
          before = good_context_start h;
          whole_rows = refl;
          counts = refl;
          good = refl;
        },
      ))
      (λ h st g. step_cases phd (OnTransition (GoodSoFar h) GoodIfHeader) h s (capacity R F) st (λ n e. good_at_end h st 0 n 0 g)
      (λ r rs m c n e _ _. (g.0, good_state_step h s b st g.1 r rs m c n e))
      (good_at_end h st 13 st.at 0 g) (good_at_end h st 14 st.at 0 g) (λ w e. good_at_end h st (reply_of w) st.at (missing_of w) g))
      (λ h st g. good_at_end h st 0 st.at 0 g)

  -- If the header was read, the header and the rows pass every check of the writer and of the text.
  pub read_passes_checks : ((read_result s R F).header.bits ≡ 0 → ⊥) → TablesGood (read_result s R F).header s (read_result s R F).refs (rows_of (read_result s R F).rows)
  unfolding read_answer limit no_records empty_header
  read_passes_checks n = elim (dec_le (length s) limit) [
    | yes l ↦
        let g = good_result n in
        let m = stored_bounds s R F in
        (header_good (read_result s R F).header s (read_result s R F).rows (read_result s R F).refs g.bits g.vm (omega (arith, m.rows)) (omega (arith, m.refs)), g.rows)
    | no l ↦ absurd (n (rw (read_over_limit phd s (capacity R F) (omega arith))))
  ]

-- ---- calls of `read_tables`, `write` and `text`

-- The result of writing these tables: 17 if the dump is longer than the output or than the size limit, and no other refusal.
pub record WriteAfterRead (h : Header) (names refs : List ℕ) (rows : List Row) (out_capacity : ℕ) (w : WriteResult) : Type 0 where
  pub reply_cases : (w.answer.reply ≡ 0) ⊎ (w.answer.reply ≡ 17)
  pub done : (w.answer.reply ≡ 0) ↔ ((length (dump_of h names refs rows) ≤ out_capacity) × (length (dump_of h names refs rows) ≤ limit))
  pub too_small : (w.answer.reply ≡ 17) ↔ TooLong out_capacity (dump_of h names refs rows)

-- The result of converting them to text: 18 for the first row whose class row is missing, else 17 if the text is longer than the
-- output, and no other refusal.
pub record TextAfterRead (h : Header) (names refs : List ℕ) (rows : List Row) (out_capacity : ℕ) (w : WriteResult) : Type 0 where
  pub reply_cases : (w.answer.reply ≡ 0) ⊎ ((w.answer.reply ≡ 17) ⊎ (w.answer.reply ≡ 18))
  pub done : (w.answer.reply ≡ 0) ↔ ((first_row (class_missing rows) rows ≡ None) × (length (text_of h names refs rows) ≤ out_capacity))
  pub too_small : (w.answer.reply ≡ 17) ↔ ((first_row (class_missing rows) rows ≡ None) × (out_capacity < length (text_of h names refs rows)))
  pub no_class : (i : ℕ) → ((w.answer.reply ≡ 18) × (w.answer.place ≡ i)) ↔ (first_row (class_missing rows) rows ≡ Some i)

-- Tables that pass every check.
module _ (h : Header) (names refs : List ℕ) (rows : List Row) (a : TablesGood h names refs rows) (out_capacity : ℕ) where
  write_of_checked : WriteAfterRead h names refs rows out_capacity (write_rows h names refs rows out_capacity)
  write_of_checked = record {
    reply_cases = two x.reply_cases;
    done = (λ z. let y = x.done.0 z in (y.1, y.2), λ l. x.done.1 (a, l.0, l.1));
    too_small = (λ z. (x.too_small.0 z).1, λ l. x.too_small.1 (a, l));
  }
    where
      x : WriteTheorems.WriteReplies h names refs rows out_capacity (write_rows h names refs rows out_capacity)
      x = WriteTheorems.write_replies h names refs rows out_capacity

      two : (let n = (write_rows h names refs rows out_capacity).answer.reply in (n ≡ 0) ⊎ ((n ≡ 15) ⊎ ((n ≡ 16) ⊎ (n ≡ 17))))
          → (let n = (write_rows h names refs rows out_capacity).answer.reply in (n ≡ 0) ⊎ (n ≡ 17))
      two (inl e) = inl e
      two (inr (inl e)) = absurd (true_not_false (sym a.0 ∙ x.header.0 e))
      two (inr (inr (inl e))) = at_is_not_notfound (sym ((x.row _).0 (e, refl)).1 ∙ a.1)
      two (inr (inr (inr e))) = inr e

  text_of_checked : TextAfterRead h names refs rows out_capacity (text_rows h names refs rows out_capacity)
  text_of_checked = record {
    reply_cases = three x.reply_cases;
    done = (λ z. let y = x.done.0 z in (y.1, y.2), λ l. x.done.1 (a, l.0, l.1));
    too_small = (λ z. let y = x.too_small.0 z in (y.1, y.2), λ l. x.too_small.1 (a, l.0, l.1));
    no_class = λ i. (λ z. ((x.no_class i).0 z).1, λ l. (x.no_class i).1 (a, l));
  }
    where
      x : TextTheorems.TextReplies h names refs rows out_capacity (text_rows h names refs rows out_capacity)
      x = TextTheorems.text_replies h names refs rows out_capacity

      three : (let n = (text_rows h names refs rows out_capacity).answer.reply in (n ≡ 0) ⊎ ((n ≡ 15) ⊎ ((n ≡ 16) ⊎ ((n ≡ 17) ⊎ (n ≡ 18)))))
          → (let n = (text_rows h names refs rows out_capacity).answer.reply in (n ≡ 0) ⊎ ((n ≡ 17) ⊎ (n ≡ 18)))
      three (inl e) = inl e
      three (inr (inl e)) = absurd (true_not_false (sym a.0 ∙ x.header.0 e))
      three (inr (inr (inl e))) = at_is_not_notfound (sym ((x.row _).0 (e, refl)).1 ∙ a.1)
      three (inr (inr (inr e))) = inr e

-- A call of `read_tables` on any bytes that has read the header; `rows` and `refs` are as much of its tables as its answer counts.
module _ (dump : List ℕ) (b : AllBytes dump) (rows₀ refs₀ : List ℕ) (a : ReadAnswer) (rows' refs' : List ℕ) (r : AfterRead dump rows₀ refs₀ a rows' refs')
    (n : a.header.bits ≡ 0 → ⊥) where
  abbrev rows : List ℕ
  rows = take (a.rows * row_width) rows'

  abbrev refs : List ℕ
  refs = take a.refs refs'

  abbrev rd : Result
  rd = read_result dump (length rows₀) (length refs₀)

  rows_are : rows ≡ rd.rows
  unfolding overwrite
  rows_are = rw (r.is, r.row_table, (sound dump (length rows₀) (length refs₀)).rows_counted) (take-append_seam rd.rows _)

  refs_are : refs ≡ rd.refs
  unfolding overwrite
  refs_are = rw (r.is, r.ref_table, (sound dump (length rows₀) (length refs₀)).refs_counted) (take-append_seam rd.refs _)

  -- The header and the stored rows pass every check.
  pub tables_pass_checks : TablesGood a.header dump refs (rows_of rows)
  unfolding read_answer
  tables_pass_checks = rw (rows_are, refs_are, r.is) (read_passes_checks dump b (length rows₀) (length refs₀) (rw r.is at n))

  -- They can be passed to `write` unchanged, with the dump as the name bytes.
  pub write_after_read : (out_capacity : ℕ) → WriteAfterRead a.header dump refs (rows_of rows) out_capacity (write_result a.header dump refs rows out_capacity)
  write_after_read out_capacity = write_of_checked a.header dump refs (rows_of rows) tables_pass_checks out_capacity

  -- They can be passed to `text` unchanged, with the dump as the name bytes.
  pub text_after_read : (out_capacity : ℕ) → TextAfterRead a.header dump refs (rows_of rows) out_capacity (text_result a.header dump refs rows out_capacity)
  text_after_read out_capacity = text_of_checked a.header dump refs (rows_of rows) tables_pass_checks out_capacity
