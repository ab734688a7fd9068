-- The outcomes of a write: which check decides, and how a size query agrees with it.
-- Assumes nothing.
use Rattle.std.specs.Prelude.{◌≡◌, ◌⊎◌, ℕ, ◌≤◌, ◌<◌, Bool, true, false, ◌&&◌, List, [], ◌∷◌, ◌++◌, length, leb, None}
use Rattle.std.proofs.Math.Path.{refl, ap}
use Rattle.std.proofs.Common.{sym, ◌∙◌, inl, inr, append_assoc, le-leb, leb-true, leb-false}
use Rattle.std.proofs.Math.Bool.{and_self}
use Rattle.std.proofs.lemmas.Bool.{lt-leb}
use Rattle.decode.specs.Values.{and_left, and_right}
use Rattle.encode.specs.Encode.{be}
use Rattle.table.specs.Rows.{Rec}
use Rattle.table.specs.CheckOrder.{WriteResult, done, checked_write, checked_input, CheckReplies, check_replies}
use Rattle.table.specs.SizeQuery.{QueryAgrees, query_refused, query_size, query_too_large, query_agrees_by as by_query}
use Rattle.table.specs.declared.Answer.{Answer}
use Rattle.table.specs.declared.Row.{Row}
use Rattle.phd.specs.Phd.{limit}
use Rattle.phd.specs.declared.cache.Cache.{Cache}
use Rattle.phd.specs.declared.Header.{Header}
use Rattle.phd_check.specs.GoodRows.{good_header, first_bad, TablesGood}
use Rattle.phd_encode.specs.EncodeRecord.{encode_record, cache_after}
use Rattle.phd_write.specs.Write.{encode_records, fits_capacity, write_rows, write_rows_size}
use Rattle.phd_write.specs.WriteTerms.{dump_of, TooLong, EndsWithEndTag}

-- ---- end tag

-- If ys ends with the end tag, so does xs ++ ys.
pub ends_append : (xs ys : List ℕ) → EndsWithEndTag ys → EndsWithEndTag (xs ++ ys)
ends_append xs ys e = record { before = xs ++ e.before; all = append_assoc xs e.before (3 ∷ []) ∙ ap (λ (l : List ℕ). xs ++ l) e.all }

-- Encoded records end with the end tag.
pub encode_records_end : (h : Header) (before : ℕ) (c : Cache) (rs : List Rec) → EndsWithEndTag (encode_records h before c rs)
unfolding encode_records be
encode_records_end h before c [] = record { before = []; all = refl }
encode_records_end h before c (r ∷ rs) = ends_append (encode_record h before c r) _ (encode_records_end h r.row.address (cache_after h before c r) rs)

-- ---- outcomes

-- Conjunction of tests: if both hold it holds, and it fails exactly if one of them fails.
and_of : (a b : Bool) → a ≡ true → b ≡ true → a && b ≡ true
and_of a b p q = rw (p, q)

and_false_of : (a b : Bool) → (a ≡ false) ⊎ (b ≡ false) → a && b ≡ false
and_false_of a b (inl p) = rw p
and_false_of true b (inr p) = p
and_false_of false b (inr p) = refl

and_false_cases : (a b : Bool) → a && b ≡ false → (a ≡ false) ⊎ (b ≡ false)
and_false_cases true b e = inr e
and_false_cases false b e = inl refl

-- A dump within the capacity and the size limit passes the test.
pub fits_capacity_true : (out_capacity : ℕ) (dump : List ℕ) → length dump ≤ out_capacity → length dump ≤ limit → fits_capacity out_capacity dump ≡ true
unfolding fits_capacity
fits_capacity_true out_capacity dump l m = and_of _ _ (le-leb _ _ l) (le-leb _ _ m)

-- A dump that is too long fails the test.
pub fits_capacity_false : (out_capacity : ℕ) (dump : List ℕ) → TooLong out_capacity dump → fits_capacity out_capacity dump ≡ false
unfolding fits_capacity
fits_capacity_false out_capacity dump (inl p) = and_false_of (leb (length dump) out_capacity) (leb (length dump) limit) (inl (lt-leb (length dump) out_capacity p))
fits_capacity_false out_capacity dump (inr p) = and_false_of (leb (length dump) out_capacity) (leb (length dump) limit) (inr (lt-leb (length dump) limit p))

-- A dump that passes the test is within the capacity and the size limit.
pub fits_capacity_bounds : (out_capacity : ℕ) (dump : List ℕ) → fits_capacity out_capacity dump ≡ true → (length dump ≤ out_capacity) × (length dump ≤ limit)
unfolding fits_capacity
fits_capacity_bounds out_capacity dump e =
    (leb-true _ _ (and_left (leb (length dump) out_capacity) (leb (length dump) limit) e), leb-true _ _ (and_right (leb (length dump) out_capacity) (leb (length dump) limit) e))

-- A dump that fails the test is too long.
pub fits_capacity_fails : (out_capacity : ℕ) (dump : List ℕ) → fits_capacity out_capacity dump ≡ false → TooLong out_capacity dump
unfolding fits_capacity
fits_capacity_fails out_capacity dump e = by (and_false_cases (leb (length dump) out_capacity) (leb (length dump) limit) e)
  where
    by : (leb (length dump) out_capacity ≡ false) ⊎ (leb (length dump) limit ≡ false) → TooLong out_capacity dump
    by (inl p) = inl (leb-false _ _ p)
    by (inr p) = inr (leb-false _ _ p)

module _ (h : Header) (names refs : List ℕ) (rows : List Row) (out_capacity : ℕ) where
  abbrev dump : List ℕ
  dump = dump_of h names refs rows

  abbrev outcome : WriteResult
  outcome = write_rows h names refs rows out_capacity

  -- By the checks, each reply comes exactly in its case.
  pub write_by_checks : CheckReplies (good_header h names rows refs) (first_bad h names refs rows) None (fits_capacity out_capacity dump) dump outcome
  unfolding write_rows
  write_by_checks = check_replies _ _ _ _ _

  -- With reply 0 the tables are good, the dump is within the capacity and the size limit, and the result is the dump.
  pub reply_0_means : outcome.answer.reply ≡ 0 → (TablesGood h names refs rows) × (length dump ≤ out_capacity) × (length dump ≤ limit) × (outcome ≡ done dump)
  reply_0_means z =
      let g = write_by_checks.all_good.0 z in
      let l = fits_capacity_bounds out_capacity dump g.3 in
      ((g.0, g.1), l.0, l.1, write_by_checks.written z)

-- ---- size query

module _ (h : Header) (names refs : List ℕ) (rows : List Row) where
  -- If the check of header or rows refuses, the size query gives the same answer.
  pub check_refusal : (w : Answer) → w ≡ checked_input (good_header h names rows refs) (first_bad h names refs rows) → (w.reply ≡ 0 → ⊥) → w ≡ write_rows_size h names refs rows
  unfolding write_rows_size
  check_refusal w e z = query_refused _ _ _ _ _ w e z

  -- For good tables whose dump is over the size limit, the size query answers 17.
  pub size_over_limit : TablesGood h names refs rows → limit < length (dump_of h names refs rows) → record { reply = 17; place = 0 } ≡ write_rows_size h names refs rows
  unfolding write_rows_size
  size_over_limit a l = query_too_large _ _ _ _ _ a.0 a.1 refl (lt-leb _ _ l)

  -- For good tables whose dump is within the size limit, it answers 0 and the size of the dump.
  pub size_within_limit : TablesGood h names refs rows → length (dump_of h names refs rows) ≤ limit
      → record { reply = 0; place = length (dump_of h names refs rows) } ≡ write_rows_size h names refs rows
  unfolding write_rows_size
  size_within_limit a l = query_size _ _ _ _ _ a.0 a.1 refl (le-leb _ _ l)

  -- A size query answers as a write with an output as long as the size limit.
  pub size_query_as_write : write_rows_size h names refs rows ≡ (write_rows h names refs rows limit).answer
  unfolding write_rows write_rows_size fits_capacity
  size_query_as_write =
      ap (λ b. (checked_write (good_header h names rows refs) (first_bad h names refs rows) None b (dump_of h names refs rows)).answer)
      (sym (and_self (leb (length (dump_of h names refs rows)) limit)))

  -- A size query agrees with a write of the same rows into an output of any capacity.
  pub size_query_agrees : (w : Answer) (out_capacity : ℕ) → w ≡ write_rows_size h names refs rows → QueryAgrees w out_capacity (write_rows h names refs rows out_capacity)
  unfolding write_rows write_rows_size fits_capacity
  size_query_agrees w out_capacity e = by_query _ _ _ _ _ w out_capacity e
