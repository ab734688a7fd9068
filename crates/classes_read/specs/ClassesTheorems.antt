-- Theorems about the reading with a list of class summaries: what the list does to a reading, that enough entries do nothing to it, and
-- demand 3 with the list.
-- A reader must believe `ClassesCase`, `ClassesSound`, `FullAtTag`, `FinalWithClasses` and `ClassesPrefix`.
use Rattle.std.specs.Prelude.{◌≡◌, refl, ◌⊎◌, ℕ, suc, ◌+◌, ◌-◌, ◌*◌, ◌≤◌, ◌<◌, Bool, true, false, List, [], ◌++◌, eqb, length, take, drop}
use Rattle.std.proofs.Common.{sym, ◌∙◌, inl, inr, append-nil, take_all, eqb-true}
use Rattle.std.proofs.Math.Path.{ap}
use Rattle.std.proofs.Math.Decide.{dec_le}
use native.Mathlib.Omega.{arith}
use Rattle.std.proofs.Math.Seq.{take-append-add}
use Rattle.std.proofs.lemmas.Bool.{eqb-false}
use Rattle.table.specs.Table.{row_width, row_count}
use Rattle.table.specs.Rows.{rows_of, length_rows}
use Rattle.table.specs.declared.Row.{Row}
use Rattle.summaries.specs.Summaries.{keys, summaries}
use Rattle.summaries.specs.SummaryTotals.{length_is}
use Rattle.summaries.specs.KeyCounts.{keys_le, keys_grow}
use Rattle.phd.specs.Phd.{limit, Result, phd, read_result, capacity, no_records}
use Rattle.reader.specs.Steps.{read_over_limit}
use Rattle.reader.specs.Prefixes.{Prefix, Final, ResultPrefix}
use Rattle.reader.proofs.SmallerTables.{smaller_tables}
use Rattle.phd_read.specs.ReadContract.{read_answer}
use Rattle.phd_read.specs.ReadTheorems.{sound, prefix_agrees, stored_bounds}
use Rattle.phd_read.specs.RecordBytes.{max_rows}
use Rattle.classes_read.specs.ClassesRead.{rows_within, with_reply, classes_result}
use Rattle.classes_read.specs.RowsWithin.{within_all, within_fits, within_over, within_le, within_grow}
use Rattle.reader.specs.RowOrigins.{offset_of}
use Rattle.phd_read.specs.PhdLaws.{phd_lawful}
use Rattle.classes_read.specs.FullList.{cut_short}
use Rattle.classes_read.specs.RowLists.{rows_of_prefix}

-- ---- what the list does to a reading

-- The rows of a reading.
abbrev pub read_rows : List ℕ → ℕ → ℕ → List Row
read_rows s R F = rows_of (read_result s R F).rows

-- The result of a reading with a list of C entries: that of the reading into the tables alone, whose rows have at most C keys; or that of
-- the reading of its first n rows alone, of which the next one is over C keys, with reply 20.
pub data ClassesCase (s : List ℕ) (R F C : ℕ) : Type 0 where
  within : length (keys (read_rows s R F)) ≤ C → classes_result s R F C ≡ read_result s R F → ClassesCase s R F C
  over : (n : ℕ) → n < row_count (read_result s R F).rows → n ≡ rows_within C (read_rows s R F) → length (keys (take n (read_rows s R F))) ≤ C → C < length (keys (take (suc n) (read_rows s R F)))
      → classes_result s R F C ≡ with_reply 20 (read_result s (n * row_width) F) → ClassesCase s R F C

pub classes_case : (s : List ℕ) (R F C : ℕ) → ClassesCase s R F C
unfolding classes_result
classes_case s R F C = by (eqb (rows_within C (read_rows s R F)) (row_count (read_result s R F).rows)) refl
  where
    by : (b : Bool) → eqb (rows_within C (read_rows s R F)) (row_count (read_result s R F).rows) ≡ b → ClassesCase s R F C
    by true e =
        let q : rows_within C (read_rows s R F) ≡ row_count (read_result s R F).rows = eqb-true _ _ e in
        let t : take (rows_within C (read_rows s R F)) (read_rows s R F) ≡ read_rows s R F = take_all (rows_within C (read_rows s R F)) (read_rows s R F) (rw (length_rows (read_result s R F).rows) (omega arith)) in
        within (rw t at (within_fits C (read_rows s R F))) (rw e)
    by false e =
        let q : rows_within C (read_rows s R F) ≡ row_count (read_result s R F).rows → ⊥ = eqb-false _ _ e in
        let l : rows_within C (read_rows s R F) ≤ row_count (read_result s R F).rows = rw (length_rows (read_result s R F).rows) at (within_le C (read_rows s R F)) in
        let m : rows_within C (read_rows s R F) < row_count (read_result s R F).rows = omega arith in
        over (rows_within C (read_rows s R F)) m refl (within_fits C (read_rows s R F)) (within_over C (read_rows s R F) (rw (length_rows (read_result s R F).rows) m)) (rw e)

-- With entries for all rows of the reading into the tables alone, the list changes nothing. (The summaries of rows are as many as their keys.)
pub enough_entries : (s : List ℕ) (R F C : ℕ) → length (summaries (read_rows s R F)) ≤ C → classes_result s R F C ≡ read_result s R F
enough_entries s R F C l = by (classes_case s R F C)
  where
    k : length (keys (read_rows s R F)) ≤ C
    k = rw (← length_is (read_rows s R F)) l

    by : ClassesCase s R F C → classes_result s R F C ≡ read_result s R F
    by (within a e) = e
    by (over n m q a b e) =
        let f = within_all C (read_rows s R F) k in
        let g = length_rows (read_result s R F).rows in
        absurd (omega arith)

-- With an entry for each row that a dump of this length can give, reply 20 does not occur.
pub entries_never_full : (s : List ℕ) (R F C : ℕ) → max_rows (length s) ≤ C → classes_result s R F C ≡ read_result s R F
unfolding read_answer
entries_never_full s R F C l =
    let b = (stored_bounds s R F).rows in
    let k = keys_le (read_rows s R F) in
    let n = length_rows (read_result s R F).rows in
    enough_entries s R F C (rw (length_is (read_rows s R F)) (omega arith))

-- ---- demand 1

-- Properties of the result of a reading into tables of R numbers for rows and F for references, with a list of C entries.
pub record ClassesSound (r : Result) (R F C : ℕ) : Type 0 where
  -- The reply is one of 0 to 14, or 20.
  pub reply : (r.reply ≤ 14) ⊎ (r.reply ≡ 20)
  -- No more is stored than the tables and the list have capacity for.
  pub rows_fit : length r.rows ≤ R
  pub refs_fit : length r.refs ≤ F
  pub classes_fit : length (summaries (rows_of r.rows)) ≤ C

-- A reading into a smaller table stores a prefix.
rows_cut : (s : List ℕ) (R R' F : ℕ) → R' ≤ R → Prefix (read_result s R' F).rows (read_result s R F).rows
rows_cut s R R' F l = elim (dec_le (length s) limit) [
  | yes m ↦ rw (take_all (length s) s (omega arith)) at (prefix_agrees s (length s) (length s) R' R F F (omega arith) (rw (take_all (length s) s (omega arith)) m) l (omega arith)).rows
  | no m ↦
      let o : limit < length s = omega arith in
      let a = read_over_limit phd s (capacity R' F) o in
      let b = read_over_limit phd s (capacity R F) o in
      record { more = []; all = rw (a, b) (append-nil (no_records 2 0).rows) }
]

-- The rows of a prefix of whole rows are the first rows.
pub rows_first : (s s' : List ℕ) (R R' F F' : ℕ) → (p : Prefix (read_result s R F).rows (read_result s' R' F').rows)
    → read_rows s' R' F' ≡ read_rows s R F ++ drop (row_count (read_result s R F).rows) (read_rows s' R' F')
unfolding read_answer
rows_first s s' R R' F F' p = rw p.all at (rows_of_prefix (read_result s R F).rows p.more (row_count (read_result s R F).rows) (sym (sound s R F).rows_counted))

-- A list that begins another, of which the first n rows have at most C keys, has no more, if it has at most n rows.
few_keys : {C : ℕ} (xs more all : List Row) (n : ℕ) → all ≡ xs ++ more → length xs ≤ n → length (keys (take n all)) ≤ C → length (keys xs) ≤ C
few_keys xs more all n e l a =
    let t : take n all ≡ xs ++ take (n - length xs) more = rw e (let m : length xs + (n - length xs) ≡ n = omega arith in rw m at (take-append-add xs more (n - length xs))) in
    let g = keys_grow xs (take (n - length xs) more) in
    let b = rw t at a in
    omega arith

over_sound : (s : List ℕ) (R F C n : ℕ) → n < row_count (read_result s R F).rows → length (keys (take n (read_rows s R F))) ≤ C → ClassesSound (with_reply 20 (read_result s (n * row_width) F)) R F C
unfolding with_reply read_answer row_count
over_sound s R F C n m a =
    let f = (sound s R F).rows_fit in
    let g = (sound s (n * row_width) F).rows_fit in
    let k = (sound s (n * row_width) F).rows_counted in
    let l : n * row_width ≤ R = omega arith in
    let p = rows_cut s R (n * row_width) F l in
    let c : row_count (read_result s (n * row_width) F).rows ≤ n = omega arith in
    let t : read_rows s R F ≡ read_rows s (n * row_width) F ++ drop (row_count (read_result s (n * row_width) F).rows) (read_rows s R F) = rows_first s s (n * row_width) R F F p in
    record {
      reply = inr refl;
      rows_fit = omega arith;
      refs_fit = (sound s (n * row_width) F).refs_fit;
      classes_fit = rw (length_is (read_rows s (n * row_width) F)) (few_keys (read_rows s (n * row_width) F) (drop (row_count (read_result s (n * row_width) F).rows) (read_rows s R F)) (read_rows s R F) n t (rw (length_rows (read_result s (n * row_width) F).rows) c) a);
    }

-- Reading any bytes into tables and a list of any length satisfies `ClassesSound`.
pub classes_sound : (s : List ℕ) (R F C : ℕ) → ClassesSound (classes_result s R F C) R F C
classes_sound s R F C = by (classes_case s R F C)
  where
    by : ClassesCase s R F C → ClassesSound (classes_result s R F C) R F C
    by (within a e) = rw e (record { reply = inl (sound s R F).reply; rows_fit = (sound s R F).rows_fit; refs_fit = (sound s R F).refs_fit; classes_fit = rw (length_is (read_rows s R F)) a })
    by (over n m q a b e) = rw e (over_sound s R F C n m a)

-- ---- the place of reply 20

over_place : (s : List ℕ) (R F n : ℕ) → n < row_count (read_result s R F).rows → (with_reply 20 (read_result s (n * row_width) F)).place ≡ offset_of (read_result s R F).rows n
unfolding with_reply row_count
over_place s R F n m = let f = (sound s R F).rows_fit in (cut_short phd phd_lawful s R F n (omega arith) (omega arith)).place

-- Reply 20 is at the tag of a record whose row the reading into the tables stores; the rows before it have at most C keys, and with it
-- they have more.
pub record FullAtTag (s : List ℕ) (R F C : ℕ) (r : Result) : Type 0 where
  pub row : ℕ
  pub stored : row < row_count (read_result s R F).rows
  pub place : r.place ≡ offset_of (read_result s R F).rows row
  pub fits : length (keys (take row (read_rows s R F))) ≤ C
  pub no_entry : C < length (keys (take (suc row) (read_rows s R F)))

pub full_at_tag : (s : List ℕ) (R F C : ℕ) → (classes_result s R F C).reply ≡ 20 → FullAtTag s R F C (classes_result s R F C)
full_at_tag s R F C full = by (classes_case s R F C)
  where
    placed : (n : ℕ) → n < row_count (read_result s R F).rows → (with_reply 20 (read_result s (n * row_width) F)).place ≡ offset_of (read_result s R F).rows n
    placed n m = over_place s R F n m

    by : ClassesCase s R F C → FullAtTag s R F C (classes_result s R F C)
    by (within a e) =
        let t = (sound s R F).reply in
        let u : (read_result s R F).reply ≡ 20 = sym (ap (λ (x : Result). x.reply) e) ∙ full in
        absurd (omega arith)
    by (over n m q a b e) = rw e (record { row = n; stored = m; place = placed n m; fits = a; no_entry = b })

-- ---- demand 3, first part

-- A final reply, with a list: any but 1 (cut), and 13, 14 and 20 (no capacity) (docs/FORMAT.md 5.2).
abbrev pub FinalWithClasses : ℕ → Type 0
FinalWithClasses reply = Final reply × (reply ≡ 20 → ⊥)

-- Demand 3 for the readings of a shorter and a longer cut: the shorter's tables are prefixes of the longer's, and if its reply is final,
-- the results are equal. (The list of each is the summaries of its rows.)
pub record ClassesPrefix (shorter longer : Result) : Type 0 where
  pub rows : Prefix shorter.rows longer.rows
  pub refs : Prefix shorter.refs longer.refs
  pub same : FinalWithClasses shorter.reply → longer ≡ shorter

-- For any two prefixes of the same bytes, both within the size limit, the longer read into tables and a list at least as large.
module _ (b : List ℕ) (m n R R' F F' C C' : ℕ) (h : m ≤ n) (l : length (take n b) ≤ limit) (rs : R ≤ R') (fs : F ≤ F') (cs : C ≤ C') where
  abbrev S : List ℕ
  S = take m b

  abbrev T : List ℕ
  T = take n b

  -- With any capacity for rows.
  cut_prefix : (X Y : ℕ) → X ≤ Y → ResultPrefix (read_result S X F) (read_result T Y F')
  cut_prefix X Y x = prefix_agrees b m n X Y F F' h l x fs

  whole_prefix : ResultPrefix (read_result S R F) (read_result T R' F')
  whole_prefix = cut_prefix R R' rs

  -- At least as many rows of the longer are within its list.
  grows : rows_within C (read_rows S R F) ≤ rows_within C' (read_rows T R' F')
  grows =
      let t = rows_first S T R R' F F' whole_prefix.rows in
      rw t (within_grow C C' cs (read_rows S R F) (drop (row_count (read_result S R F).rows) (read_rows T R' F')))

  within_within : classes_result S R F C ≡ read_result S R F → classes_result T R' F' C' ≡ read_result T R' F' → ClassesPrefix (classes_result S R F C) (classes_result T R' F' C')
  within_within e f = rw (e, f) (record { rows = whole_prefix.rows; refs = whole_prefix.refs; same = λ z. whole_prefix.same z.0 })

  -- The shorter has entries for all its rows, the longer has not.
  module _ (a : length (keys (read_rows S R F)) ≤ C) (k : ℕ) (over_rows : k < row_count (read_result T R' F').rows) (is : k ≡ rows_within C' (read_rows T R' F')) where
    all_rows : row_count (read_result S R F).rows ≤ k
    all_rows =
        let w = within_all C (read_rows S R F) a in
        let g = grows in
        let c = length_rows (read_result S R F).rows in
        omega arith

    rows_short : length (read_result S R F).rows ≤ k * row_width
    unfolding read_answer
    rows_short = let c = (sound S R F).rows_counted in let r = all_rows in omega arith

    tables : Prefix (read_result S R F).rows (read_result T (k * row_width) F').rows × Prefix (read_result S R F).refs (read_result T (k * row_width) F').refs
    tables = elim (dec_le R (k * row_width)) [
      | yes y ↦ ((cut_prefix R (k * row_width) y).rows, (cut_prefix R (k * row_width) y).refs)
      | no y ↦
          let s = smaller_tables phd S R (k * row_width) F (omega arith) rows_short in
          let p = cut_prefix (k * row_width) (k * row_width) (omega arith) in
          (rw s.rows at p.rows, rw s.refs at p.refs)
    ]

    within_over_prefix : classes_result S R F C ≡ read_result S R F → classes_result T R' F' C' ≡ with_reply 20 (read_result T (k * row_width) F') → ClassesPrefix (classes_result S R F C) (classes_result T R' F' C')
    unfolding with_reply
    within_over_prefix e f = rw (e, f) (record {
      rows = tables.0;
      refs = tables.1;
      same = λ z. absurd (
          let q : row_count (read_result T R' F').rows ≡ row_count (read_result S R F).rows = ap (λ (x : Result). row_count x.rows) (whole_prefix.same z.0) in
          let r = all_rows in
          omega arith);
    })

  -- The shorter has not.
  over_prefix : (k : ℕ) → k < row_count (read_result S R F).rows → k ≡ rows_within C (read_rows S R F) → classes_result S R F C ≡ with_reply 20 (read_result S (k * row_width) F)
      → ClassesCase T R' F' C' → ClassesPrefix (classes_result S R F C) (classes_result T R' F' C')
  unfolding with_reply row_count
  over_prefix k x is e (within a f) =
      let p = cut_prefix (k * row_width) R' (let z = (sound S R F).rows_fit in omega arith) in
      rw (e, f) (record { rows = p.rows; refs = p.refs; same = λ z. absurd (z.1 refl) })
  over_prefix k x is e (over j y q u v f) =
      let g = grows in
      let p = cut_prefix (k * row_width) (j * row_width) (omega arith) in
      rw (e, f) (record { rows = p.rows; refs = p.refs; same = λ z. absurd (z.1 refl) })

  -- The theorem.
  pub classes_prefix : ClassesPrefix (classes_result S R F C) (classes_result T R' F' C')
  classes_prefix = by (classes_case S R F C) (classes_case T R' F' C')
    where
      by : ClassesCase S R F C → ClassesCase T R' F' C' → ClassesPrefix (classes_result S R F C) (classes_result T R' F' C')
      by (within a e) (within c f) = within_within e f
      by (within a e) (over k x q u v f) = within_over_prefix a k x q e f
      by (over k x q u v e) t = over_prefix k x q e t
