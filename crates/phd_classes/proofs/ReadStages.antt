-- A reading with class summaries, batch by batch, as the loop of `read_from` goes.
-- Assumes nothing.
use Rattle.std.proofs.Common.{◌≡◌, ◌⊎◌, ℕ, ◌+◌, ◌-◌, ◌*◌, ◌≤◌, false, List, [], length, take, drop, inl, inr, refl, sym, ap, subst, ◌∙◌, arith}
use Rattle.std.specs.Prelude.{replicate, Result as Res, Ok, Err}
use Rattle.std.proofs.Math.Seq.{length-take-le, drop-drop}
use Rattle.table.specs.Buffer.{overwrite}
use Rattle.table.specs.Table.{row_width, row_count}
use Rattle.table.specs.Rows.{row_at, rows_from, rows_of}
use Rattle.summaries.specs.declared.Summary.{Summary}
use Rattle.summaries.specs.Summaries.{keyed, keys_from, keys, summaries}
use Rattle.summary_index.specs.declared.Bucket.{Bucket}
use Rattle.summary_index.specs.SummaryIndex.{empty}
use Rattle.summary_pass.specs.declared.Tally.{Tally}
use Rattle.summary_pass.specs.PassState.{TallyHolds, ListHolds, CanCount, Counted, SizedAll, keys_counted}
use Rattle.phd.specs.Phd.{phd, Result}
use Rattle.phd.specs.declared.Header.{Header}
use Rattle.reader.specs.Reader.{ended}
use Rattle.reader.specs.TableSteps.{state_of}
use Rattle.reader.specs.ManySteps.{no_steps, more_steps}
use Rattle.reader.specs.declared.End.{End}
use Rattle.phd_read.specs.PhdLaws.{phd_lawful}
use Rattle.phd_read.specs.PhdSteps.{cursor_of, ManySteps, Continued, UpToContract, initial_cursor}
use Rattle.phd_read.specs.ReadContract.{read_answer}
use Rattle.phd_read.specs.declared.records.Cursor.{Cursor}
use Rattle.classes_read.specs.declared.ClassesAnswer.{ClassesAnswer}
use Rattle.classes_read.specs.ClassesRead.{classes_result, classes_answer}
use Rattle.classes_read.specs.RowLists.{rows_of_take}
use Rattle.phd_classes.specs.declared.batches.Progress.{Progress}
use Rattle.phd_classes.specs.ReadState.{Opened, Started, Refused, refused_answer, refused_rows, refused_refs, FittingRecord, EntryNeeded, AdvanceRequires, Advanced, full, reads, Finished}
use Rattle.phd_classes.specs.PassRows.{tally_kept, list_kept}
use Rattle.phd_classes.specs.EndResults.{in_table, end_result, full_result}
use Rattle.phd_classes.specs.BatchRows.{rows_few, rows_small, rows_kept, batch_keys, overwrite_first}
use Rattle.phd_classes.proofs.EmptyTally.{empty_holds, empty_list}

-- Lists that agree from index i on agree from a later index j on.
drop_later : (l m : List Summary) (i j : ℕ) → i ≤ j → drop i l ≡ drop i m → drop j l ≡ drop j m
drop_later l m i j h e =
    let p : i + (j - i) ≡ j = omega arith in
    ap (λ (n : ℕ). drop n l) (sym p) ∙ (sym (drop-drop (j - i) i l) ∙ (ap (drop (j - i)) e ∙ (drop-drop (j - i) i m ∙ ap (λ (n : ℕ). drop n m) p)))

-- What `read_up_to` does whatever its result.
steps_of : {h : Header} {dump rows refs rows' refs' : List ℕ} {k k' : Cursor} {upto : ℕ} (r : Res (Unit {0}) End) → UpToContract h dump k rows refs upto rows' refs' k' r
    → Continued h dump k rows refs upto rows' refs' k'
steps_of (Ok u) c = c.0
steps_of (Err e) c = c.0

module _ (dump rows₀ refs₀ : List ℕ) (classes₀ : List Summary) where
  -- The result of the reading.
  abbrev result : Result
  result = classes_result dump (length rows₀) (length refs₀) (length classes₀)

  -- It is that of a reading that ends at the cursor.
  abbrev pub EndsHere : Progress → List ℕ → List ℕ → (reply place missing : ℕ) → Type 0
  EndsHere s rows refs reply place missing = result ≡ ended s.header (state_of (cursor_of s.cursor) rows refs) reply place missing

  -- A stage of the loop: the state s, with the tables, the buckets and the list as they are then. All rows stored have been counted.
  pub record Stage (s : Progress) (rows refs : List ℕ) (buckets : List Bucket) (classes : List Summary) : Type 0 where
    pub rows_length : length rows ≡ length rows₀
    pub refs_length : length refs ≡ length refs₀
    pub classes_length : length classes ≡ length classes₀
    pub tally : TallyHolds rows buckets s.tally
    pub list : ListHolds rows classes s.tally 0
    pub rest : drop s.tally.used classes ≡ drop s.tally.used classes₀
    pub counted : s.tally.counted ≡ s.cursor.rows
    pub first : ℕ
    pub opened : Opened dump s.header first
    pub steps : ManySteps s.header dump (initial_cursor first) rows₀ refs₀ rows refs s.cursor

  -- The first stage.
  pub stage_start : (buckets₀ : List Bucket) → buckets₀ ≡ replicate 32832 empty → (s : Progress) → Started dump s → Stage s rows₀ refs₀ buckets₀ classes₀
  stage_start buckets₀ zeros s o = record {
    rows_length = refl;
    refs_length = refl;
    classes_length = refl;
    tally = rw (o.tally, zeros) (empty_holds rows₀);
    list = rw o.tally (empty_list rows₀ classes₀);
    rest = refl;
    counted = rw (o.tally, o.cursor);
    first = s.cursor.at;
    opened = o.opened;
    steps = subst (λ (k : Cursor). ManySteps s.header dump (initial_cursor s.cursor.at) rows₀ refs₀ rows₀ refs₀ k) (sym o.cursor) start;
  }
    where
      start : ManySteps s.header dump (initial_cursor s.cursor.at) rows₀ refs₀ rows₀ refs₀ (initial_cursor s.cursor.at)
      start = no_steps phd phd_lawful s.header dump (record { at_in = o.opened.at_in; rows_in = omega arith; refs_in = omega arith })

  module _ {s : Progress} {rows refs : List ℕ} {buckets : List Bucket} {classes : List Summary} (st : Stage s rows refs buckets classes) where
    -- The entries in use are those of the rows stored.
    used_is : s.tally.used ≡ length (keys (take s.cursor.rows (rows_of rows)))
    used_is = rw (← st.counted) st.tally.index.used

    used_in : s.tally.used ≤ length classes₀
    used_in = omega (arith, st.list.used_in, st.classes_length)

    pub advance_requires : AdvanceRequires dump rows refs buckets (length classes) s
    advance_requires = record {
      in_bounds = st.steps.fits;
      bits = st.opened.bits;
      in_limit = st.opened.in_limit;
      tally = st.tally;
      used_in = st.list.used_in;
      few = let f = rows_few st.opened st.steps in omega arith;
    }

    module _ (b : Progress) (r : Res (Unit {0}) End) (rows' refs' : List ℕ) (rows_same : length rows' ≡ length rows) (refs_same : length refs' ≡ length refs) where
      -- After a batch.
      module _ {upto : ℕ} (c : Continued s.header dump s.cursor rows refs upto rows' refs' b.cursor) where
        abbrev steps_after : ManySteps s.header dump (initial_cursor st.first) rows₀ refs₀ rows' refs' b.cursor
        steps_after = more_steps phd phd_lawful s.header dump st.steps c.steps

        batch_fits : (s.tally.used + upto ≤ s.cursor.rows + length classes) ⊎ ((upto ≡ s.cursor.rows + 1) × EntryNeeded dump rows refs s false)
            → length (keys (take b.cursor.rows (rows_of rows'))) ≤ length classes₀
        batch_fits e =
            let u = used_is in
            batch_keys c st.steps.fits.rows_in (length classes₀) st.steps.fits.refs_in (let n = used_in in omega arith) (by e)
          where
            by : (s.tally.used + upto ≤ s.cursor.rows + length classes) ⊎ ((upto ≡ s.cursor.rows + 1) × EntryNeeded dump rows refs s false)
                → (length (keys (take s.cursor.rows (rows_of rows))) + upto ≤ s.cursor.rows + length classes₀)
                ⊎ ((upto ≡ s.cursor.rows + 1) × ((row : List ℕ) → FittingRecord s.header dump rows refs s.cursor row → length (keyed (row_at row 0) (keys (take s.cursor.rows (rows_of rows)))) ≤ length (keys (take s.cursor.rows (rows_of rows)))))
            by (inl l) = let u = used_is in let n = st.classes_length in inl (omega arith)
            by (inr x) = inr (x.0, rw st.counted at x.1)

        count_same : row_count rows' ≡ row_count rows
        unfolding row_count
        count_same = rw rows_same

        kept : take s.tally.counted (rows_of rows') ≡ take s.tally.counted (rows_of rows)
        kept = rw st.counted (rows_kept c st.steps.fits.rows_in)

        can_count : length (keys (take b.cursor.rows (rows_of rows'))) ≤ length classes₀ → CanCount rows' classes b.cursor.rows
        can_count e = record {
          end_in = in_table st.opened steps_after;
          end_few = rows_few st.opened steps_after;
          small = rows_small st.opened steps_after;
          enough = let n = st.classes_length in omega arith;
        }

        batch_requires : length (keys (take b.cursor.rows (rows_of rows'))) ≤ length classes₀
            → TallyHolds rows' buckets s.tally × ListHolds rows' classes s.tally 0 × (s.tally.counted ≤ b.cursor.rows) × CanCount rows' classes b.cursor.rows
        batch_requires e =
            (tally_kept rows' st.tally kept count_same, list_kept rows' st.tally kept count_same st.list, omega (arith, st.counted, c.steps.rows_le), can_count e)

      module _ (a : Advanced dump rows refs (length classes) s rows' refs' b r) where
        -- The header and the tally are as before.
        kept_parts : (b.header ≡ s.header) × (b.tally ≡ s.tally)
        kept_parts = by a
          where
            by : Advanced dump rows refs (length classes) s rows' refs' b r → (b.header ≡ s.header) × (b.tally ≡ s.tally)
            by (full l n is same p q) = (ap (λ (x : Progress). x.header) same, ap (λ (x : Progress). x.tally) same)
            by (reads upto l c same f) = (ap (λ (x : Progress). x.header) same, ap (λ (x : Progress). x.tally) same)

        pub count_requires : TallyHolds rows' buckets b.tally × ListHolds rows' classes b.tally 0 × (b.tally.counted ≤ b.cursor.rows) × CanCount rows' classes b.cursor.rows
        count_requires = rw kept_parts.1 (by a)
          where
            by : Advanced dump rows refs (length classes) s rows' refs' b r
                → TallyHolds rows' buckets s.tally × ListHolds rows' classes s.tally 0 × (s.tally.counted ≤ b.cursor.rows) × CanCount rows' classes b.cursor.rows
            by (full l n is same p q) =
                let k = ap (λ (x : Progress). x.cursor.rows) same in
                rw (p, k) (
                  st.tally,
                  st.list,
                  omega (arith, st.counted),
                  record {
                    end_in = in_table st.opened st.steps;
                    end_few = rows_few st.opened st.steps;
                    small = rows_small st.opened st.steps;
                    enough = let u = used_is in let i = st.list.used_in in omega arith;
                  },
                )
            by (reads upto l c same f) = batch_requires (steps_of r c) (batch_fits (steps_of r c) f)

        module _ (t : Tally) (buckets' : List Bucket) (classes' : List Summary) (classes_same : length classes' ≡ length classes) (d : Counted rows' classes b.tally b.cursor.rows buckets' classes' t) where
          abbrev next : Progress
          next = record { header = b.header; cursor = b.cursor; tally = t }

          pub stage_next : Stage next rows' refs' buckets' classes'
          stage_next = record {
            rows_length = rows_same ∙ st.rows_length;
            refs_length = refs_same ∙ st.refs_length;
            classes_length = classes_same ∙ st.classes_length;
            tally = d.holds;
            list = d.list;
            rest = d.rest ∙ drop_later classes classes₀ s.tally.used t.used (rw kept_parts.1 at d.used_le) st.rest;
            counted = d.counted;
            first = st.first;
            opened = rw kept_parts.0 st.opened;
            steps = rw kept_parts.0 (by a);
          }
            where
              by : Advanced dump rows refs (length classes) s rows' refs' b r → ManySteps s.header dump (initial_cursor st.first) rows₀ refs₀ rows' refs' b.cursor
              by (full l n is same p q) = rw (p, q, ap (λ (x : Progress). x.cursor) same) st.steps
              by (reads upto l c same f) = steps_after (steps_of r c)

          -- The result of one that has ended.
          pub ends : {e : End} → r ≡ Err e → EndsHere next rows' refs' e.reply e.place e.missing
          ends {e} h = rw kept_parts.0 (by a)
            where
              by : Advanced dump rows refs (length classes) s rows' refs' b r → result ≡ ended s.header (state_of (cursor_of b.cursor) rows' refs') e.reply e.place e.missing
              by (full l n is same p q) =
                  let x : e ≡ record { reply = 20; place = s.cursor.at; missing = 0 } = let y = sym h ∙ is in cc in
                  let k : keys_counted rows s.tally ≡ keys (take s.cursor.rows (rows_of rows)) = rw st.counted in
                  let o = rw k at n.1.1 in
                  let u = used_is in
                  let m = used_in in
                  let v = st.classes_length in
                  rw (x, p, q, ap (λ (x : Progress). x.cursor) same) (full_result st.opened st.steps (length classes₀) n.0 n.1.0 (omega arith) (omega arith))
              by (reads upto l c same f) =
                  let u = rw h at c in
                  end_result st.opened (steps_after u.0) (length classes₀) u.1 (batch_fits u.0 f)

    -- ---- the end

    module _ (reply place missing : ℕ) (e : EndsHere s rows refs reply place missing) {classes' : List Summary} (classes_same : length classes' ≡ length classes) (z : SizedAll rows classes s.tally classes') where
      k_rows : s.cursor.rows * row_width ≤ length rows
      k_rows = st.steps.fits.rows_in

      stored : result.rows ≡ take (s.cursor.rows * row_width) rows
      unfolding ended
      stored = ap (λ (x : Result). x.rows) e

      stored_refs : result.refs ≡ take s.cursor.refs refs
      unfolding ended
      stored_refs = ap (λ (x : Result). x.refs) e

      rows_stored : rows_of result.rows ≡ take s.tally.counted (rows_of rows)
      rows_stored = ap rows_of stored ∙ (rows_of_take rows s.cursor.rows (in_table st.opened st.steps) ∙ ap (λ (n : ℕ). take n (rows_of rows)) (sym st.counted))

      -- The entries in use are the summaries of the rows stored.
      entries_are : take s.tally.used classes' ≡ summaries (rows_of result.rows)
      entries_are = z.entries ∙ ap summaries (sym rows_stored)

      used_classes : s.tally.used ≤ length classes'
      used_classes = omega (arith, st.list.used_in, classes_same)

      used_length : s.tally.used ≡ length (summaries (rows_of result.rows))
      used_length = sym (length-take-le s.tally.used classes' used_classes) ∙ ap length entries_are

      row_number : s.cursor.rows ≡ row_count result.rows
      unfolding row_count
      row_number = let t = length-take-le (s.cursor.rows * row_width) rows k_rows in rw (stored, t) (omega arith)

      ref_number : s.cursor.refs ≡ length result.refs
      ref_number = rw stored_refs (sym (length-take-le s.cursor.refs refs st.steps.fits.refs_in))

      abbrev answer : ClassesAnswer
      answer = record { read = record { reply = reply; place = place; missing = missing; rows = s.cursor.rows; refs = s.cursor.refs; header = s.header }; entries = s.tally.used }

      answer_is : answer ≡ classes_answer result
      unfolding classes_answer read_answer ended
      answer_is =
          let a = ap (λ (x : Result). x.reply) e in
          let b = ap (λ (x : Result). x.place) e in
          let c = ap (λ (x : Result). x.missing) e in
          let h = ap (λ (x : Result). x.header) e in
          rw (a, b, c, h, ← row_number, ← ref_number, ← used_length)

      pub finished : Finished dump rows₀ refs₀ classes₀ answer rows refs classes'
      finished = record {
        answer = answer_is;
        row_table = rw stored (overwrite_first rows rows₀ (s.cursor.rows * row_width) k_rows st.steps.rows_unchanged);
        ref_table = rw stored_refs (overwrite_first refs refs₀ s.cursor.refs st.steps.fits.refs_in st.steps.refs_unchanged);
        list = rw (← entries_are) (overwrite_first classes' classes₀ s.tally.used used_classes (z.rest ∙ st.rest));
      }

-- A reading without rows and references leaves tables and list as they are.
pub no_rows_finished : {dump : List ℕ} {a : ClassesAnswer} (rows refs : List ℕ) (classes : List Summary) → let result = classes_result dump (length rows) (length refs) (length classes) in
    a ≡ classes_answer result → result.rows ≡ [] → result.refs ≡ [] → Finished dump rows refs classes a rows refs classes
unfolding overwrite rows_of rows_from row_count summaries keys keys_from
no_rows_finished rows refs classes is no_rows no_refs = record { answer = is; row_table = rw no_rows; ref_table = rw no_refs; list = rw no_rows }

-- So does a reading that ends before the first record.
pub refused_finished : {dump : List ℕ} {a : ClassesAnswer} → Refused dump a → (rows refs : List ℕ) (classes : List Summary) → Finished dump rows refs classes a rows refs classes
refused_finished r rows refs classes = no_rows_finished rows refs classes (refused_answer r _ _ _) (refused_rows r _ _ _) (refused_refs r _ _ _)
