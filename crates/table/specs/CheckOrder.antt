-- The checks of an operation that writes, in the order of docs/FORMAT.md 8: 15, 16, 18, 17. Each reply is returned exactly in its
-- case.
-- A reader must believe the definitions and the record `CheckReplies`.
use Rattle.std.specs.Prelude.{◌≡◌, refl, ◌↔◌, ◌⊎◌, ℕ, ◌≤◌, Bool, true, false, List, [], length, Option, Some, None}
use Rattle.std.proofs.Common.{sym, ap, ◌∙◌, inl, inr, arith}
use Rattle.std.proofs.lemmas.List.Edits.{sets}
use Rattle.decode.specs.Values.{true_not_false}
use Rattle.table.specs.Buffer.{overwrite, overwrite_nil, sets_overwrite}
use Rattle.table.specs.declared.Answer.{Answer}

-- The result of a write: the answer, and the bytes written.
pub record WriteResult : Type 0 where
  pub answer : Answer
  pub bytes : List ℕ

-- A refusal, with its reply and place. It writes nothing.
unfoldable pub refused : ℕ → ℕ → WriteResult
refused reply place = record { answer = record { reply = reply; place = place }; bytes = [] }

-- A success: the bytes are written, the reply is 0 and the place is their number.
unfoldable pub done : List ℕ → WriteResult
done bytes = record { answer = record { reply = 0; place = length bytes }; bytes = bytes }

-- The result by four checks: whether the header is good, the first bad row, the first row without its class, and whether the
-- output has capacity for the bytes (for a dump, also whether they are within the size limit).
unfoldable pub checked_write : Bool → Option ℕ → Option ℕ → Bool → List ℕ → WriteResult
checked_write false bad class_missing has_capacity bytes = refused 15 0
checked_write true (Some i) class_missing has_capacity bytes = refused 16 i
checked_write true None (Some i) has_capacity bytes = refused 18 i
checked_write true None None false bytes = refused 17 0
checked_write true None None true bytes = done bytes

-- The answer of the first two checks alone: reply 0 with place 0 if both pass.
unfoldable pub checked_input : Bool → Option ℕ → Answer
checked_input good bad = (checked_write good bad None true []).answer

-- ---- when each reply is given

-- The result w has each reply exactly in its case, by the same four checks.
pub record CheckReplies (good : Bool) (bad class_missing : Option ℕ) (has_capacity : Bool) (bytes : List ℕ) (w : WriteResult) : Type 0 where
  -- 15: the header is bad.
  pub header : (w.answer.reply ≡ 15) ↔ (good ≡ false)
  -- 16 at place i: the header is good, and the first bad row is row i.
  pub row : (i : ℕ) → ((w.answer.reply ≡ 16) × (w.answer.place ≡ i)) ↔ ((good ≡ true) × (bad ≡ Some i))
  -- 18 at place i: the header is good, no row is bad, and the first row without its class is row i.
  pub no_class : (i : ℕ) → ((w.answer.reply ≡ 18) × (w.answer.place ≡ i)) ↔ ((good ≡ true) × (bad ≡ None) × (class_missing ≡ Some i))
  -- 17: the header is good, no row is bad or without its class, and the output has too little capacity.
  pub too_small : (w.answer.reply ≡ 17) ↔ ((good ≡ true) × (bad ≡ None) × (class_missing ≡ None) × (has_capacity ≡ false))
  -- 0: the header is good, no row is bad or without its class, and the output has the capacity.
  pub all_good : (w.answer.reply ≡ 0) ↔ ((good ≡ true) × (bad ≡ None) × (class_missing ≡ None) × (has_capacity ≡ true))
  -- There is no other reply.
  pub reply_cases : (w.answer.reply ≡ 0) ⊎ ((w.answer.reply ≡ 15) ⊎ ((w.answer.reply ≡ 16) ⊎ ((w.answer.reply ≡ 17) ⊎ (w.answer.reply ≡ 18))))
  -- The place of 15 and 17 is 0.
  pub place_15 : w.answer.reply ≡ 15 → w.answer.place ≡ 0
  pub place_17 : w.answer.reply ≡ 17 → w.answer.place ≡ 0
  -- A refusal writes nothing.
  pub no_bytes : (w.answer.reply ≡ 0 → ⊥) → w.bytes ≡ []
  -- With reply 0 the bytes are written.
  pub written : w.answer.reply ≡ 0 → w ≡ done bytes

-- A test cannot be both true and false.
true_false_absurd {ℓ} : {P : Type ℓ} → true ≡ false → P
true_false_absurd e = absurd (true_not_false e)

-- A search cannot both find a row and find none.
at_not_found {ℓ} : {P : Type ℓ} {i : ℕ} → Some i ≡ None → P
at_not_found e = let z : ◌≡◌ {A = ℕ} 0 1 = cc in absurd (omega arith)

-- A search finds only one row.
at_injective : {i j : ℕ} → Some i ≡ Some j → i ≡ j
at_injective e = cc

-- `checked_write` gives each reply exactly in its case.
pub check_replies : (good : Bool) (bad class_missing : Option ℕ) (has_capacity : Bool) (bytes : List ℕ) → CheckReplies good bad class_missing has_capacity bytes (checked_write good bad class_missing has_capacity bytes)
unfolding checked_write refused done
check_replies false bad class_missing has_capacity bytes = record {
  header = (λ _. refl, λ _. refl);
  row = λ i. (λ z. absurd (omega (arith, z.0)), λ e. true_false_absurd (cc e.0));
  no_class = λ i. (λ z. absurd (omega (arith, z.0)), λ e. true_false_absurd (cc e.0));
  too_small = (λ z. absurd (omega arith), λ e. true_false_absurd (cc e.0));
  all_good = (λ z. absurd (omega arith), λ e. true_false_absurd (cc e.0));
  reply_cases = inr (inl refl);
  place_15 = λ _. refl;
  place_17 = λ _. refl;
  no_bytes = λ _. refl;
  written = λ z. absurd (omega arith);
}
check_replies true (Some j) class_missing has_capacity bytes = record {
  header = (λ z. absurd (omega arith), λ e. true_false_absurd e);
  row = λ i. (λ z. (refl, ap Some z.1), λ e. (refl, at_injective e.1));
  no_class = λ i. (λ z. absurd (omega (arith, z.0)), λ e. at_not_found e.1);
  too_small = (λ z. absurd (omega arith), λ e. at_not_found e.1);
  all_good = (λ z. absurd (omega arith), λ e. at_not_found e.1);
  reply_cases = inr (inr (inl refl));
  place_15 = λ z. absurd (omega arith);
  place_17 = λ z. absurd (omega arith);
  no_bytes = λ _. refl;
  written = λ z. absurd (omega arith);
}
check_replies true None (Some j) has_capacity bytes = record {
  header = (λ z. absurd (omega arith), λ e. true_false_absurd e);
  row = λ i. (λ z. absurd (omega (arith, z.0)), λ e. at_not_found (sym e.1));
  no_class = λ i. (λ z. (refl, refl, ap Some z.1), λ e. (refl, at_injective e.2));
  too_small = (λ z. absurd (omega arith), λ e. at_not_found e.2);
  all_good = (λ z. absurd (omega arith), λ e. at_not_found e.2);
  reply_cases = inr (inr (inr (inr refl)));
  place_15 = λ z. absurd (omega arith);
  place_17 = λ z. absurd (omega arith);
  no_bytes = λ _. refl;
  written = λ z. absurd (omega arith);
}
check_replies true None None false bytes = record {
  header = (λ z. absurd (omega arith), λ e. true_false_absurd e);
  row = λ i. (λ z. absurd (omega (arith, z.0)), λ e. at_not_found (sym e.1));
  no_class = λ i. (λ z. absurd (omega (arith, z.0)), λ e. at_not_found (sym e.2));
  too_small = (λ _. (refl, refl, refl, refl), λ _. refl);
  all_good = (λ z. absurd (omega arith), λ e. true_false_absurd (sym e.3));
  reply_cases = inr (inr (inr (inl refl)));
  place_15 = λ z. absurd (omega arith);
  place_17 = λ _. refl;
  no_bytes = λ _. refl;
  written = λ z. absurd (omega arith);
}
check_replies true None None true bytes = record {
  header = (λ z. absurd (omega arith), λ e. true_false_absurd e);
  row = λ i. (λ z. absurd (omega (arith, z.0)), λ e. at_not_found (sym e.1));
  no_class = λ i. (λ z. absurd (omega (arith, z.0)), λ e. at_not_found (sym e.2));
  too_small = (λ z. absurd (omega arith), λ e. true_false_absurd e.3);
  all_good = (λ _. (refl, refl, refl, refl), λ _. refl);
  reply_cases = inl refl;
  place_15 = λ z. absurd (omega arith);
  place_17 = λ z. absurd (omega arith);
  no_bytes = λ z. absurd (z refl);
  written = λ _. refl;
}

-- ---- the first two checks by themselves

-- With reply 0, the header is good and no row is bad.
pub checked_input_ok : (good : Bool) (bad : Option ℕ) (w : Answer) → w ≡ checked_input good bad → w.reply ≡ 0 → (good ≡ true) × (bad ≡ None)
unfolding checked_input checked_write refused
checked_input_ok false bad w e z = absurd (omega (arith, rw e at z))
checked_input_ok true (Some i) w e z = absurd (omega (arith, rw e at z))
checked_input_ok true None w e z = (refl, refl)

-- Any other reply refuses the write, with the same place.
pub checked_input_refused : (good : Bool) (bad class_missing : Option ℕ) (has_capacity : Bool) (bytes : List ℕ) (w : Answer) → w ≡ checked_input good bad → (w.reply ≡ 0 → ⊥)
    → checked_write good bad class_missing has_capacity bytes ≡ refused w.reply w.place
unfolding checked_input checked_write refused done
checked_input_refused false bad class_missing has_capacity bytes w e z = rw e
checked_input_refused true (Some i) class_missing has_capacity bytes w e z = rw e
checked_input_refused true None class_missing has_capacity bytes w e z = absurd (z (rw e))

-- ---- answer and output of a writing function

-- A refusal leaves the output unchanged.
pub refused_unchanged : (out : List ℕ) (w : WriteResult) (reply place : ℕ) → w ≡ refused reply place
    → (record { reply = reply; place = place } ≡ w.answer) × (out ≡ overwrite out w.bytes)
unfolding refused
refused_unchanged out w reply place e = rw (e, overwrite_nil) (refl, refl)

-- Bytes stored from offset 0 on overwrite the start of the output.
pub done_overwrite : (out out₁ bytes : List ℕ) (w : WriteResult) → w ≡ done bytes → length bytes ≤ length out → out₁ ≡ sets out 0 bytes → out₁ ≡ overwrite out w.bytes
unfolding done
done_overwrite out out₁ bytes w e l f = rw e (f ∙ sets_overwrite out bytes l)
