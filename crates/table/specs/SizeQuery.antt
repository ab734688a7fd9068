-- A size query agrees with the write that follows it: it makes the same checks in the same order, except the check of the
-- output's capacity. A reader must believe the record `QueryAgrees`. Assumes nothing.
use Rattle.std.specs.Prelude.{◌≡◌, refl, ◌↔◌, ℕ, ◌≤◌, ◌<◌, Bool, true, false, ◌&&◌, List, length, leb, Option, Some, None}
use Rattle.std.proofs.Common.{sym, arith, le-leb}
use Rattle.std.proofs.Math.Path.{ap}
use Rattle.std.proofs.Math.Decide.{dec_le}
use Rattle.std.proofs.lemmas.Bool.{lt-leb}
use Rattle.table.specs.CheckOrder.{WriteResult, refused, done, checked_write, checked_input, checked_input_refused}
use Rattle.table.specs.declared.Answer.{Answer}

-- The answer of a size query agrees with w, the result of writing the same rows to an output of `capacity` bytes.
pub record QueryAgrees (query : Answer) (capacity : ℕ) (w : WriteResult) : Type 0 where
  -- The write's reply is 0 exactly if the query's reply is 0 and the queried size is at most the capacity.
  pub done : (w.answer.reply ≡ 0) ↔ ((query.reply ≡ 0) × (query.place ≤ capacity))
  -- Then both answers are equal.
  pub same : w.answer.reply ≡ 0 → w.answer ≡ query
  -- Then as many bytes are written as the query answered.
  pub count : w.answer.reply ≡ 0 → length w.bytes ≡ query.place
  -- If the queried size exceeds the capacity, the write is refused with 17 at place 0.
  pub too_small : query.reply ≡ 0 → capacity < query.place → w ≡ refused 17 0
  -- If the query is refused, the write is refused with the same reply and place.
  pub refusal : (query.reply ≡ 0 → ⊥) → w ≡ refused query.reply query.place
  -- An answer of the write without reply 17 is the query's answer.
  pub other : (w.answer.reply ≡ 17 → ⊥) → w.answer ≡ query

-- Both are refused.
refused_agrees : (reply place capacity : ℕ) → (reply ≡ 0 → ⊥) → QueryAgrees (refused reply place).answer capacity (refused reply place)
unfolding refused
refused_agrees reply place capacity n = record {
  done = (λ z. absurd (n z), λ e. absurd (n e.0));
  same = λ z. absurd (n z);
  count = λ z. absurd (n z);
  too_small = λ z. absurd (n z);
  refusal = λ _. refl;
  other = λ _. refl;
}

-- The query gives a size, and the output has the capacity.
done_agrees : (bytes : List ℕ) (capacity : ℕ) → length bytes ≤ capacity → QueryAgrees (done bytes).answer capacity (done bytes)
unfolding done
done_agrees bytes capacity l = record {
  done = (λ _. (refl, l), λ _. refl);
  same = λ _. refl;
  count = λ _. refl;
  too_small = λ _ g. absurd (omega arith);
  refusal = λ n. absurd (n refl);
  other = λ _. refl;
}

-- The query gives a size, and the output has too little capacity.
capacity_agrees : (bytes : List ℕ) (capacity : ℕ) → capacity < length bytes → QueryAgrees (done bytes).answer capacity (refused 17 0)
unfolding done refused
capacity_agrees bytes capacity l = record {
  done = (λ z. absurd (omega arith), λ e. absurd (omega (arith, e.1)));
  same = λ z. absurd (omega arith);
  count = λ z. absurd (omega arith);
  too_small = λ _ _. refl;
  refusal = λ n. absurd (n refl);
  other = λ n. absurd (n refl);
}

-- For any checks: the write makes all checks of the query, and also checks the capacity of the output.
pub query_agrees : (good : Bool) (bad class_missing : Option ℕ) (within : Bool) (bytes : List ℕ) (capacity : ℕ)
    → QueryAgrees (checked_write good bad class_missing within bytes).answer capacity (checked_write good bad class_missing (leb (length bytes) capacity && within) bytes)
unfolding checked_write
query_agrees false bad class_missing within bytes capacity = refused_agrees 15 0 capacity (λ z. omega arith)
query_agrees true (Some i) class_missing within bytes capacity = refused_agrees 16 i capacity (λ z. omega arith)
query_agrees true None (Some i) within bytes capacity = refused_agrees 18 i capacity (λ z. omega arith)
query_agrees true None None within bytes capacity = elim (dec_le (length bytes) capacity) [
  | yes l ↦ rw (le-leb (length bytes) capacity l) (fitting within l)
  | no l ↦ rw (lt-leb (length bytes) capacity (omega arith)) (lacking within (omega arith))
]
  where
    fitting : (b : Bool) → length bytes ≤ capacity → QueryAgrees (checked_write true None None b bytes).answer capacity (checked_write true None None b bytes)
    fitting true l = done_agrees bytes capacity l
    fitting false l = refused_agrees 17 0 capacity (λ z. omega arith)

    lacking : (b : Bool) → capacity < length bytes → QueryAgrees (checked_write true None None b bytes).answer capacity (refused 17 0)
    lacking true l = capacity_agrees bytes capacity l
    lacking false l = refused_agrees 17 0 capacity (λ z. omega arith)

-- ---- the answer of a size query

module _ (good : Bool) (bad class_missing : Option ℕ) (within : Bool) (bytes : List ℕ) where
  -- If the first two checks refuse, their answer is the query's.
  pub query_refused : (w : Answer) → w ≡ checked_input good bad → (w.reply ≡ 0 → ⊥) → w ≡ (checked_write good bad class_missing within bytes).answer
  unfolding refused
  query_refused w e z = ap (λ (o : WriteResult). o.answer) (sym (checked_input_refused good bad class_missing within bytes w e z))

  -- If all checks pass, the answer is 0 with the number of bytes as the place.
  pub query_size : good ≡ true → bad ≡ None → class_missing ≡ None → within ≡ true → record { reply = 0; place = length bytes } ≡ (checked_write good bad class_missing within bytes).answer
  unfolding checked_write done
  query_size p q r s = rw (p, q, r, s)

  -- If the bytes exceed the size limit, the answer is 17 at place 0.
  pub query_too_large : good ≡ true → bad ≡ None → class_missing ≡ None → within ≡ false → record { reply = 17; place = 0 } ≡ (checked_write good bad class_missing within bytes).answer
  unfolding checked_write refused
  query_too_large p q r s = rw (p, q, r, s)

  -- The query's answer agrees with the write.
  pub query_agrees_by : (query : Answer) (capacity : ℕ) → query ≡ (checked_write good bad class_missing within bytes).answer
      → QueryAgrees query capacity (checked_write good bad class_missing (leb (length bytes) capacity && within) bytes)
  query_agrees_by query capacity e = rw e (query_agrees good bad class_missing within bytes capacity)
