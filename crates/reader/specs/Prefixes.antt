-- Demand 3, first part, for any format: what it says of the readings of two cuts of the same bytes. Theorems:
-- proofs/Prefixes.antt.
use Rattle.std.specs.Prelude.{◌≡◌, List, ◌++◌}
use Rattle.std.proofs.Common.{sym, ap, ◌∙◌, append_assoc}
use Prim.Native.Nat.{ℕ}
use Rattle.reader.specs.Reader.{Format, State, Result, Transition, go, halt}

-- xs is a prefix of ys; `more` is the rest.
pub record Prefix (xs ys : List ℕ) : Type 0 where
  pub more : List ℕ
  pub all : xs ++ more ≡ ys

-- A final reply, which more bytes or larger tables do not change: any but 1 (cut), 13 and 14 (no capacity) (docs/FORMAT.md 5.2).
abbrev pub Final : ℕ → Type 0
Final reply = (reply ≡ 1 → ⊥) × (reply ≡ 13 → ⊥) × (reply ≡ 14 → ⊥)

-- Demand 3 for the readings of a shorter and a longer cut: the shorter's tables are prefixes of the longer's, and if its reply is
-- final, the results are equal.
pub record ResultPrefix {D : Format} (shorter longer : Result D) : Type 0 where
  pub rows : Prefix shorter.rows longer.rows
  pub refs : Prefix shorter.refs longer.refs
  pub same : Final shorter.reply → longer ≡ shorter

-- ---- growth of the tables

-- A prefix of a list is a prefix of the list with more appended.
pub prefix_append : {xs ys : List ℕ} → Prefix xs ys → (zs : List ℕ) → Prefix xs (ys ++ zs)
prefix_append {xs} p zs = record { more = p.more ++ zs; all = sym (append_assoc xs p.more zs) ∙ ap (λ (l : List ℕ). l ++ zs) p.all }

-- ---- one step of both readings

-- What the longer's step must be, given the shorter's step at the state st: the same if that goes on; if that halts, it stores
-- nothing, and with a final reply both are the same.
abbrev pub StepPrefix : {D : Format} → State D → Transition D → Transition D → Type 0
StepPrefix st (go st') longer = longer ≡ go st'
StepPrefix st (halt r) longer = (r.rows ≡ st.rows) × (r.refs ≡ st.refs) × (Final r.reply → longer ≡ halt r)
