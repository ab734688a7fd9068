-- What the entries of rows come to together, and each by itself: over all entries, instances, references and bytes are those of
-- the rows that are no class rows; an entry whose class row is there waits for nothing; the entries of the first rows come first.
-- Assumes nothing.
use Rattle.std.proofs.Math.Path.{◌≡◌, refl, ap}
use Rattle.std.proofs.Common.{◌∙◌, length-append}
use Prim.Native.Nat.{ℕ, zero, suc, ◌+◌, ◌≤◌, ◌<◌}
use native.Mathlib.Omega.{arith}
use Rattle.std.specs.Prelude.{Bool, ◌||◌}
use Rattle.std.proofs.Math.Bool.{true, false, cond}
use mathlib.Core.List.{List, [], ◌∷◌, ◌++◌, map}
use Rattle.std.proofs.Math.ListN.{length, get_or, length-map}
use borrow.Author.Tests.{eqb-true}
use Rattle.table.specs.Rows.{is_kind}
use Rattle.table.specs.declared.Row.{Row}
use Rattle.summaries.specs.Summaries.{waits, Key, same_key, key_of, has, keyed, keys_from, keys, total, share, over, entry, summaries, its_key}
use Rattle.table.specs.RowBytes.{bytes_of}
use Rattle.summaries.specs.ClassSizes.{known, waits_are}
use Rattle.summaries.specs.SummaryKeys.{same_true, same_self, mem, Distinct, keyed_has, keep, distinct, Begins, keys_begin}
use Rattle.summaries.specs.SummaryStep.{total_same, total_none, total_more}
use Rattle.summaries.specs.declared.Summary.{Summary}

-- ---- sums over entries

total_map : {A : Type 0} {B : Type 0} (f : B → ℕ) (e : A → B) (s : List A) → total f (map e s) ≡ total (λ a. f (e a)) s
unfolding total
total_map f e [] = refl
total_map f e (a ∷ s) = rw (total_map f e s)

total_two : {A : Type 0} (f g : A → ℕ) (s : List A) → total (λ a. f a + g a) s ≡ total f s + total g s
total_two f g s = omega (arith, total_more (λ a. f a + g a) f g 1 (λ a. omega arith) s)

-- Of distinct keys only one takes a row.
one_key : (j : Key) (v : ℕ) (ks : List Key) → Distinct ks → total (λ k. cond (same_key j k) v 0) ks ≡ cond (mem j ks) v 0
unfolding total mem
one_key j v [] d = refl
one_key j v (k ∷ ks) d = go (same_key j k) refl (one_key j v ks d.1)
  where
    go : (b : Bool) → same_key j k ≡ b → total (λ i. cond (same_key j i) v 0) ks ≡ cond (mem j ks) v 0
        → cond b v 0 + total (λ i. cond (same_key j i) v 0) ks ≡ cond (◌||◌ b (mem j ks)) v 0
    go true t h =
        let n : mem j ks ≡ false = rw (same_true j k t) d.0 in
        let z : total (λ i. cond (same_key j i) v 0) ks ≡ 0 = rw n at h in
        omega arith
    go false t h = omega arith

-- What a row that is no class row has, of a class row 0.
abbrev pub unclassed : (Row → ℕ) → Row → ℕ
unclassed f r = cond (is_kind 1 r) 0 (f r)

-- The rows' keys are among these.
abbrev Covers : List Key → List Row → Type 0
Covers ks [] = Unit {0}
Covers ks (r ∷ rows) = (is_kind 1 r ≡ false → mem (key_of r) ks ≡ true) × Covers ks rows

covers : (ks : List Key) (rows : List Row) → Covers (keys_from ks rows) rows
unfolding keys_from has
covers ks [] = tt
covers ks (r ∷ rows) =
    (λ e. keep (key_of r) (keyed r ks) rows (keyed_has (key_of r) r ks (rw e (same_self (key_of r)))), covers (keyed r ks) rows)

row_spread : (f : Row → ℕ) (r : Row) (ks : List Key) → Distinct ks → (is_kind 1 r ≡ false → mem (key_of r) ks ≡ true)
    → total (λ k. share k f r) ks ≡ unclassed f r
unfolding share has
row_spread f r ks d c = go (is_kind 1 r) refl
  where
    go : (b : Bool) → is_kind 1 r ≡ b → total (λ k. cond (cond b false (same_key (key_of r) k)) (f r) 0) ks ≡ cond b 0 (f r)
    go true e = total_none _ (λ k. refl) ks
    go false e = one_key (key_of r) (f r) ks d ∙ rw (c e)

spread : (f : Row → ℕ) (ks : List Key) → Distinct ks → (rows : List Row) → Covers ks rows → total (λ k. over k f rows) ks ≡ total (unclassed f) rows
unfolding total
spread f ks d [] c = total_none _ (λ k. refl) ks
spread f ks d (r ∷ rows) c =
    total_two (λ k. share k f r) (λ k. over k f rows) ks ∙ rw (row_spread f r ks d c.0, spread f ks d rows c.1)

-- ---- all entries together

module _ (rows : List Row) where
  all : (f : Row → ℕ) → total (λ k. over k f rows) (keys rows) ≡ total (unclassed f) rows
  unfolding keys
  all f = spread f (keys rows) (distinct rows) rows (covers [] rows)

  pub all_instances : total (λ s. s.instances) (summaries rows) ≡ total (unclassed (λ r. 1)) rows
  unfolding summaries entry
  all_instances = total_map (λ s. s.instances) (entry rows) (keys rows) ∙ all (λ r. 1)

  pub all_refs : total (λ s. s.refs) (summaries rows) ≡ total (unclassed (λ r. r.count)) rows
  unfolding summaries entry
  all_refs = total_map (λ s. s.refs) (entry rows) (keys rows) ∙ all (λ r. r.count)

  pub all_bytes : total (λ s. s.bytes) (summaries rows) ≡ total (bytes_of rows) rows
  unfolding summaries entry bytes_of
  all_bytes = total_map (λ s. s.bytes) (entry rows) (keys rows) ∙ (all (bytes_of rows) ∙ total_same _ _ same rows)
    where
      go : (b : Bool) (n : ℕ) → cond b 0 (cond b 0 n) ≡ cond b 0 n
      go true n = refl
      go false n = refl

      same : (r : Row) → unclassed (bytes_of rows) r ≡ bytes_of rows r
      same r = go (is_kind 1 r) _

  -- ---- each by itself

  -- An entry whose class row is there waits for nothing, and neither does one of a primitive type.
  share_known : (k : Key) → ((w : ℕ) → record { mark = 0; class = w } ≡ k → known rows w ≡ true) → (r : Row) → share k (waits rows) r ≡ 0
  unfolding share has key_of
  share_known k e r = rw (waits_are rows r) (go (is_kind 2 r) (has k r) refl refl)
    where
      go : (c b : Bool) → is_kind 2 r ≡ c → has k r ≡ b → ◌≡◌ {A = ℕ} (cond b (cond c (cond (known rows r.class) 0 1) 0) 0) 0
      go true true p q =
          let two : r.kind ≡ 2 = eqb-true _ _ p in
          rw (e r.class (same_true _ _ (rw two at q)))
      go false true p q = refl
      go true false p q = refl
      go false false p q = refl

  pub known_waits : (k : Key) → known rows k.class ≡ true → (entry rows k).waiting ≡ 0
  unfolding entry
  known_waits k e = total_none _ (share_known k (λ w q. rw (ap (λ j. j.class) q) e)) rows

  pub type_waits : (k : Key) → k.mark ≡ 1 → (entry rows k).waiting ≡ 0
  unfolding entry
  type_waits k e = total_none _ (share_known k (λ w q. absurd (omega (arith, ap (λ j. j.mark) q)))) rows

  -- So where one waits, its class row has not come.
  pub waiting_unknown : (k : Key) → 0 < (entry rows k).waiting → known rows k.class ≡ false
  waiting_unknown k l = go (known rows k.class) refl
    where
      go : (b : Bool) → known rows k.class ≡ b → b ≡ false
      go true e = absurd (omega (arith, known_waits k e))
      go false e = refl

  -- No number of an entry is more than its sum over all rows.
  pub over_most : (k : Key) (f : Row → ℕ) (s : List Row) → over k f s ≤ total f s
  unfolding total share
  over_most k f [] = omega arith
  over_most k f (r ∷ s) = go (has k r) (over_most k f s)
    where
      go : (b : Bool) → over k f s ≤ total f s → cond b (f r) 0 + over k f s ≤ f r + total f s
      go true h = omega arith
      go false h = omega arith

  -- ---- the keys of the entries

  pub keys_are : map its_key (summaries rows) ≡ keys rows
  unfolding summaries entry
  keys_are = go (keys rows)
    where
      go : (ks : List Key) → map its_key (map (entry rows) ks) ≡ ks
      go [] = refl
      go (k ∷ ks) = rw (go ks)

  pub keys_distinct : Distinct (map its_key (summaries rows))
  keys_distinct = rw keys_are (distinct rows)

  pub length_is : length (summaries rows) ≡ length (keys rows)
  unfolding summaries
  length_is = length-map (keys rows) (entry rows)

  -- An entry is that of its key.
  pub entry_at : (d : Summary) (i : ℕ) → i < length (summaries rows) → get_or (summaries rows) i d ≡ entry rows (its_key (get_or (summaries rows) i d))
  unfolding summaries entry
  entry_at d = go (keys rows)
    where
      go : (ks : List Key) (i : ℕ) → i < length (map (entry rows) ks) → get_or (map (entry rows) ks) i d ≡ entry rows (its_key (get_or (map (entry rows) ks) i d))
      go [] i l = absurd (omega arith)
      go (k ∷ ks) zero l = refl
      go (k ∷ ks) (suc i) l = go ks i (omega arith)

-- ---- more rows

-- The entries of the first rows come first, by their keys, and there are never fewer.
pub begin : (rows more : List Row) → Begins (map its_key (summaries rows)) (map its_key (summaries (rows ++ more)))
begin rows more = rw (keys_are rows, keys_are (rows ++ more)) (keys_begin rows more)

pub grow : (rows more : List Row) → length (summaries rows) ≤ length (summaries (rows ++ more))
grow rows more =
    let b = keys_begin rows more in
    rw (length_is rows, length_is (rows ++ more), b.1) (simp length-append (omega arith))
