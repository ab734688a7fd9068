-- The place of a key in a list of keys: before it no key is the same, at it the key is; and the list with the key is the list itself, or
-- the key appended. For the proofs of this crate's functions.
-- Assumes nothing.
use Rattle.std.specs.Prelude.{◌≡◌, Bool, take}
use Rattle.std.proofs.Math.Path.{refl, sym, ap}
use Rattle.std.proofs.Common.{◌∙◌, length-append, take-suc}
use Prim.Native.Nat.{ℕ, zero, suc, ◌+◌, ◌≤◌, ◌<◌}
use native.Mathlib.Omega.{arith}
use Rattle.std.proofs.Math.Bool.{true, false, cond}
use mathlib.Core.List.{List, [], ◌∷◌, ◌++◌}
use Rattle.std.proofs.Math.ListN.{length, get_or-append}
use Rattle.std.proofs.lemmas.List.{get_or_at}
use Rattle.table.specs.Rows.{is_kind, zero_row, nth}
use Rattle.table.specs.declared.Row.{Row}
use Rattle.summaries.specs.Summaries.{Key, same_key, key_of, alter, with_key, keyed, keys}
use Rattle.summaries.specs.SummaryKeys.{same_true, same_self, never, mem_at, Distinct, keys_next}
use Rattle.summary_index.specs.SummaryIndex.{make_key, key_at}
use Rattle.summary_pass.specs.PassState.{place_of}

-- ---- the place of a key

module _ (j : Key) where
  pub place_le : (ks : List Key) → place_of j ks ≤ length ks
  unfolding place_of
  place_le [] = omega arith
  place_le (k ∷ ks) = go (same_key j k) (place_le ks)
    where
      go : (b : Bool) → place_of j ks ≤ length ks → cond b 0 (suc (place_of j ks)) ≤ suc (length ks)
      go true h = omega arith
      go false h = omega arith

  -- The key is at its place.
  pub place_key : (ks : List Key) → place_of j ks < length ks → key_at ks (place_of j ks) ≡ j
  unfolding place_of
  place_key [] l = absurd (omega arith)
  place_key (k ∷ ks) l = go (same_key j k) refl l (place_key ks)
    where
      go : (b : Bool) → same_key j k ≡ b → cond b 0 (suc (place_of j ks)) < suc (length ks) → (place_of j ks < length ks → key_at ks (place_of j ks) ≡ j)
          → key_at (k ∷ ks) (cond b 0 (suc (place_of j ks))) ≡ j
      go true e l h = sym (same_true j k e)
      go false e l h = h (omega arith)

  -- No key before the place is the same.
  pub place_before : (ks : List Key) (i : ℕ) → i < place_of j ks → key_at ks i ≡ j → ⊥
  unfolding place_of
  place_before [] i l e = omega arith
  place_before (k ∷ ks) i l e = go (same_key j k) refl i l e (place_before ks)
    where
      go : (b : Bool) → same_key j k ≡ b → (i : ℕ) → i < cond b 0 (suc (place_of j ks)) → key_at (k ∷ ks) i ≡ j
          → ((n : ℕ) → n < place_of j ks → key_at ks n ≡ j → ⊥) → ⊥
      go true s i l e h = omega arith
      go false s zero l e h = never (rw e (same_self j)) s
      go false s (suc i) l e h = h i (omega arith) e

  -- The place is the index before which no key is the same and at which, if it is one, the key is.
  pub place_is : (ks : List Key) (i : ℕ) → i ≤ length ks → (i < length ks → key_at ks i ≡ j) → ((n : ℕ) → n < i → key_at ks n ≡ j → ⊥) → place_of j ks ≡ i
  unfolding place_of
  place_is [] i l at before = omega arith
  place_is (k ∷ ks) zero l at before =
      let s : same_key j k ≡ true = rw (at (omega arith)) (same_self j) in
      rw s
  place_is (k ∷ ks) (suc i) l at before = go (same_key j k) refl (place_is ks i (omega arith) (λ m. at (omega arith)) (λ n m e. before (suc n) (omega arith) e))
    where
      go : (b : Bool) → same_key j k ≡ b → place_of j ks ≡ i → cond b 0 (suc (place_of j ks)) ≡ suc i
      go true s h = absurd (before 0 (omega arith) (sym (same_true j k s)))
      go false s h = ap suc h

  -- ---- the list with a key

  -- The list with a key that it has is the list itself.
  pub with_same : (ks : List Key) → place_of j ks < length ks → with_key j ks ≡ ks
  unfolding with_key alter place_of
  with_same [] l = absurd (omega arith)
  with_same (k ∷ ks) l = go (same_key j k) l (with_same ks)
    where
      go : (b : Bool) → cond b 0 (suc (place_of j ks)) < suc (length ks) → (place_of j ks < length ks → with_key j ks ≡ ks) → cond b (k ∷ ks) (k ∷ with_key j ks) ≡ k ∷ ks
      go true l h = refl
      go false l h = ap (λ (l : List Key). k ∷ l) (h (omega arith))

  -- A new key is appended.
  pub with_new : (ks : List Key) → length ks ≤ place_of j ks → with_key j ks ≡ ks ++ (j ∷ [])
  unfolding with_key alter place_of
  with_new [] l = refl
  with_new (k ∷ ks) l = go (same_key j k) l (with_new ks)
    where
      go : (b : Bool) → suc (length ks) ≤ cond b 0 (suc (place_of j ks)) → (length ks ≤ place_of j ks → with_key j ks ≡ ks ++ (j ∷ []))
          → cond b (k ∷ ks) (k ∷ with_key j ks) ≡ k ∷ (ks ++ (j ∷ []))
      go true l h = absurd (omega arith)
      go false l h = ap (λ (l : List Key). k ∷ l) (h (omega arith))

-- ---- each key once

pub key_once : (ks : List Key) → Distinct ks → (i n : ℕ) → i < length ks → n < length ks → key_at ks i ≡ key_at ks n → i ≡ n
key_once [] d i n l m e = absurd (omega arith)
key_once (k ∷ ks) d zero zero l m e = refl
key_once (k ∷ ks) d zero (suc n) l m e = absurd (never (mem_at k (make_key 0 0) ks n (omega arith) (rw (← e) (same_self k))) d.0)
key_once (k ∷ ks) d (suc i) zero l m e = absurd (never (mem_at k (make_key 0 0) ks i (omega arith) (rw e (same_self k))) d.0)
key_once (k ∷ ks) d (suc i) (suc n) l m e = ap suc (key_once ks d.1 i n (omega arith) (omega arith) e)

-- ---- one more row

module _ (rows : List Row) (i : ℕ) (inside : i < length rows) where
  -- The keys of one more row.
  pub keys_more : keys (take (suc i) rows) ≡ keyed (nth rows i) (keys (take i rows))
  keys_more = rw (take-suc rows i zero_row inside) (keys_next (take i rows) (nth rows i))

  -- A class row has none.
  pub keys_class : is_kind 1 (nth rows i) ≡ true → keys (take (suc i) rows) ≡ keys (take i rows)
  unfolding keyed
  keys_class e = keys_more ∙ rw e

  -- The key of any other row is there, or is appended.
  pub keys_same : is_kind 1 (nth rows i) ≡ false → place_of (key_of (nth rows i)) (keys (take i rows)) < length (keys (take i rows))
      → keys (take (suc i) rows) ≡ keys (take i rows)
  unfolding keyed
  keys_same e l = keys_more ∙ rw e (with_same (key_of (nth rows i)) (keys (take i rows)) l)

  pub keys_new : is_kind 1 (nth rows i) ≡ false → length (keys (take i rows)) ≤ place_of (key_of (nth rows i)) (keys (take i rows))
      → keys (take (suc i) rows) ≡ keys (take i rows) ++ (key_of (nth rows i) ∷ [])
  unfolding keyed
  keys_new e l = keys_more ∙ rw e (with_new (key_of (nth rows i)) (keys (take i rows)) l)

-- ---- the list with one key more

module _ (ks : List Key) (k : Key) where
  pub key_earlier : (i : ℕ) → i < length ks → key_at (ks ++ (k ∷ [])) i ≡ key_at ks i
  key_earlier i l = get_or-append ks (k ∷ []) (make_key 0 0) i l

  pub key_appended : key_at (ks ++ (k ∷ [])) (length ks) ≡ k
  key_appended = get_or_at ks k [] (make_key 0 0) (length ks) refl

  pub length_appended : length (ks ++ (k ∷ [])) ≡ length ks + 1
  length_appended = length-append ks (k ∷ [])
