-- Where the entry of a key is: the search for it, hints for that search, and a changed entry as a store at its place.
-- Assumes nothing.
use Rattle.std.specs.Prelude.{◌≡◌, Bool, ◌&&◌, ltb, get_or}
use Rattle.std.proofs.Math.Path.{refl}
use Rattle.std.proofs.Common.{sym, ap, ◌∙◌, ltb-true}
use Prim.Native.Nat.{ℕ, zero, suc, ◌≤◌, ◌<◌}
use native.Mathlib.Omega.{arith}
use Rattle.std.proofs.Math.Bool.{true, false, cond, ◌||◌}
use mathlib.Core.List.{List, [], ◌∷◌, ◌++◌, map, append-nil}
use Rattle.std.proofs.Math.ListN.{length, set, get_or-map}
use Rattle.std.proofs.lemmas.List.{length-map}
use Rattle.decode.specs.Values.{and_left, and_right}
use Rattle.summaries.specs.Summaries.{Key, same_key, alter, its_key, fresh, change, change_or_add}
use Rattle.summaries.specs.SummaryKeys.{same_true, same_self, never, mem, mem_at, Distinct}
use Rattle.summaries.specs.declared.Summary.{Summary}

-- Whether an entry has this key.
abbrev pub is_of : Key → Summary → Bool
is_of j s = same_key j (its_key s)

-- The place of the first entry that has it; where none has, their count.
unfoldable pub seek : Key → List Summary → ℕ
seek j [] = 0
seek j (s ∷ ss) = cond (is_of j s) 0 (suc (seek j ss))

module _ (j : Key) (d : Summary) where
  -- No entry before the place has the key, and the one at the place has it.
  pub seek_most : (ss : List Summary) → seek j ss ≤ length ss
  unfolding seek
  seek_most [] = omega arith
  seek_most (s ∷ ss) = go (is_of j s) (seek_most ss)
    where
      go : (b : Bool) → seek j ss ≤ length ss → cond b 0 (suc (seek j ss)) ≤ suc (length ss)
      go true h = omega arith
      go false h = omega arith

  pub seek_has : (ss : List Summary) → seek j ss < length ss → is_of j (get_or ss (seek j ss) d) ≡ true
  unfolding seek
  seek_has [] l = absurd (omega arith)
  seek_has (s ∷ ss) l = go (is_of j s) refl l (seek_has ss)
    where
      go : (b : Bool) → is_of j s ≡ b → cond b 0 (suc (seek j ss)) < suc (length ss) → (seek j ss < length ss → is_of j (get_or ss (seek j ss) d) ≡ true)
          → is_of j (get_or (s ∷ ss) (cond b 0 (suc (seek j ss))) d) ≡ true
      go true e l h = e
      go false e l h = h (omega arith)

  pub seek_none : (ss : List Summary) → (seek j ss < length ss → ⊥) → mem j (map its_key ss) ≡ false
  unfolding seek mem
  seek_none [] n = refl
  seek_none (s ∷ ss) n = go (is_of j s) n (seek_none ss)
    where
      go : (b : Bool) → (cond b 0 (suc (seek j ss)) < suc (length ss) → ⊥) → ((seek j ss < length ss → ⊥) → mem j (map its_key ss) ≡ false)
          → ◌||◌ b (mem j (map its_key ss)) ≡ false
      go true n h = absurd (n (omega arith))
      go false n h = h (λ l. n (omega arith))

  -- An entry that has the key, wherever it was looked for, is the one that the search finds.
  pub hit : (ss : List Summary) (i : ℕ) → Distinct (map its_key ss) → i < length ss → is_of j (get_or ss i d) ≡ true → seek j ss ≡ i
  unfolding seek
  hit [] i u l e = absurd (omega arith)
  hit (s ∷ ss) zero u l e = rw e
  hit (s ∷ ss) (suc i) u l e = go (is_of j s) refl (hit ss i u.1 (omega arith) e)
    where
      there : mem j (map its_key ss) ≡ true
      there = mem_at j (its_key d) (map its_key ss) i (rw (length-map ss its_key) (omega arith)) (rw (get_or-map its_key ss i d) e)

      go : (b : Bool) → is_of j s ≡ b → seek j ss ≡ i → cond b 0 (suc (seek j ss)) ≡ suc i
      go true t h = absurd (never there (rw (same_true j (its_key s) t) u.0))
      go false t h = ap suc h

  -- So any hint will do: where it hits, it is the place; where it does not, the search decides.
  pub hinted : (ss : List Summary) → Distinct (map its_key ss) → (hint : ℕ)
      → cond (◌&&◌ (ltb hint (length ss)) (is_of j (get_or ss hint d))) hint (seek j ss) ≡ seek j ss
  hinted ss u hint = go (◌&&◌ (ltb hint (length ss)) (is_of j (get_or ss hint d))) refl
    where
      go : (b : Bool) → ◌&&◌ (ltb hint (length ss)) (is_of j (get_or ss hint d)) ≡ b → cond b hint (seek j ss) ≡ seek j ss
      go true e = sym (hit ss hint u (ltb-true _ _ (and_left _ (is_of j (get_or ss hint d)) e)) (and_right (ltb hint (length ss)) _ e))
      go false e = refl

  -- ---- a changed entry is a store at the place

  module _ (f : Summary → Summary) (more : List Summary) where
    alter_at : (ss : List Summary) → seek j ss < length ss → alter (is_of j) f more ss ≡ set ss (seek j ss) (f (get_or ss (seek j ss) d))
    unfolding alter seek
    alter_at [] l = absurd (omega arith)
    alter_at (s ∷ ss) l = go (is_of j s) l (alter_at ss)
      where
        go : (b : Bool) → cond b 0 (suc (seek j ss)) < suc (length ss)
            → (seek j ss < length ss → alter (is_of j) f more ss ≡ set ss (seek j ss) (f (get_or ss (seek j ss) d)))
            → cond b (f s ∷ ss) (s ∷ alter (is_of j) f more ss)
            ≡ set (s ∷ ss) (cond b 0 (suc (seek j ss))) (f (get_or (s ∷ ss) (cond b 0 (suc (seek j ss))) d))
        go true l h = refl
        go false l h = rw (h (omega arith))

    alter_end : (ss : List Summary) → (seek j ss < length ss → ⊥) → alter (is_of j) f more ss ≡ ss ++ more
    unfolding alter seek
    alter_end [] n = refl
    alter_end (s ∷ ss) n = go (is_of j s) n (alter_end ss)
      where
        go : (b : Bool) → (cond b 0 (suc (seek j ss)) < suc (length ss) → ⊥) → ((seek j ss < length ss → ⊥) → alter (is_of j) f more ss ≡ ss ++ more)
            → cond b (f s ∷ ss) (s ∷ alter (is_of j) f more ss) ≡ s ∷ (ss ++ more)
        go true n h = absurd (n (omega arith))
        go false n h = rw (h (λ l. n (omega arith)))

  module _ (f : Summary → Summary) (ss : List Summary) where
    pub change_at : seek j ss < length ss → change j f ss ≡ set ss (seek j ss) (f (get_or ss (seek j ss) d))
    unfolding change
    change_at = alter_at f [] ss

    pub change_end : (seek j ss < length ss → ⊥) → change j f ss ≡ ss
    unfolding change
    change_end n = alter_end f [] ss n ∙ append-nil ss

    pub add_at : seek j ss < length ss → change_or_add j f ss ≡ set ss (seek j ss) (f (get_or ss (seek j ss) d))
    unfolding change_or_add
    add_at = alter_at f (f (fresh j) ∷ []) ss

    pub add_end : (seek j ss < length ss → ⊥) → change_or_add j f ss ≡ ss ++ (f (fresh j) ∷ [])
    unfolding change_or_add
    add_end = alter_end f (f (fresh j) ∷ []) ss

-- No two entries have one key.
pub only : (d : Summary) (ss : List Summary) (i k : ℕ) → Distinct (map its_key ss) → i < length ss → k < length ss
    → its_key (get_or ss i d) ≡ its_key (get_or ss k d) → i ≡ k
only d ss i k u l m e =
    let j : Key = its_key (get_or ss i d) in
    sym (hit j d ss i u l (same_self j)) ∙ hit j d ss k u m (rw (← e) (same_self j))
