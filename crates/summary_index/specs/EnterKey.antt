-- Entering a key in an empty bucket keeps the index right, and the key is found then.
-- Assumes nothing; no definition of a result uses it.
use Rattle.std.specs.Prelude.{◌≡◌, Bool, ◌&&◌, List, [], ◌∷◌, ◌++◌, set, Option, Some, None}
use Rattle.std.proofs.Math.Path.{refl}
use Rattle.std.proofs.Common.{◌∙◌, length-append}
use Prim.Native.Nat.{ℕ, zero, suc, ◌+◌, ◌≤◌, ◌<◌}
use Rattle.std.proofs.Math.Decide.{dec_lt, ℕ_discrete}
use native.Mathlib.Omega.{arith}
use Rattle.std.proofs.Math.Bool.{true, false, cond}
use Rattle.std.proofs.Math.ListN.{length, get_or-append}
use Rattle.std.proofs.lemmas.List.{get_or_at, get_or-set_same, get_or-set_other}
use Rattle.decode.specs.Values.{and_left, and_right}
use Rattle.summaries.specs.declared.Key.{Key as CodeKey}
use Rattle.summaries.specs.declared.Key.TheVariants.{Class, Primitive}
use Rattle.summaries.specs.Summaries.{Key, same_key}
use Rattle.summaries.specs.SummaryKeys.{same_self}
use Rattle.summaries.specs.EntrySteps.{numbers}
use Rattle.summary_index.specs.declared.Bucket.{Bucket}
use Rattle.summary_index.specs.SummaryIndex.{make_key, first_bucket, bucket_of, bucket_key, bucket_at, search_step, find_from, find, key_at, IndexHolds, has_means}

-- `enter`: of any index of keys of which the next, number i, is k, and which has not k, the buckets afterwards are an index with k too. It
-- stays complete if the key was entered.
abbrev pub EntersKey : Key → ℕ → (before after : List Bucket) → Bool → Type 0
EntersKey k i before after entered =
    (ks : List Key) (complete : Bool) → IndexHolds ks before complete → i ≡ length ks → ((j : ℕ) → j < length ks → key_at ks j ≡ k → ⊥)
    → IndexHolds (ks ++ (k ∷ [])) after (complete && entered)

-- ---- the list of keys with one more

module _ (ks : List Key) (k : Key) where
  key_before : (i : ℕ) → i < length ks → key_at (ks ++ (k ∷ [])) i ≡ key_at ks i
  key_before i l = get_or-append ks (k ∷ []) (make_key 0 0) i l

  key_last : key_at (ks ++ (k ∷ [])) (length ks) ≡ k
  key_last = get_or_at ks k [] (make_key 0 0) (length ks) refl

  length_more : length (ks ++ (k ∷ [])) ≡ length ks + 1
  length_more = length-append ks (k ∷ [])

-- ---- nothing entered

pub nothing_entered : (k : Key) (i : ℕ) (buckets : List Bucket) → EntersKey k i buckets buckets false
nothing_entered k i buckets ks complete w is new = record {
  sound = λ b j e.
      let s = w.sound b j e in
      (rw (length_more ks k) (omega (arith, s.0)), key_before ks k _ s.0 ∙ s.1);
  finds = λ e. absurd (let f : ◌≡◌ {A = Bool} false true = and_right complete false e in cc);
}

-- ---- entered in bucket b

bucket_of_key : (j : CodeKey) (i : ℕ) → bucket_key (bucket_of j i) ≡ Some j
bucket_of_key (Class class) i = refl
bucket_of_key (Primitive prim) i = refl

bucket_of_entry : (j : CodeKey) (i : ℕ) → (bucket_of j i).entry ≡ i
bucket_of_entry (Class class) i = refl
bucket_of_entry (Primitive prim) i = refl

module _ (key : CodeKey) (i : ℕ) (buckets : List Bucket) (b : ℕ) (empty : bucket_key (bucket_at buckets b) ≡ None) (inside : b < length buckets) where
  abbrev k : Key
  k = numbers key

  abbrev pub entered : List Bucket
  entered = set buckets b (bucket_of key i)

  bucket_here : bucket_at entered b ≡ bucket_of key i
  bucket_here = get_or-set_same buckets b (bucket_of key i) _ inside

  bucket_other : (c : ℕ) → (c ≡ b → ⊥) → bucket_at entered c ≡ bucket_at buckets c
  bucket_other c other = get_or-set_other buckets b c (bucket_of key i) _ other

  -- A search that found an entry before finds it after.
  keeps_from : (j : Key) (c n p : ℕ) → find_from buckets j c n ≡ Some p → find_from entered j c n ≡ Some p
  unfolding find_from
  keeps_from j c zero p e = e
  keeps_from j c (suc n) p e = by (ℕ_discrete c b) (keeps_from j (c + 1) n p)
    where
      rest : (o : Option CodeKey) → search_step j o (bucket_at buckets c).entry (find_from buckets j (c + 1) n) ≡ Some p
          → (find_from buckets j (c + 1) n ≡ Some p → find_from entered j (c + 1) n ≡ Some p)
          → search_step j o (bucket_at buckets c).entry (find_from entered j (c + 1) n) ≡ Some p
      rest None e h = e
      rest (Some m) e h = hit (same_key (numbers m) j) e
        where
          hit : (z : Bool) → cond z (Some (bucket_at buckets c).entry) (find_from buckets j (c + 1) n) ≡ Some p
              → cond z (Some (bucket_at buckets c).entry) (find_from entered j (c + 1) n) ≡ Some p
          hit true e = e
          hit false e = h e

      by : Dec (c ≡ b) → (find_from buckets j (c + 1) n ≡ Some p → find_from entered j (c + 1) n ≡ Some p)
          → search_step j (bucket_key (bucket_at entered c)) (bucket_at entered c).entry (find_from entered j (c + 1) n) ≡ Some p
      by (yes q) h = absurd (let z = rw (q, empty) at e in cc)
      by (no q) h = rw (bucket_other c q) (rest (bucket_key (bucket_at buckets c)) e h)

  -- Every bucket leads to the entry whose key it has.
  module _ {ks : List Key} {complete : Bool} (w : IndexHolds ks buckets complete) (is : i ≡ length ks) (new : (j : ℕ) → j < length ks → key_at ks j ≡ k → ⊥) where
    sound_after : (c : ℕ) (j : CodeKey) → bucket_key (bucket_at entered c) ≡ Some j
        → ((bucket_at entered c).entry < length (ks ++ (k ∷ []))) × (key_at (ks ++ (k ∷ [])) (bucket_at entered c).entry ≡ numbers j)
    sound_after c j e = by (ℕ_discrete c b)
      where
        by : Dec (c ≡ b) → ((bucket_at entered c).entry < length (ks ++ (k ∷ []))) × (key_at (ks ++ (k ∷ [])) (bucket_at entered c).entry ≡ numbers j)
        by (yes q) =
            let f : Some key ≡ Some j = rw (q, bucket_here, bucket_of_key key i) at e in
            let g : key ≡ j = cc in
            rw (q, bucket_here, bucket_of_entry key i, length_more ks k, is, ← g) (omega arith, key_last ks k)
        by (no q) =
            let s = w.sound c j (rw (bucket_other c q) at e) in
            rw (bucket_other c q, length_more ks k) (omega (arith, s.0), key_before ks k _ s.0 ∙ s.1)

    -- The search for the key finds it, if no bucket before b, from its first one on, is empty.
    finds_from : (c n : ℕ) → c ≤ b → b < c + n → ((d : ℕ) → c ≤ d → d < b → bucket_key (bucket_at buckets d) ≡ None → ⊥) → find_from entered k c n ≡ Some i
    unfolding find_from
    finds_from c zero l m full = absurd (omega arith)
    finds_from c (suc n) l m full = by (ℕ_discrete c b) (finds_from (c + 1) n)
      where
        -- A bucket before it has another key.
        other : (o : Option CodeKey) → bucket_key (bucket_at buckets c) ≡ o → (o ≡ None → ⊥) → find_from entered k (c + 1) n ≡ Some i
            → search_step k o (bucket_at buckets c).entry (find_from entered k (c + 1) n) ≡ Some i
        other None q f h = absurd (f refl)
        other (Some j) q f h = miss (same_key (numbers j) k) refl
          where
            miss : (z : Bool) → same_key (numbers j) k ≡ z → cond z (Some (bucket_at buckets c).entry) (find_from entered k (c + 1) n) ≡ Some i
            miss true s = let x = has_means w k c j q s in absurd (new _ x.0 x.1)
            miss false s = h

        by : Dec (c ≡ b) → (c + 1 ≤ b → b < c + 1 + n → ((d : ℕ) → c + 1 ≤ d → d < b → bucket_key (bucket_at buckets d) ≡ None → ⊥) → find_from entered k (c + 1) n ≡ Some i)
            → search_step k (bucket_key (bucket_at entered c)) (bucket_at entered c).entry (find_from entered k (c + 1) n) ≡ Some i
        by (yes q) h = rw (q, bucket_here, bucket_of_key key i, bucket_of_entry key i, same_self k)
        by (no q) h =
            rw (bucket_other c q)
            (other (bucket_key (bucket_at buckets c)) refl (full c (omega arith) (omega arith)) (h (omega arith) (omega arith) (λ d x y. full d (omega arith) y)))

    finds_after : first_bucket k ≤ b → b < first_bucket k + 64 → ((d : ℕ) → first_bucket k ≤ d → d < b → bucket_key (bucket_at buckets d) ≡ None → ⊥)
        → complete ≡ true → (j : ℕ) → j < length (ks ++ (k ∷ [])) → find entered (key_at (ks ++ (k ∷ [])) j) ≡ Some j
    unfolding find
    finds_after l m full c j inside_j = by (dec_lt j (length ks))
      where
        by : Dec (j < length ks) → find_from entered (key_at (ks ++ (k ∷ [])) j) (first_bucket (key_at (ks ++ (k ∷ [])) j)) 64 ≡ Some j
        by (yes q) = rw (key_before ks k j q) (keeps_from (key_at ks j) (first_bucket (key_at ks j)) 64 j (w.finds c j q))
        by (no q) =
            let e : j ≡ length ks = let z = length_more ks k in omega arith in
            rw (e, key_last ks k, ← is) (finds_from (first_bucket k) 64 l m full)

-- The law of entering: bucket b is the first empty one of those that the search for the key looks at.
pub key_entered : (key : CodeKey) (i : ℕ) (buckets : List Bucket) (b : ℕ) (empty : bucket_key (bucket_at buckets b) ≡ None) (inside : b < length buckets)
    → first_bucket (numbers key) ≤ b → b < first_bucket (numbers key) + 64
    → ((d : ℕ) → first_bucket (numbers key) ≤ d → d < b → bucket_key (bucket_at buckets d) ≡ None → ⊥)
    → EntersKey (numbers key) i buckets (set buckets b (bucket_of key i)) true
key_entered key i buckets b empty inside l m full ks complete w is new = record {
  sound = sound_after key i buckets b empty inside w is new;
  finds = λ e. finds_after key i buckets b empty inside w is new l m full (and_left complete true e);
}
