-- One more row: the summaries of rows and a row after them are what `note` makes of the summaries of those rows.
-- Assumes nothing.
use Rattle.std.proofs.Math.Path.{◌≡◌, refl}
use Rattle.std.proofs.Common.{sym, ◌∙◌, eqb-true}
use Rattle.std.specs.Prelude.{ℕ, ◌+◌, ◌*◌, Bool, ◌&&◌}
use native.Mathlib.Omega.{arith}
use Rattle.std.proofs.Math.Bool.{true, false, cond, ◌||◌}
use mathlib.Core.List.{List, [], ◌∷◌, ◌++◌, map}
use Rattle.table.specs.Rows.{is_kind}
use Rattle.table.specs.declared.Row.{Row}
use Rattle.table.specs.RowBytes.{is_class_at, bytes_of}
use Rattle.summaries.specs.Summaries.{waits, Key, same_key, key_of, has, alter, with_key, keyed, keys_from, keys, total, share, over, made, entry, summaries, its_key, fresh, sized, counted, change, change_or_add, class_key, note}
use Rattle.summaries.specs.ClassSizes.{known, size_at, bytes_are, waits_are}
use Rattle.summaries.specs.SummaryKeys.{same_true, same_self, never, mem, Distinct, mem_none, keyed_has, keep, distinct, keys_next}
use Rattle.summaries.specs.declared.Summary.{Summary}

-- ---- sums

module _ {A : Type 0} where
  pub total_next : (f : A → ℕ) (s : List A) (a : A) → total f (s ++ (a ∷ [])) ≡ total f s + f a
  unfolding total
  total_next f [] a = omega arith
  total_next f (x ∷ s) a = omega (arith, total_next f s a)

  pub total_same : (f g : A → ℕ) → ((a : A) → f a ≡ g a) → (s : List A) → total f s ≡ total g s
  unfolding total
  total_same f g e [] = refl
  total_same f g e (x ∷ s) = omega (arith, e x, total_same f g e s)

  pub total_none : (f : A → ℕ) → ((a : A) → f a ≡ 0) → (s : List A) → total f s ≡ 0
  unfolding total
  total_none f e [] = refl
  total_none f e (x ∷ s) = omega (arith, e x, total_none f e s)

  pub total_more : (f g h : A → ℕ) (c : ℕ) → ((a : A) → f a ≡ g a + h a * c) → (s : List A) → total f s ≡ total g s + total h s * c
  unfolding total
  total_more f g h c e [] = omega arith
  total_more f g h c e (x ∷ s) = omega (arith, e x, total_more f g h c e s)

made_is : (k : Key) {i i' b b' c c' w w' : ℕ} → i ≡ i' → b ≡ b' → c ≡ c' → w ≡ w' → made k i b c w ≡ made k i' b' c' w'
made_is k p q u v = rw (p, q, u, v)

-- ---- class rows, with one more row

-- 1 where no class row with that address is among the rows
abbrev lacks : List Row → ℕ → ℕ
lacks rows a = cond (known rows a) 0 1

module _ (r : Row) (a : ℕ) where
  pub size_unknown : (rows : List Row) → known rows a ≡ false → size_at rows a ≡ 0
  unfolding known size_at
  size_unknown [] e = refl
  size_unknown (x ∷ rows) e = go (is_class_at a x) e (size_unknown rows)
    where
      go : (b : Bool) → ◌||◌ b (known rows a) ≡ false → (known rows a ≡ false → size_at rows a ≡ 0) → cond b x.size (size_at rows a) ≡ 0
      go true e h = absurd (never refl e)
      go false e h = h e

  pub known_next : (rows : List Row) → known (rows ++ (r ∷ [])) a ≡ ◌||◌ (known rows a) (is_class_at a r)
  unfolding known
  known_next [] = go (is_class_at a r)
    where
      go : (b : Bool) → ◌||◌ b false ≡ b
      go true = refl
      go false = refl
  known_next (x ∷ rows) = go (is_class_at a x) (known_next rows)
    where
      go : (b : Bool) → known (rows ++ (r ∷ [])) a ≡ ◌||◌ (known rows a) (is_class_at a r)
          → ◌||◌ b (known (rows ++ (r ∷ [])) a) ≡ ◌||◌ (◌||◌ b (known rows a)) (is_class_at a r)
      go true h = refl
      go false h = h

  pub size_next : (rows : List Row) → size_at (rows ++ (r ∷ [])) a ≡ cond (known rows a) (size_at rows a) (cond (is_class_at a r) r.size 0)
  unfolding known size_at
  size_next [] = refl
  size_next (x ∷ rows) = go (is_class_at a x) (size_next rows)
    where
      go : (b : Bool) → size_at (rows ++ (r ∷ [])) a ≡ cond (known rows a) (size_at rows a) (cond (is_class_at a r) r.size 0)
          → cond b x.size (size_at (rows ++ (r ∷ [])) a)
          ≡ cond (◌||◌ b (known rows a)) (cond b x.size (size_at rows a)) (cond (is_class_at a r) r.size 0)
      go true h = refl
      go false h = h

  -- An object that waited for it gets its size, and waits no more.
  size_gain : (rows : List Row) → size_at (rows ++ (r ∷ [])) a ≡ size_at rows a + lacks rows a * cond (is_class_at a r) r.size 0
  size_gain rows = rw (size_next rows) (go (known rows a) refl)
    where
      go : (b : Bool) → known rows a ≡ b
          → cond b (size_at rows a) (cond (is_class_at a r) r.size 0) ≡ size_at rows a + cond b 0 1 * cond (is_class_at a r) r.size 0
      go true e = omega arith
      go false e = omega (arith, size_unknown rows e)

  wait_gain : (rows : List Row) → lacks (rows ++ (r ∷ [])) a ≡ cond (is_class_at a r) 0 (lacks rows a)
  wait_gain rows = rw (known_next rows) (go (known rows a) (is_class_at a r))
    where
      go : (b c : Bool) → ◌≡◌ {A = ℕ} (cond (◌||◌ b c) 0 1) (cond c 0 (cond b 0 1))
      go true true = refl
      go true false = refl
      go false true = refl
      go false false = refl

-- ---- an entry, with one more row

module _ (rows : List Row) (r : Row) where
  -- The row is the class row of this key.
  abbrev sizes : Key → Bool
  sizes k = ◌&&◌ (is_kind 1 r) (same_key (class_key r) k)

  -- Of a row.
  bytes_gain : (x : Row) → bytes_of (rows ++ (r ∷ [])) x ≡ bytes_of rows x + waits rows x * cond (is_class_at x.class r) r.size 0
  bytes_gain x = rw (bytes_are (rows ++ (r ∷ [])) x, bytes_are rows x, waits_are rows x) (go (is_kind 2 x) refl)
    where
      go : (b : Bool) → is_kind 2 x ≡ b
          → cond (is_kind 1 x) 0 (cond b (size_at (rows ++ (r ∷ [])) x.class) (4 * x.size))
          ≡ cond (is_kind 1 x) 0 (cond b (size_at rows x.class) (4 * x.size))
          + cond b (lacks rows x.class) 0 * cond (is_class_at x.class r) r.size 0
      go true e = let k : x.kind ≡ 2 = eqb-true _ _ e in rw k (size_gain r x.class rows)
      go false e = omega arith

  waits_gain : (x : Row) → waits (rows ++ (r ∷ [])) x ≡ cond (is_class_at x.class r) 0 (waits rows x)
  waits_gain x = rw (waits_are (rows ++ (r ∷ [])) x, waits_are rows x) (go (is_kind 2 x) (is_class_at x.class r) (wait_gain r x.class rows))
    where
      go : (b c : Bool) → lacks (rows ++ (r ∷ [])) x.class ≡ cond c 0 (lacks rows x.class)
          → cond b (lacks (rows ++ (r ∷ [])) x.class) 0 ≡ cond c 0 (cond b (lacks rows x.class) 0)
      go true c h = h
      go false true h = refl
      go false false h = refl

  -- Under a key the objects have one class.
  class_is : (k : Key) (x : Row) → has k x ≡ true → x.kind ≡ 2 → is_class_at x.class r ≡ sizes k
  unfolding has key_of is_class_at same_key
  class_is k x h e =
      let k' : record { mark = 0; class = x.class } ≡ k = same_true _ _ (rw e at h) in
      rw (← k')

  waits_none : (x : Row) → is_kind 2 x ≡ false → waits rows x ≡ 0
  unfolding waits
  waits_none x e = rw e

  module _ (k : Key) where
    share_bytes : (x : Row) → share k (bytes_of (rows ++ (r ∷ []))) x
        ≡ share k (bytes_of rows) x + share k (waits rows) x * cond (sizes k) r.size 0
    unfolding share
    share_bytes x = rw (bytes_gain x) (go (has k x) (is_kind 2 x) refl refl)
      where
        go : (b c : Bool) → has k x ≡ b → is_kind 2 x ≡ c
            → cond b (bytes_of rows x + waits rows x * cond (is_class_at x.class r) r.size 0) 0
            ≡ cond b (bytes_of rows x) 0 + cond b (waits rows x) 0 * cond (sizes k) r.size 0
        go false c e f = omega arith
        go true true e f = rw (class_is k x e (eqb-true _ _ f))
        go true false e f = rw (waits_none x f) (omega arith)

    share_waits : (x : Row) → share k (waits (rows ++ (r ∷ []))) x ≡ cond (sizes k) 0 (share k (waits rows) x)
    unfolding share
    share_waits x = rw (waits_gain x) (go (has k x) (is_kind 2 x) refl refl)
      where
        none : (b : Bool) → ◌≡◌ {A = ℕ} (cond b 0 0) 0
        none true = refl
        none false = refl

        go : (b c : Bool) → has k x ≡ b → is_kind 2 x ≡ c
            → cond b (cond (is_class_at x.class r) 0 (waits rows x)) 0 ≡ cond (sizes k) 0 (cond b (waits rows x) 0)
        go false c e f = sym (none (sizes k))
        go true true e f = rw (class_is k x e (eqb-true _ _ f))
        go true false e f = rw (waits_none x f) (none (is_class_at x.class r) ∙ sym (none (sizes k)))

    -- Of all rows before it.
    over_bytes : over k (bytes_of (rows ++ (r ∷ []))) rows ≡ over k (bytes_of rows) rows + over k (waits rows) rows * cond (sizes k) r.size 0
    over_bytes = total_more _ _ _ _ share_bytes rows

    over_waits : over k (waits (rows ++ (r ∷ []))) rows ≡ cond (sizes k) 0 (over k (waits rows) rows)
    over_waits = go (sizes k) share_waits
      where
        go : (b : Bool) → ((x : Row) → share k (waits (rows ++ (r ∷ []))) x ≡ cond b 0 (share k (waits rows) x))
            → over k (waits (rows ++ (r ∷ []))) rows ≡ cond b 0 (over k (waits rows) rows)
        go true e = total_none _ e rows
        go false e = total_same _ _ e rows

    entry_next : entry (rows ++ (r ∷ [])) k
        ≡ made
        k
        ((entry rows k).instances + share k (λ x. 1) r)
        ((entry rows k).bytes + (entry rows k).waiting * cond (sizes k) r.size 0 + share k (bytes_of (rows ++ (r ∷ []))) r)
        ((entry rows k).refs + share k (λ x. x.count) r)
        (cond (sizes k) 0 (entry rows k).waiting + share k (waits (rows ++ (r ∷ []))) r)
    unfolding entry
    entry_next = simp (total_next, over_bytes, over_waits)

    -- A class row: the entry of its key gets the bytes that its objects waited for.
    class_entry : is_kind 1 r ≡ true → entry (rows ++ (r ∷ [])) k ≡ cond (same_key (class_key r) k) (sized r.size (entry rows k)) (entry rows k)
    unfolding share has entry sized
    class_entry c = entry_next ∙ rw c (go (same_key (class_key r) k))
      where
        go : (b : Bool)
            → made
            k
            ((entry rows k).instances + 0)
            ((entry rows k).bytes + (entry rows k).waiting * cond b r.size 0 + 0)
            ((entry rows k).refs + 0)
            (cond b 0 (entry rows k).waiting + 0)
            ≡ cond b (sized r.size (entry rows k)) (entry rows k)
        go true = made_is k (omega arith) (omega arith) (omega arith) (omega arith)
        go false = made_is k (omega arith) (omega arith) (omega arith) (omega arith)

    -- Any other row: the entry of its key counts it.
    other_entry : is_kind 1 r ≡ false → entry (rows ++ (r ∷ [])) k ≡ cond (same_key (key_of r) k) (counted rows r (entry rows k)) (entry rows k)
    unfolding share has entry counted is_class_at
    other_entry c = entry_next ∙ rw (c, bytes_gain r, waits_gain r, c) (go (same_key (key_of r) k))
      where
        go : (b : Bool)
            → made
            k
            ((entry rows k).instances + cond b 1 0)
            ((entry rows k).bytes + (entry rows k).waiting * 0 + cond b (bytes_of rows r + waits rows r * 0) 0)
            ((entry rows k).refs + cond b r.count 0)
            ((entry rows k).waiting + cond b (waits rows r) 0)
            ≡ cond b (counted rows r (entry rows k)) (entry rows k)
        go true = made_is k (omega arith) (omega arith) (omega arith) (omega arith)
        go false = made_is k (omega arith) (omega arith) (omega arith) (omega arith)

-- ---- all entries, with one more row

-- A key that is not among the keys has no rows.
no_rows : (k : Key) (f : Row → ℕ) (ks : List Key) (rows : List Row) → mem k (keys_from ks rows) ≡ false → over k f rows ≡ 0
unfolding keys_from total share
no_rows k f ks [] e = refl
no_rows k f ks (r ∷ rows) e = go (has k r) refl (no_rows k f (keyed r ks) rows e)
  where
    go : (b : Bool) → has k r ≡ b → over k f rows ≡ 0 → cond b (f r) 0 + over k f rows ≡ 0
    go true h z = absurd (never (keep k (keyed r ks) rows (keyed_has k r ks h)) e)
    go false h z = omega arith

no_entry : (rows : List Row) (k : Key) → mem k (keys rows) ≡ false → entry rows k ≡ fresh k
unfolding entry keys
no_entry rows k e = made_is k (no_rows k _ [] rows e) (no_rows k _ [] rows e) (no_rows k _ [] rows e) (no_rows k _ [] rows e)

module _ (e e' : Key → Summary) (j : Key) (f : Summary → Summary)
    (its : (k : Key) → its_key (e k) ≡ k) (next : (k : Key) → e' k ≡ cond (same_key j k) (f (e k)) (e k)) where
  map_other : (ks : List Key) → mem j ks ≡ false → map e' ks ≡ map e ks
  map_other [] m = refl
  map_other (k ∷ ks) m =
      let n = mem_none j k ks m in
      rw (map_other ks n.1, next k, n.0)

  -- The entries, where the one of the key j changes, or is appended.
  map_alter : (ks more : List Key) → Distinct ks → (new : List Summary) → (mem j ks ≡ false → map e' more ≡ new)
      → map e' (alter (same_key j) (λ k. k) more ks) ≡ alter (λ s. same_key j (its_key s)) f new (map e ks)
  unfolding alter mem
  map_alter [] more d new m = m refl
  map_alter (k ∷ ks) more d new m = rw (its k) (go (same_key j k) refl (map_alter ks more d.1 new))
    where
      go : (b : Bool) → same_key j k ≡ b
          → ((mem j ks ≡ false → map e' more ≡ new) → map e' (alter (same_key j) (λ i. i) more ks) ≡ alter (λ s. same_key j (its_key s)) f new (map e ks))
          → map e' (cond b (k ∷ ks) (k ∷ alter (same_key j) (λ i. i) more ks))
          ≡ cond b (f (e k) ∷ map e ks) (e k ∷ alter (λ s. same_key j (its_key s)) f new (map e ks))
      go true t h = rw (next k, t, map_other ks (rw (same_true j k t) d.0))
      go false t h = rw (next k, t, h (λ a. m (rw t a)))

alter_none : (j : Key) (ks : List Key) → alter (same_key j) (λ k. k) [] ks ≡ ks
unfolding alter
alter_none j [] = refl
alter_none j (k ∷ ks) = go (same_key j k) (alter_none j ks)
  where
    go : (b : Bool) → alter (same_key j) (λ i. i) [] ks ≡ ks → cond b (k ∷ ks) (k ∷ alter (same_key j) (λ i. i) [] ks) ≡ k ∷ ks
    go true h = refl
    go false h = rw h

-- The summaries with one more row are what `note` makes of those before it.
pub step : (rows : List Row) (r : Row) → summaries (rows ++ (r ∷ [])) ≡ note rows (summaries rows) r
unfolding summaries note change change_or_add keyed with_key
step rows r = rw (keys_next rows r) (go (is_kind 1 r) refl)
  where
    next : Key → Summary
    next = entry (rows ++ (r ∷ []))

    its : (k : Key) → its_key (entry rows k) ≡ k
    its k = unfold entry in refl

    go : (b : Bool) → is_kind 1 r ≡ b
        → map next (cond b (keys rows) (alter (same_key (key_of r)) (λ k. k) (key_of r ∷ []) (keys rows)))
        ≡ cond b (change (class_key r) (sized r.size) (summaries rows)) (change_or_add (key_of r) (counted rows r) (summaries rows))
    go true c =
        let a = map_alter (entry rows) next (class_key r) (sized r.size) its (λ k. class_entry rows r k c) (keys rows) [] (distinct rows) [] (λ m. refl) in
        rw (alter_none (class_key r) (keys rows)) at a
    go false c =
        let n : (k : Key) → next k ≡ cond (same_key (key_of r) k) (counted rows r (entry rows k)) (entry rows k) = λ k. other_entry rows r k c in
        map_alter (entry rows) next (key_of r) (counted rows r) its n (keys rows) (key_of r ∷ []) (distinct rows) _ (λ m.
        rw (n (key_of r), same_self (key_of r), no_entry rows (key_of r) m))
