-- The keys of rows: they are distinct, every row's key is among them, and those of the first rows come first.
-- Assumes nothing.
use Rattle.std.specs.Prelude.{◌≡◌, refl, ℕ, zero, suc, ◌<◌, Bool, true, false, cond, ◌||◌, List, [], ◌∷◌, ◌++◌, eqb, length, get_or}
use Rattle.std.proofs.Common.{sym, ap, ◌∙◌, arith, append-nil, append_assoc, eqb-true, eq-eqb}
use Rattle.decode.specs.Values.{and_left, and_right}
use Rattle.table.specs.Rows.{is_kind}
use Rattle.table.specs.declared.Row.{Row}
use Rattle.summaries.specs.Summaries.{Key, same_key, key_of, has, alter, with_key, keyed, keys_from, keys}

-- ---- one key

pub same_true : (j k : Key) → same_key j k ≡ true → j ≡ k
unfolding same_key
same_true j k e =
    let m : j.mark ≡ k.mark = eqb-true _ _ (and_left (eqb j.mark k.mark) (eqb j.class k.class) e) in
    let w : j.class ≡ k.class = eqb-true _ _ (and_right (eqb j.mark k.mark) (eqb j.class k.class) e) in
    λ i. record { mark = m i; class = w i }

pub same_self : (k : Key) → same_key k k ≡ true
unfolding same_key
same_self k = rw (eq-eqb k.mark k.mark refl, eq-eqb k.class k.class refl)

pub never : {b : Bool} → b ≡ true → b ≡ false → ⊥
never p q = let z : ◌≡◌ {A = ℕ} 0 1 = cc in omega arith

pub same_turn : (j k : Key) → same_key j k ≡ false → same_key k j ≡ false
same_turn j k e = go (same_key k j) refl
  where
    go : (b : Bool) → same_key k j ≡ b → same_key k j ≡ false
    go true t = absurd (never (same_self j) (rw (same_true k j t) at e))
    go false t = t

-- ---- a list of keys

-- Whether a key is among them.
unfoldable pub mem : Key → List Key → Bool
mem j [] = false
mem j (k ∷ ks) = ◌||◌ (same_key j k) (mem j ks)

-- No key occurs twice.
abbrev pub Distinct : List Key → Type 0
Distinct [] = Unit {0}
Distinct (k ∷ ks) = (mem k ks ≡ false) × Distinct ks

or_false : (a b : Bool) → ◌||◌ a b ≡ false → (a ≡ false) × (b ≡ false)
or_false true b e = absurd (never refl e)
or_false false b e = (refl, e)

or_right : (a b : Bool) → b ≡ true → ◌||◌ a b ≡ true
or_right true b e = refl
or_right false b e = e

-- One that is not there is none of them.
pub mem_none : (j k : Key) (ks : List Key) → mem j (k ∷ ks) ≡ false → (same_key j k ≡ false) × (mem j ks ≡ false)
unfolding mem
mem_none j k ks e = or_false (same_key j k) (mem j ks) e

-- The key at a place is there.
pub mem_at : (j d : Key) (ks : List Key) (i : ℕ) → i < length ks → same_key j (get_or ks i d) ≡ true → mem j ks ≡ true
unfolding mem
mem_at j d [] i l e = absurd (omega arith)
mem_at j d (k ∷ ks) zero l e = rw e
mem_at j d (k ∷ ks) (suc i) l e = or_right (same_key j k) (mem j ks) (mem_at j d ks i (omega arith) e)

-- ---- one key more

with_self : (j : Key) (ks : List Key) → mem j (with_key j ks) ≡ true
unfolding with_key alter mem
with_self j [] = rw (same_self j)
with_self j (k ∷ ks) = go (same_key j k) refl (with_self j ks)
  where
    go : (b : Bool) → same_key j k ≡ b → mem j (with_key j ks) ≡ true → mem j (cond b (k ∷ ks) (k ∷ with_key j ks)) ≡ true
    go true e h = rw e
    go false e h = rw (e, h)

with_keeps : (i j : Key) (ks : List Key) → mem i ks ≡ true → mem i (with_key j ks) ≡ true
unfolding with_key alter mem
with_keeps i j [] m = absurd (never m refl)
with_keeps i j (k ∷ ks) m = go (same_key j k) (same_key i k) refl (with_keeps i j ks)
  where
    go : (b c : Bool) → same_key i k ≡ c → (mem i ks ≡ true → mem i (with_key j ks) ≡ true) → mem i (cond b (k ∷ ks) (k ∷ with_key j ks)) ≡ true
    go true c e h = m
    go false true e h = rw e
    go false false e h = rw e (h (rw e at m))

pub with_other : (i j : Key) (ks : List Key) → same_key i j ≡ false → mem i (with_key j ks) ≡ mem i ks
unfolding with_key alter mem
with_other i j [] e = rw e
with_other i j (k ∷ ks) e = go (same_key j k) (with_other i j ks e)
  where
    go : (b : Bool) → mem i (with_key j ks) ≡ mem i ks → mem i (cond b (k ∷ ks) (k ∷ with_key j ks)) ≡ mem i (k ∷ ks)
    go true h = refl
    go false h = rw h

with_distinct : (j : Key) (ks : List Key) → Distinct ks → Distinct (with_key j ks)
unfolding with_key alter mem
with_distinct j [] d = (refl, tt)
with_distinct j (k ∷ ks) d = go (same_key j k) refl (with_distinct j ks d.1)
  where
    go : (b : Bool) → same_key j k ≡ b → Distinct (with_key j ks) → Distinct (cond b (k ∷ ks) (k ∷ with_key j ks))
    go true e h = d
    go false e h = (with_other k j ks (same_turn j k e) ∙ d.0, h)

-- ---- one row more

pub keyed_has : (k : Key) (r : Row) (ks : List Key) → has k r ≡ true → mem k (keyed r ks) ≡ true
unfolding has keyed
keyed_has k r ks h = go (is_kind 1 r) h
  where
    go : (b : Bool) → cond b false (same_key (key_of r) k) ≡ true → mem k (cond b ks (with_key (key_of r) ks)) ≡ true
    go true e = absurd (never e refl)
    go false e = rw (same_true (key_of r) k e) (with_self k ks)

keyed_keeps : (k : Key) (r : Row) (ks : List Key) → mem k ks ≡ true → mem k (keyed r ks) ≡ true
unfolding keyed
keyed_keeps k r ks m = go (is_kind 1 r)
  where
    go : (b : Bool) → mem k (cond b ks (with_key (key_of r) ks)) ≡ true
    go true = m
    go false = with_keeps k (key_of r) ks m

keyed_distinct : (r : Row) (ks : List Key) → Distinct ks → Distinct (keyed r ks)
unfolding keyed
keyed_distinct r ks d = go (is_kind 1 r)
  where
    go : (b : Bool) → Distinct (cond b ks (with_key (key_of r) ks))
    go true = d
    go false = with_distinct (key_of r) ks d

-- ---- the keys of rows

pub keep : (k : Key) (ks : List Key) (rows : List Row) → mem k ks ≡ true → mem k (keys_from ks rows) ≡ true
unfolding keys_from
keep k ks [] m = m
keep k ks (r ∷ rows) m = keep k (keyed r ks) rows (keyed_keeps k r ks m)

distinct_from : (ks : List Key) (rows : List Row) → Distinct ks → Distinct (keys_from ks rows)
unfolding keys_from
distinct_from ks [] d = d
distinct_from ks (r ∷ rows) d = distinct_from (keyed r ks) rows (keyed_distinct r ks d)

pub distinct : (rows : List Row) → Distinct (keys rows)
unfolding keys
distinct rows = distinct_from [] rows tt

pub keys_append : (ks : List Key) (a b : List Row) → keys_from ks (a ++ b) ≡ keys_from (keys_from ks a) b
unfolding keys_from
keys_append ks [] b = refl
keys_append ks (r ∷ a) b = keys_append (keyed r ks) a b

pub keys_next : (rows : List Row) (r : Row) → keys (rows ++ (r ∷ [])) ≡ keyed r (keys rows)
unfolding keys keys_from
keys_next rows r = keys_append [] rows (r ∷ [])

-- ---- what comes first

-- A list begins another.
abbrev pub Begins {ℓ} : {A : Type ℓ} → List A → List A → Type ℓ
Begins {A = A} a b = (c : List A) × (b ≡ a ++ c)

with_begins : (j : Key) (ks : List Key) → Begins ks (with_key j ks)
unfolding with_key alter
with_begins j [] = (j ∷ [], refl)
with_begins j (k ∷ ks) = go (same_key j k) (with_begins j ks)
  where
    go : (b : Bool) → Begins ks (with_key j ks) → Begins (k ∷ ks) (cond b (k ∷ ks) (k ∷ with_key j ks))
    go true h = ([], sym (append-nil (k ∷ ks)))
    go false h = (h.0, ap (λ l. k ∷ l) h.1)

keyed_begins : (r : Row) (ks : List Key) → Begins ks (keyed r ks)
unfolding keyed
keyed_begins r ks = go (is_kind 1 r)
  where
    go : (b : Bool) → Begins ks (cond b ks (with_key (key_of r) ks))
    go true = ([], sym (append-nil ks))
    go false = with_begins (key_of r) ks

begins_from : (ks : List Key) (rows : List Row) → Begins ks (keys_from ks rows)
unfolding keys_from
begins_from ks [] = ([], sym (append-nil ks))
begins_from ks (r ∷ rows) =
    let h = keyed_begins r ks in
    let t = begins_from (keyed r ks) rows in
    (h.0 ++ t.0, t.1 ∙ rw (h.1, append_assoc))

-- The keys of the first rows are the first keys of all.
pub keys_begin : (rows more : List Row) → Begins (keys rows) (keys (rows ++ more))
unfolding keys
keys_begin rows more = rw (keys_append [] rows more) (begins_from (keys_from [] rows) more)
