-- Class rows may be summed up last: the summaries of rows are those of the other rows followed by the class rows. So one pass can count
-- the rows in their entries, and a second one, over the class rows, give the objects that wait their bytes.
-- Assumes nothing.
use Rattle.std.specs.Prelude.{◌≡◌, ℕ, suc, ◌+◌, ◌*◌, ◌<◌, Bool, ◌||◌, length, take}
use Rattle.std.proofs.Math.Path.{refl}
use Rattle.std.proofs.Common.{ap, ◌∙◌, arith, take-suc}
use Rattle.std.proofs.Math.Bool.{true, false, cond}
use mathlib.Core.List.{List, [], ◌∷◌, ◌++◌, map, append-nil, append_assoc}
use Rattle.table.specs.Rows.{is_kind, zero_row, nth}
use Rattle.table.specs.RowBytes.{is_class_at, bytes_of}
use Rattle.table.specs.declared.Row.{Row}
use Rattle.summaries.specs.Summaries.{waits, Key, key_of, has, keyed, keys_from, keys, total, share, over, made, entry, summaries, its_key, sized, counted, change, change_or_add, class_key, note}
use Rattle.summaries.specs.SummaryKeys.{keys_append}
use Rattle.summaries.specs.ClassSizes.{known, size_at, bytes_are, waits_are}
use Rattle.summaries.specs.SummaryStep.{total_same, step}
use Rattle.summaries.specs.declared.Summary.{Summary}

-- The class rows of a list, and the other rows.
unfoldable pub class_rows : List Row → List Row
class_rows [] = []
class_rows (r ∷ rows) = cond (is_kind 1 r) (r ∷ class_rows rows) (class_rows rows)

unfoldable pub others : List Row → List Row
others [] = []
others (r ∷ rows) = cond (is_kind 1 r) (others rows) (r ∷ others rows)

-- ---- keys

keys_others : (ks : List Key) (rows : List Row) → keys_from ks (others rows) ≡ keys_from ks rows
unfolding keys_from others keyed
keys_others ks [] = refl
keys_others ks (r ∷ rows) = go (is_kind 1 r) refl (λ js. keys_others js rows)
  where
    go : (b : Bool) → is_kind 1 r ≡ b → ((js : List Key) → keys_from js (others rows) ≡ keys_from js rows)
        → keys_from ks (cond b (others rows) (r ∷ others rows)) ≡ keys_from (keyed r ks) rows
    go true e h = rw e (h ks)
    go false e h = h (keyed r ks)

keyed_class : (r : Row) (ks : List Key) → is_kind 1 r ≡ true → keyed r ks ≡ ks
unfolding keyed
keyed_class r ks e = rw e

keys_class_rows : (ks : List Key) (rows : List Row) → keys_from ks (class_rows rows) ≡ ks
unfolding keys_from class_rows
keys_class_rows ks [] = refl
keys_class_rows ks (r ∷ rows) = go (is_kind 1 r) refl (keys_class_rows ks rows)
  where
    go : (b : Bool) → is_kind 1 r ≡ b → keys_from ks (class_rows rows) ≡ ks → keys_from ks (cond b (r ∷ class_rows rows) (class_rows rows)) ≡ ks
    go true e h = ap (λ (js : List Key). keys_from js (class_rows rows)) (keyed_class r ks e) ∙ h
    go false e h = h

-- The keys of rows are those of the other rows, whatever class rows follow.
pub keys_apart : (rows more : List Row) → keys (others rows ++ class_rows more) ≡ keys rows
unfolding keys
keys_apart rows more = keys_append [] (others rows) (class_rows more) ∙ (keys_class_rows (keys_from [] (others rows)) more ∙ keys_others [] rows)

-- ---- sums

pub total_append : {A : Type 0} (f : A → ℕ) (s t : List A) → total f (s ++ t) ≡ total f s + total f t
unfolding total
total_append f [] t = omega arith
total_append f (a ∷ s) t = omega (arith, total_append f s t)

module _ (k : Key) (f : Row → ℕ) where
  pub over_others : (rows : List Row) → over k f (others rows) ≡ over k f rows
  unfolding total others share has
  over_others [] = refl
  over_others (r ∷ rows) = go (is_kind 1 r) refl (over_others rows)
    where
      go : (b : Bool) → is_kind 1 r ≡ b → over k f (others rows) ≡ over k f rows → over k f (cond b (others rows) (r ∷ others rows)) ≡ share k f r + over k f rows
      go true e h = rw e (omega arith)
      go false e h = rw h

  pub over_class_rows : (rows : List Row) → over k f (class_rows rows) ≡ 0
  unfolding total class_rows share has
  over_class_rows [] = refl
  over_class_rows (r ∷ rows) = go (is_kind 1 r) refl (over_class_rows rows)
    where
      go : (b : Bool) → is_kind 1 r ≡ b → over k f (class_rows rows) ≡ 0 → over k f (cond b (r ∷ class_rows rows) (class_rows rows)) ≡ 0
      go true e h = rw e (omega arith)
      go false e h = h

  over_apart : (rows : List Row) → over k f (others rows ++ class_rows rows) ≡ over k f rows
  over_apart rows = total_append (share k f) (others rows) (class_rows rows) ∙ omega (arith, over_others rows, over_class_rows rows)

-- ---- class rows

module _ (a : ℕ) where
  known_others : (rows more : List Row) → known (others rows ++ more) a ≡ known more a
  unfolding known others is_class_at
  known_others [] more = refl
  known_others (r ∷ rows) more = go (is_kind 1 r) refl (known_others rows more)
    where
      go : (b : Bool) → is_kind 1 r ≡ b → known (others rows ++ more) a ≡ known more a → known (cond b (others rows) (r ∷ others rows) ++ more) a ≡ known more a
      go true e h = h
      go false e h = rw e h

  known_class_rows : (rows : List Row) → known (class_rows rows) a ≡ known rows a
  unfolding known class_rows is_class_at
  known_class_rows [] = refl
  known_class_rows (r ∷ rows) = go (is_kind 1 r) refl (known_class_rows rows)
    where
      go : (b : Bool) → is_kind 1 r ≡ b → known (class_rows rows) a ≡ known rows a → known (cond b (r ∷ class_rows rows) (class_rows rows)) a ≡ is_class_at a r || known rows a
      go true e h = rw h
      go false e h = rw e h

  pub size_others : (rows more : List Row) → size_at (others rows ++ more) a ≡ size_at more a
  unfolding size_at others is_class_at
  size_others [] more = refl
  size_others (r ∷ rows) more = go (is_kind 1 r) refl (size_others rows more)
    where
      go : (b : Bool) → is_kind 1 r ≡ b → size_at (others rows ++ more) a ≡ size_at more a → size_at (cond b (others rows) (r ∷ others rows) ++ more) a ≡ size_at more a
      go true e h = h
      go false e h = rw e h

  pub size_class_rows : (rows : List Row) → size_at (class_rows rows) a ≡ size_at rows a
  unfolding size_at class_rows is_class_at
  size_class_rows [] = refl
  size_class_rows (r ∷ rows) = go (is_kind 1 r) refl (size_class_rows rows)
    where
      go : (b : Bool) → is_kind 1 r ≡ b → size_at (class_rows rows) a ≡ size_at rows a → size_at (cond b (r ∷ class_rows rows) (class_rows rows)) a ≡ cond (is_class_at a r) r.size (size_at rows a)
      go true e h = rw h
      go false e h = rw e h

-- The rows with the class rows last have the same class rows, so the same bytes, and the same objects wait.
module _ (rows : List Row) where
  bytes_apart : (r : Row) → bytes_of (others rows ++ class_rows rows) r ≡ bytes_of rows r
  bytes_apart r = rw (bytes_are (others rows ++ class_rows rows) r, bytes_are rows r, size_others r.class rows (class_rows rows), size_class_rows r.class rows)

  waits_apart : (r : Row) → waits (others rows ++ class_rows rows) r ≡ waits rows r
  waits_apart r = rw (waits_are (others rows ++ class_rows rows) r, waits_are rows r, known_others r.class rows (class_rows rows), known_class_rows r.class rows)

  over_same : (k : Key) (f g : Row → ℕ) → ((r : Row) → f r ≡ g r) → over k f (others rows ++ class_rows rows) ≡ over k g rows
  unfolding share
  over_same k f g e = total_same (share k f) (share k g) (λ r. rw (e r)) (others rows ++ class_rows rows) ∙ over_apart k g rows

  entry_apart : (k : Key) → entry (others rows ++ class_rows rows) k ≡ entry rows k
  unfolding entry
  entry_apart k = rw (over_apart k (λ r. 1) rows, over_same k _ _ bytes_apart, over_apart k (λ r. r.count) rows, over_same k _ _ waits_apart)

  map_same : (ks : List Key) → map (entry (others rows ++ class_rows rows)) ks ≡ map (entry rows) ks
  map_same [] = refl
  map_same (k ∷ ks) = rw (entry_apart k, map_same ks)

  -- The theorem.
  pub class_rows_last : summaries (others rows ++ class_rows rows) ≡ summaries rows
  unfolding summaries
  class_rows_last = rw (keys_apart rows rows) (map_same (keys rows))

-- ---- one more row of each pass

others_append : (a b : List Row) → others (a ++ b) ≡ others a ++ others b
unfolding others
others_append [] b = refl
others_append (r ∷ a) b = go (is_kind 1 r) (others_append a b)
  where
    go : (c : Bool) → others (a ++ b) ≡ others a ++ others b → cond c (others (a ++ b)) (r ∷ others (a ++ b)) ≡ cond c (others a) (r ∷ others a) ++ others b
    go true h = h
    go false h = rw h

pub class_rows_append : (a b : List Row) → class_rows (a ++ b) ≡ class_rows a ++ class_rows b
unfolding class_rows
class_rows_append [] b = refl
class_rows_append (r ∷ a) b = go (is_kind 1 r) (class_rows_append a b)
  where
    go : (c : Bool) → class_rows (a ++ b) ≡ class_rows a ++ class_rows b → cond c (r ∷ class_rows (a ++ b)) (class_rows (a ++ b)) ≡ cond c (r ∷ class_rows a) (class_rows a) ++ class_rows b
    go true h = rw h
    go false h = h

-- The entries after the passes counted the first c rows and sized by the class rows among the first z.
unfoldable pub entries_after : List Row → ℕ → ℕ → List Summary
entries_after rows c z = summaries (others (take c rows) ++ class_rows (take z rows))

-- The entries of a pass that counted n rows and sized by all class rows among them.
pub entries_done : (rows : List Row) (n : ℕ) → entries_after rows n n ≡ summaries (take n rows)
unfolding entries_after
entries_done rows n = class_rows_last (take n rows)

-- An entry with a row counted in it that has these bytes, and 1 or 0 for an object that waits.
unfoldable pub count_entry : (bytes waiting : ℕ) → Row → Summary → Summary
count_entry bytes waiting r s = made (its_key s) (s.instances + 1) (s.bytes + bytes) (s.refs + r.count) (s.waiting + waiting)

counted_is : (rows : List Row) (r : Row) {b w : ℕ} → bytes_of rows r ≡ b → waits rows r ≡ w → counted rows r ≡ count_entry b w r
unfolding counted count_entry
counted_is rows r p q = λ i s. made (its_key s) (s.instances + 1) (s.bytes + p i) (s.refs + r.count) (s.waiting + q i)

-- What counting a row adds to its entry while no class row is there: an object waits, an array has its bytes.
abbrev pub count_bytes : Row → ℕ
count_bytes r = cond (is_kind 2 r) 0 (4 * r.size)

abbrev pub count_waits : Row → ℕ
count_waits r = cond (is_kind 2 r) 1 0

module _ (rows : List Row) (i : ℕ) (l : i < length rows) where
  abbrev row : Row
  row = nth rows i

  next_rows : take (suc i) rows ≡ take i rows ++ (row ∷ [])
  next_rows = take-suc rows i zero_row l

  -- A class row is not counted.
  pub count_class_row : is_kind 1 row ≡ true → entries_after rows (suc i) 0 ≡ entries_after rows i 0
  unfolding entries_after others class_rows
  count_class_row e = rw (next_rows, others_append (take i rows) (row ∷ []), e, append-nil)

  -- Any other row is counted in its entry.
  pub count_other : is_kind 1 row ≡ false
      → entries_after rows (suc i) 0 ≡ change_or_add (key_of row) (count_entry (count_bytes row) (count_waits row) row) (entries_after rows i 0)
  unfolding entries_after others class_rows note size_at known
  count_other e =
      let b : bytes_of (others (take i rows)) row ≡ count_bytes row = bytes_are (others (take i rows)) row ∙ rw (e, rw append-nil at (size_others row.class (take i rows) [])) in
      let w : waits (others (take i rows)) row ≡ count_waits row = waits_are (others (take i rows)) row ∙ rw (rw append-nil at (known_others row.class (take i rows) [])) in
      rw (next_rows, others_append (take i rows) (row ∷ []), e, append-nil, append-nil)
      (step (others (take i rows)) row ∙ rw (e, counted_is (others (take i rows)) row b w))

  module _ (c : ℕ) where
    -- A class row sizes the entry of its address.
    pub size_class_row : is_kind 1 row ≡ true → entries_after rows c (suc i) ≡ change (class_key row) (sized row.size) (entries_after rows c i)
    unfolding entries_after class_rows note
    size_class_row e =
        rw (next_rows, class_rows_append (take i rows) (row ∷ []), e, ← append_assoc)
        (step (others (take c rows) ++ class_rows (take i rows)) row ∙ rw e)

    -- Any other row changes nothing then.
    pub size_other : is_kind 1 row ≡ false → entries_after rows c (suc i) ≡ entries_after rows c i
    unfolding entries_after class_rows
    size_other e = rw (next_rows, class_rows_append (take i rows) (row ∷ []), e, append-nil)
