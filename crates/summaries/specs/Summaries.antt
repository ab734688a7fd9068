-- The class summaries of rows: one entry for each class word, of objects and object arrays, and for each primitive type, of primitive
-- arrays, in order of first use (docs/FORMAT.md 5.4). The bytes are those of the text (`bytes_of`).
-- A reader must believe `summaries` and what it is defined by, up to `summaries`. After it: what one more row makes of the entries.
use Rattle.std.specs.Prelude.{ℕ, ◌+◌, ◌*◌, Bool, false, cond, ◌&&◌, List, [], ◌∷◌, map, eqb}
use Rattle.table.specs.Rows.{is_kind}
use Rattle.table.specs.RowBytes.{class_at, is_not_found, bytes_of}
use Rattle.table.specs.declared.Row.{Row}
use Rattle.summaries.specs.declared.Summary.{Summary}

-- ---- keys

-- What an entry is of: a class word (mark 0), or a primitive type (mark 1).
pub record Key : Type 0 where
  pub mark : ℕ
  pub class : ℕ

unfoldable pub same_key : Key → Key → Bool
same_key j k = eqb j.mark k.mark && eqb j.class k.class

-- The key of a row that is not a class row.
unfoldable pub key_of : Row → Key
key_of r = cond (is_kind 4 r) (record { mark = 1; class = r.prim }) (record { mark = 0; class = r.class })

-- Whether a row is counted in the entry of a key. A class row is counted in none.
unfoldable pub has : Key → Row → Bool
has k r = cond (is_kind 1 r) false (same_key (key_of r) k)

-- A list with the first element that passes a test changed; if none does, with `more` appended.
unfoldable pub alter {ℓ} : {A : Type ℓ} → (A → Bool) → (A → A) → List A → List A → List A
alter test f more [] = more
alter test f more (a ∷ rest) = cond (test a) (f a ∷ rest) (a ∷ alter test f more rest)

-- A list of keys with the key j, appended if it is new.
unfoldable pub with_key : Key → List Key → List Key
with_key j ks = alter (same_key j) (λ k. k) (j ∷ []) ks

-- A list of keys with that of a row.
unfoldable pub keyed : Row → List Key → List Key
keyed r ks = cond (is_kind 1 r) ks (with_key (key_of r) ks)

unfoldable pub keys_from : List Key → List Row → List Key
keys_from ks [] = ks
keys_from ks (r ∷ rows) = keys_from (keyed r ks) rows

-- The keys of rows, in order of first use.
unfoldable pub keys : List Row → List Key
keys rows = keys_from [] rows

-- ---- entries

unfoldable pub total {ℓ} : {A : Type ℓ} → (A → ℕ) → List A → ℕ
total f [] = 0
total f (a ∷ rest) = f a + total f rest

-- What a row adds to the entry of a key, and the sum over rows.
unfoldable pub share : Key → (Row → ℕ) → Row → ℕ
share k f r = cond (has k r) (f r) 0

abbrev pub over : Key → (Row → ℕ) → List Row → ℕ
over k f rows = total (share k f) rows

-- 1 for an object whose class row is not among the rows.
unfoldable pub waits : List Row → Row → ℕ
waits rows r = cond (is_kind 2 r && is_not_found (class_at rows r.class)) 1 0

-- An entry by its key and its numbers.
abbrev pub made : Key → (instances bytes refs waiting : ℕ) → Summary
made k instances bytes refs waiting =
    record { class = k.class; mark = k.mark; instances = instances; bytes = bytes; refs = refs; waiting = waiting }

-- The entry of a key: instances, bytes, references, and objects whose class row is not among the rows.
unfoldable pub entry : List Row → Key → Summary
entry rows k = made k (over k (λ r. 1) rows) (over k (bytes_of rows) rows) (over k (λ r. r.count) rows) (over k (waits rows) rows)

-- The class summaries of rows.
unfoldable pub summaries : List Row → List Summary
summaries rows = map (entry rows) (keys rows)

-- ---- one more row

abbrev pub its_key : Summary → Key
its_key s = record { mark = s.mark; class = s.class }

-- An entry without instances.
abbrev pub fresh : Key → Summary
fresh k = made k 0 0 0 0

-- An entry when the class row of its objects is found: each of them has n bytes.
unfoldable pub sized : ℕ → Summary → Summary
sized n s = made (its_key s) s.instances (s.bytes + s.waiting * n) s.refs 0

-- An entry with one more row, after the rows before it.
unfoldable pub counted : List Row → Row → Summary → Summary
counted rows r s = made (its_key s) (s.instances + 1) (s.bytes + bytes_of rows r) (s.refs + r.count) (s.waiting + waits rows r)

-- The entry of a key changed, if there is one.
unfoldable pub change : Key → (Summary → Summary) → List Summary → List Summary
change j f ss = alter (λ s. same_key j (its_key s)) f [] ss

-- The entry of a key changed, or a new one appended.
unfoldable pub change_or_add : Key → (Summary → Summary) → List Summary → List Summary
change_or_add j f ss = alter (λ s. same_key j (its_key s)) f (f (fresh j) ∷ []) ss

-- The key of a class row's instances.
abbrev pub class_key : Row → Key
class_key r = record { mark = 0; class = r.address }

-- Summaries with one more row, after the rows before it.
unfoldable pub note : List Row → List Summary → Row → List Summary
note rows ss r = cond (is_kind 1 r) (change (class_key r) (sized r.size) ss) (change_or_add (key_of r) (counted rows r) ss)
