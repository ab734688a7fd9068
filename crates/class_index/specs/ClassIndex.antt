-- The class index: buckets, each 0 or one more than the index of a row. Nothing is assumed of what they hold: the search by any buckets
-- is defined, and so is a test by which it finds the first class row with each address (proofs/Certified.antt has the theorem).
-- No definition of the text uses it. A reader need not believe it: a search is only made by buckets that pass the test.
use Rattle.std.specs.Prelude.{ℕ, ◌-◌, ◌/◌, ◌≤◌, ◌<◌, ◌≡◌, Bool, true, false, cond, ◌&&◌, List, [], ◌∷◌, eqb, ltb, leb, length, take, drop, Option, Some, None}
use Rattle.std.proofs.Common.{Bor}
use Rattle.address_hash.specs.AddressHash.{hash}
use Rattle.table.specs.Rows.{is_kind, nth}
use Rattle.table.specs.declared.Row.{Row}
use Rattle.table.specs.RowBytes.{is_class_at, class_at}

-- ---- the search

-- The bucket, of n, at which the search for an address begins: of a small class index one of 16,384, of a large one of 131,072.
unfoldable pub first_bucket : (n address : ℕ) → ℕ
first_bucket n a = cond (ltb n 0x2_0040) (hash a / 0x4_0000) (hash a / 0x8000)

-- Whether there is a row i and it is a class row with the address a.
unfoldable pub is_class_row : List Row → ℕ → ℕ → Bool
is_class_row rows a i = ltb i (length rows) && is_class_at a (nth rows i)

-- The search for the address a in a list of buckets: it ends at the first empty bucket, and at the first that leads to a class row with
-- that address.
unfoldable pub search_in : List Row → ℕ → List ℕ → Option ℕ
search_in rows a [] = None
search_in rows a (entry ∷ buckets) = cond (eqb entry 0) None (cond (is_class_row rows a (entry - 1)) (Some (entry - 1)) (search_in rows a buckets))

-- The search for the address a in at most 64 buckets, from its first bucket on.
unfoldable pub search_buckets : List Row → (buckets : List ℕ) → ℕ → Option ℕ
search_buckets rows buckets a = search_in rows a (take 64 (drop (first_bucket (length buckets) a) buckets))

-- ---- the certificate

-- Whether a search found row i or one before it.
unfoldable pub at_or_before : ℕ → Option ℕ → Bool
at_or_before i (Some j) = leb j i
at_or_before i None = false

-- Whether the search for the address of row i, if it is a class row, finds it or a row before it.
unfoldable pub row_certified : List Row → (buckets : List ℕ) → ℕ → Bool
row_certified rows buckets i = cond (is_kind 1 (nth rows i)) (at_or_before i (search_buckets rows buckets (nth rows i).address)) true

-- It is so for all rows from index i on.
abbrev pub CertifiedFrom : List Row → (buckets : List ℕ) → ℕ → Type 0
CertifiedFrom rows buckets i = (k : ℕ) → i ≤ k → k < length rows → row_certified rows buckets k ≡ true

-- If the buckets are certified, searching them for any address is the class search.
pub record BucketsHold (rows : List Row) (buckets : List ℕ) (certified : Bool) : Type 0 where
  pub finds : certified ≡ true → (a : ℕ) → search_buckets rows buckets a ≡ class_at rows a

-- Searching the buckets, where there are certified ones, for any address is the class search.
pub record IndexHolds (rows : List Row) (certified : Option (Bor (List ℕ))) : Type 0 where
  pub finds : (buckets : Bor (List ℕ)) → certified ≡ Some buckets → (a : ℕ) → search_buckets rows buckets.now a ≡ class_at rows a
