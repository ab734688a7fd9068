-- By computation: the buckets at which the searches for eight neighbouring classes begin, 256 bytes apart. They are far from each other.
-- (A hash that gave one bucket for all addresses would make every text slow, and no contract would fail.)
use Rattle.std.specs.Prelude.{◌≡◌, refl, List, [], ◌∷◌, map, ℕ}
use Rattle.address_hash.specs.AddressHash.{hash}
use Rattle.class_index.specs.ClassIndex.{first_bucket}

abbrev addresses : List ℕ
addresses = 0x7_0000_0000 ∷ 0x7_0000_0100 ∷ 0x7_0000_0200 ∷ 0x7_0000_0300 ∷ 0x7_0000_0400 ∷ 0x7_0000_0500 ∷ 0x7_0000_0600 ∷ 0x7_0000_0700 ∷ []

-- In a small class index.
pub small_buckets : map (first_bucket 16448) addresses ≡ (6029 ∷ 15109 ∷ 7805 ∷ 500 ∷ 9580 ∷ 2275 ∷ 11355 ∷ 4051 ∷ [])
unfolding hash first_bucket
small_buckets = refl

-- In a large one.
pub large_buckets : map (first_bucket 131136) addresses ≡ (48238 ∷ 120875 ∷ 62440 ∷ 4005 ∷ 76642 ∷ 18207 ∷ 90844 ∷ 32408 ∷ [])
unfolding hash first_bucket
large_buckets = refl
