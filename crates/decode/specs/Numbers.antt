-- Numbers as a dump stores them: big-endian bytes, two's complement, and the exact sums that give an address.
-- A reader must believe that `value`, `signed`, `add_gap`, `to_count` and `all_within` state what docs/FORMAT.md 1.1 to 1.3, 3.4 and
-- 3.6 require.
use Rattle.std.specs.Prelude.{ℕ, suc, ◌+◌, ◌-◌, ◌*◌, ◌^◌, Bool, true, cond, ◌&&◌, List, [], ◌∷◌, leb, ltb, ℤ, pos, negsuc, Option, Some, None}
use Rattle.decode.specs.declared.SignCase.{SignCase}
use Rattle.decode.specs.declared.SignCase.TheVariants.{NonNeg, NegSuc}

-- The big-endian value of bytes that follow bytes of value v.
unfoldable pub value_after : ℕ → List ℕ → ℕ
value_after v [] = v
value_after v (b ∷ bs) = value_after (v * 256 + b) bs

-- The big-endian value of bytes. The value of no bytes is 0, so a field that a record lacks reads as 0.
abbrev pub value : List ℕ → ℕ
value bs = value_after 0 bs

-- Two's complement: the n-byte unsigned value v as a signed number. It is negative if the highest bit is set.
unfoldable pub signed : ℕ → ℕ → ℤ
signed n v = cond (ltb (v + v) (256 ^ n)) (pos v) (negsuc (256 ^ n - suc v))

-- A signed number, split by its sign.
unfoldable pub sign_case : ℤ → SignCase
sign_case (pos n) = NonNeg n
sign_case (negsuc n) = NegSuc n

-- The sum, if it lies in 0 to highest.
abbrev pub in_range : ℕ → ℕ → Option ℕ
in_range highest sum = cond (leb sum highest) (Some sum) None

-- base + 4 × gap, an exact sum, if it lies in 0 to highest. (`negsuc n` is -1 - n.)
-- A gap, the scope paper's term, is a distance between two addresses in units of 4 bytes.
unfoldable pub add_gap : ℕ → ℕ → ℤ → Option ℕ
add_gap highest base (pos n) = in_range highest (base + 4 * n)
add_gap highest base (negsuc n) = cond (leb (4 * suc n) base) (in_range highest (base - 4 * suc n)) None

-- The number as a count, a length or an instance size: it must lie in 0 to 2^31 - 1, whatever the field's width.
unfoldable pub to_count : ℤ → Option ℕ
to_count (pos n) = cond (ltb n (2 ^ 31)) (Some n) None
to_count (negsuc n) = None

-- Whether every byte is from low to high.
unfoldable pub all_within : ℕ → ℕ → List ℕ → Bool
all_within low high [] = true
all_within low high (b ∷ bs) = (leb low b && leb b high) && all_within low high bs
