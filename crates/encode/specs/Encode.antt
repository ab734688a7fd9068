-- Numbers as they are encoded in a dump: big-endian bytes, gaps in two's complement, and the least widths that hold them
-- (docs/FORMAT.md 1.1, 1.2 and 6.2).
-- A reader must believe these definitions; FieldRoundTrip proves that the encoded fields are read back.
use Rattle.std.specs.Prelude.{ℕ, zero, suc, ◌+◌, ◌-◌, ◌/◌, ◌%◌, ◌^◌, Bool, cond, List, [], ◌∷◌, ◌++◌, leb, ltb, ℤ, pos, negsuc}

-- The concatenation of lists.
abbrev pub join : List (List ℕ) → List ℕ
join [] = []
join (x ∷ xs) = x ++ join xs

-- The lowest n bytes of v, the highest first.
unfoldable pub be : ℕ → ℕ → List ℕ
be zero v = []
be (suc n) v = be n (v / 256) ++ (v % 256 ∷ [])

-- The gap (the scope paper's term) from one address to another: their difference in units of 4 bytes, rounded down. (`negsuc n`
-- is -1 - n.)
unfoldable pub gap : ℕ → ℕ → ℤ
gap from to = cond (leb from to) (pos ((to - from) / 4)) (negsuc ((from - to - 1) / 4))

-- A signed number in two's complement of 64 bits. If n bytes hold the number, the lowest n bytes of this encode it.
unfoldable pub twos_complement : ℤ → ℕ
twos_complement (pos n) = n
twos_complement (negsuc n) = 2 ^ 64 - suc n

-- Whether n bytes hold a signed number: it lies in - 256 ^ n / 2 to 256 ^ n / 2 - 1.
unfoldable pub fits : ℕ → ℤ → Bool
fits n (pos m) = ltb (m + m) (256 ^ n)
fits n (negsuc m) = ltb (m + m) (256 ^ n)

-- The least width code that holds a signed number: 0 byte, 1 short, 2 int, 3 long.
unfoldable pub width_code : ℤ → ℕ
width_code g = cond (fits 1 g) 0 (cond (fits 2 g) 1 (cond (fits 4 g) 2 3))

-- The greater of two numbers.
abbrev pub max : ℕ → ℕ → ℕ
max a b = cond (leb a b) b a

-- The greatest of the width code m and the width codes of references, for a record at address a.
unfoldable pub refs_code : ℕ → ℕ → List ℕ → ℕ
refs_code m a [] = m
refs_code m a (r ∷ rs) = refs_code (max m (width_code (gap a r))) a rs

-- The bytes of references, w bytes each, for a record at address a.
unfoldable pub encode_ref_list : ℕ → ℕ → List ℕ → List ℕ
encode_ref_list w a [] = []
encode_ref_list w a (r ∷ rs) = be w (twos_complement (gap a r)) ++ encode_ref_list w a rs
