-- The kinds of field in a dump, each a layout, with the replies that it refuses with (docs/FORMAT.md 1.3, 3.4 and 3.6).
-- A reader must believe these definitions; the functions of this crate are proved equal to them.
use Rattle.std.specs.Prelude.{ℕ, ◌^◌, ◌<◌, true, false, not, leb, ltb, eqb}
use Rattle.decode.specs.Numbers.{signed, add_gap, to_count, all_within}
use Rattle.decode.specs.Layout.{Layout, yield, ◌>>=◌, ◌>>◌, position, raw, field, check, need}
use Rattle.decode.specs.declared.StringSpan.{StringSpan}

-- A field of n bytes that must be v, else `reply`.
unfoldable pub exactly : ℕ → ℕ → ℕ → Layout ℕ
exactly n v reply = do
  x ← field n
  check reply (eqb x v)
  yield x

-- A field of n bytes that must be below top, else `reply`.
unfoldable pub below : ℕ → ℕ → ℕ → Layout ℕ
below n top reply = do
  x ← field n
  check reply (ltb x top)
  yield x

-- An address, stored as a signed gap of n bytes from the address base: base + 4 × gap, in 0 to highest, else 8.
unfoldable pub address : ℕ → ℕ → ℕ → Layout ℕ
address n base highest = do
  gap ← field n
  need 8 (add_gap highest base (signed n gap))

-- A reference: an address stored as a gap from the address of its record; it must not be 0, else 9.
unfoldable pub ref_field : ℕ → ℕ → ℕ → Layout ℕ
ref_field n base highest = do
  r ← address n base highest
  check 9 (not (eqb r 0))
  yield r

-- A count, a length or the instance size of a class, signed in n bytes: 0 to 2^31 - 1, else 12.
unfoldable pub count : ℕ → Layout ℕ
count n = do
  c ← field n
  need 12 (to_count (signed n c))

-- A string: a two-byte length, at least `least`, and as many bytes, each from low to 0x7E; else 7.
unfoldable pub string : ℕ → ℕ → Layout StringSpan
string low least = do
  n ← field 2
  check 7 (leb least n)
  p ← position
  text ← raw n
  check 7 (all_within low 0x7E text)
  yield (record { present = true; place = p; len = n })

-- The absent string.
abbrev pub no_string : StringSpan
no_string = record { present = false; place = 0; len = 0 }
