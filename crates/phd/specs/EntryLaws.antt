-- `entry` is `from_tag` with the current offset as the origin; laws of `from_tag` carry over to `entry`. A form without a flag
-- byte reads none.
-- Assumes nothing.
use Rattle.std.specs.Prelude.{◌≡◌, refl, Bool, true, false, not, ◌&&◌, ◌||◌, ℕ, ◌≤◌, length, List}
use Rattle.std.proofs.Common.{arith, le-ltb, ne_eqb}
use Rattle.decode.specs.Layout.{whole, run, run_then, run_position, run_field_empty, run_check, run_yield}
use Rattle.decode.specs.Values.{Gives, gives_then_any, Refuses, refuses_then, refuses_position}
use Rattle.phd.specs.Phd.{Item, bit, moved_bit, hashed_bit, flag_byte, from_tag, entry}
use Rattle.phd.specs.declared.cache.Cache.{Cache}
use Rattle.phd.specs.declared.Header.{Header}
use Rattle.phd.specs.declared.Origin.{Origin}

-- The origin of a record at offset `at`, with `index` references before it.
abbrev pub origin_at : ℕ → ℕ → Origin
origin_at at index = record { offset = at; index = index }

-- Without a flag byte no hash bit is set.
no_hash_bits : (all : Bool) (t : ℕ) → 0x20 ≤ t → not (all && (moved_bit t 0 || hashed_bit t 0)) ≡ true
unfolding moved_bit hashed_bit bit
no_hash_bits true t l = rw (ne_eqb t 6 (λ e. omega arith))
no_hash_bits false t l = refl

-- A tag of 0x20 or more has no flag byte: its flags are 0, and no byte is read.
pub no_flag_byte : (h : Header) (t : ℕ) (s : List ℕ) (at : ℕ) → 0x20 ≤ t → at ≤ length s → run (flag_byte h t) s at ≡ whole 0 at
unfolding flag_byte
no_flag_byte h t s at l i = rw (le-ltb t 0x20 l, run_then, run_field_empty s at i, run_then, run_check, no_hash_bits h.hashed t l, run_yield)

module _ (h : Header) (before : ℕ) (c : Cache) (index : ℕ) where
  -- Reading an entry is reading from its tag, with its own offset as the origin.
  pub entry_from_tag : (s : List ℕ) (at : ℕ) → run (entry h before c index) s at ≡ run (from_tag h before c (origin_at at index)) s at
  unfolding entry
  entry_from_tag s at = rw (run_then, run_position)

  -- A property of every value, or of every reply, of `from_tag` at any origin holds for `entry`.
  pub entry_gives : {s : List ℕ} {P : Item → Type 0} → ((origin : Origin) → Gives s P (from_tag h before c origin)) → Gives s P (entry h before c index)
  unfolding entry
  entry_gives g = gives_then_any _ _ (λ at. g (origin_at at index))

  pub entry_refuses : {P : ℕ → Type 0} → ((origin : Origin) → Refuses P (from_tag h before c origin)) → Refuses P (entry h before c index)
  unfolding entry
  entry_refuses g = refuses_then _ _ refuses_position (λ at. g (origin_at at index))
