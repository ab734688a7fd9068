-- The hash of an address. A reader need not believe it: no result depends on it.
use Rattle.std.specs.Prelude.{ℕ, ◌+◌, ◌*◌, ◌/◌, ◌%◌}

-- A multiplicative hash of 32 bits, of the upper and the lower bits of an address.
unfoldable pub hash : ℕ → ℕ
hash a = (a / 4 + a / 0x4_0000_0000) % 0x1_0000_0000 * 0x9E37_79B1 % 0x1_0000_0000
