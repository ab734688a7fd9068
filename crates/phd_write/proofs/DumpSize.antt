-- The sizes of the header and of the rows add up to the size of the dump.
-- Assumes nothing.
use mathlib.Core.Path.{◌≡◌, sym, ap, ◌∙◌}
use Prim.Native.Nat.{ℕ, ◌+◌}
use mathlib.Core.List.{List}
use lib.ListN.{length, length-append}
use Rattle.phd.specs.Phd.{empty_cache}
use Rattle.phd.specs.declared.Header.{Header}
use Rattle.table.specs.Rows.{recs}
use Rattle.table.specs.declared.Row.{Row}
use Rattle.phd_write.specs.Write.{encode_header, encode_records, encode_dump}
use Rattle.phd_write.specs.WriteTerms.{dump_of}

module _ (h : Header) (names refs : List ℕ) (rows : List Row) where
  -- If `first` is the size of the header and `size` adds that of the rows, `size` is the size of the dump.
  pub dump_size_sum : (first size : ℕ) → first ≡ length (encode_header names h) → size ≡ first + length (encode_records h 0 empty_cache (recs names refs rows))
      → size ≡ length (dump_of h names refs rows)
  unfolding encode_dump
  dump_size_sum first size e f = f ∙ ap (λ n. n + length (encode_records h 0 empty_cache (recs names refs rows))) e ∙ sym (length-append (encode_header names h) _)
