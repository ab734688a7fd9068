-- Laws of the general path: the form of a tag is given, and references are checked one after another.
use Rattle.std.specs.Prelude.{◌≡◌, refl, ℕ, zero, suc, ◌/◌, ◌≤◌, ◌<◌, List, [], ◌∷◌, Result, Ok, Err, Option, Some, None}
use Rattle.std.proofs.Common.{arith, ⊎_elim}
use Rattle.std.specs.Option.{ok_or}
use Rattle.decode.specs.Layout.{yield, ◌>>=◌, need, run_yield, run_refuse}
use Rattle.decode.specs.Fields.{ref_field}
use Rattle.decode.specs.Reads.{Reads, reads_then, reads_stop, reads_yield, reads_position, reads_needs}
use Rattle.decode.specs.ReadsAs.{ReadsAs, reads_as_then, reads_as_stop, reads_as_yield, reads_as_value, reads_as_stopped}
use Rattle.decode.specs.declared.Stop.{Stop}
use Rattle.decode.specs.declared.Stop.TheVariants.{Refused}
use Rattle.decode.specs.declared.decoder.Decoder.{Decoder}
use Rattle.phd.specs.Phd.{need_form, ref_list, spanned_refs}
use Rattle.phd.specs.Shapes.{ValidBits}
use Rattle.phd.specs.declared.Form.{Form}
use Rattle.phd_record.specs.RecordReads.{dropped}

-- W in bytes is at most 8.
pub bits_bytes_le_8 : (w : ℕ) → ValidBits w → w / 8 ≤ 8
bits_bytes_le_8 w h = ⊎_elim (λ e. omega arith) (λ e. omega arith) h

-- What `ok_or` makes of the form of a tag, and of the class word from a slot.
module _ (d : Decoder) where
  pub reads_form : (o : Option Form) {r : Result Form Stop} → r ≡ ok_or o (Refused 6) → Reads (need_form o) d r d
  unfolding need_form
  reads_form (Some fm) e = rw e (record { same = refl; value = rw run_yield })
  reads_form None e = rw e (record { same = refl; value = rw run_refuse })

  pub reads_known : (q : ℕ) (o : Option ℕ) {r : Result ℕ Stop} → r ≡ ok_or o (Refused q) → Reads (need q o) d r d
  reads_known q o e = rw e (reads_needs q o d)

-- ---- references, one at a time

module _ (w base top : ℕ) where
  -- No references are left.
  pub refs_none : {n : ℕ} (d : Decoder) → n ≡ 0 → ReadsAs dropped (ref_list w base top n) d (Ok tt) d
  unfolding ref_list
  refs_none d e = rw e (reads_as_yield dropped [] d)

  -- One more reference, at the front of a list.
  with_front : (x n : ℕ) {d e : Decoder} {r : Result (Unit {0}) Stop} → ReadsAs dropped (ref_list w base top n) d r e
      → ReadsAs dropped (ref_list w base top n >>= (λ rs. yield (x ∷ rs))) d r e
  with_front x n {d} {e} {r = Ok u} p = let v = reads_as_value dropped p in reads_as_then dropped _ v.1 (reads_as_yield dropped (x ∷ v.0) e)
  with_front x n {r = Err s} p = reads_as_stop dropped _ (reads_as_stopped dropped p)

  -- The next reference and those after it.
  pub refs_next : {n m x : ℕ} {d e g : Decoder} {r : Result (Unit {0}) Stop} → n ≡ suc m → Reads (ref_field w base top) d (Ok x) e
      → ReadsAs dropped (ref_list w base top m) e r g → ReadsAs dropped (ref_list w base top n) d r g
  unfolding ref_list
  refs_next {m = m} {x = x} e p q = rw e (reads_as_then dropped _ p (with_front x m q))

  -- Reading stops in the next reference.
  pub refs_stop : {n : ℕ} {d e : Decoder} {s : Stop} → 0 < n → Reads (ref_field w base top) d (Err s) e
      → ReadsAs dropped (ref_list w base top n) d (Err s) e
  unfolding ref_list
  refs_stop {n = zero} h p = absurd (omega arith)
  refs_stop {n = suc k} h p = reads_as_stop dropped _ p

  -- The references with their span.
  pub spanned_read : (n : ℕ) {d e : Decoder} {u : Unit {0}} → ReadsAs dropped (ref_list w base top n) d (Ok u) e
      → (rs : List ℕ) × Reads (spanned_refs w base top n) d (Ok (record { span = record { place = d.at; width = w; count = n }; list = rs })) e
  unfolding spanned_refs
  spanned_read n {e = e} p = let v = reads_as_value dropped p in (v.0, reads_position _ (reads_then _ v.1 (reads_yield _ e)))

  pub spanned_stop : (n : ℕ) {d e : Decoder} {s : Stop} → ReadsAs dropped (ref_list w base top n) d (Err s) e
      → Reads (spanned_refs w base top n) d (Err s) e
  unfolding spanned_refs
  spanned_stop n p = reads_position _ (reads_stop _ (reads_as_stopped dropped p))
