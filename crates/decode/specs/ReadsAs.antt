-- What a decoder's step promises that returns a layout's value in another form: as `Reads`, for that form of the value.
-- A reader must believe `ReadsAs`.
use Rattle.std.specs.Prelude.{◌≡◌, refl, ℕ, Bool, true, false, Result, Ok, Err}
use Rattle.std.proofs.Common.{sym, ap, ◌∙◌, arith}
use Rattle.decode.specs.Layout.{Layout, yield, run, Outcome, whole, stops, ◌>>=◌, position, run_then, run_yield, run_position}
use Rattle.decode.specs.Reads.{Reads, outcome}
use Rattle.decode.specs.declared.Stop.{Stop}
use Rattle.decode.specs.declared.decoder.Decoder.{Decoder}

-- The outcome with its value in the form that f gives it.
abbrev pub map_outcome : {A B : Type 0} → (A → B) → Outcome A → Outcome B
map_outcome f (whole a next) = whole (f a) next
map_outcome f (stops w) = stops w

-- A value in another form is of a value at the same offset.
pub mapped_whole : {A B : Type 0} (f : A → B) {o : Outcome A} {b : B} {n : ℕ} → map_outcome f o ≡ whole b n → (a : A) × (o ≡ whole a n) × (f a ≡ b)
mapped_whole f {o = whole a m} e = (a, ap (whole a) cc, cc)
mapped_whole f {o = stops w} e = let z : ◌≡◌ {A = ℕ} 0 1 = cc in absurd (omega arith)

-- A stop is the same in every form.
pub mapped_stops : {A B : Type 0} (f : A → B) {o : Outcome A} {w : Stop} → map_outcome f o ≡ stops w → o ≡ stops w
mapped_stops f {o = whole a n} e = let z : ◌≡◌ {A = ℕ} 0 1 = cc in absurd (omega arith)
mapped_stops f {o = stops u} e = ap stops cc

-- A step has read the layout l: it returned f of its value, or why reading stops, as in `Reads`.
pub record ReadsAs {A B : Type 0} (f : A → B) (l : Layout A) (before : Decoder) (r : Result B Stop) (after : Decoder) : Type 0 where
  pub same : after.bytes.now ≡ before.bytes.now
  pub value : outcome r after.at ≡ map_outcome f (run l before.bytes.now before.at)

module _ {A B C : Type 0} {l : Layout A} (g : B → C) (f : A → Layout B) {d e : Decoder} where
  -- A value, then the layout for it.
  pub reads_as_then : {a : A} {r : Result C Stop} {h : Decoder} → Reads l d (Ok a) e → ReadsAs g (f a) e r h → ReadsAs g (l >>= f) d r h
  reads_as_then p q = record { same = q.same ∙ p.same; value = rw (run_then, ← p.value, q.value, p.same) }

  -- A stop stops the sequence.
  pub reads_as_stop : {w : Stop} → Reads l d (Err w) e → ReadsAs g (l >>= f) d (Err w) e
  reads_as_stop p = record { same = p.same; value = rw (run_then, ← p.value) }

module _ {A B : Type 0} (g : A → B) where
  -- Where reading stops, the decoder may be at any offset.
  pub reads_as_stop_at : {l : Layout A} {d e h : Decoder} {w : Stop} → ReadsAs g l d (Err w) e → h.bytes.now ≡ e.bytes.now → ReadsAs g l d (Err w) h
  reads_as_stop_at p q = record { same = q ∙ p.same; value = p.value }

  pub reads_as_yield : (a : A) (d : Decoder) → ReadsAs g (yield a) d (Ok (g a)) d
  reads_as_yield a d = record { same = refl; value = rw run_yield }

  -- The current offset.
  pub reads_as_position : (f : ℕ → Layout A) {d e : Decoder} {r : Result B Stop} → ReadsAs g (f d.at) d r e → ReadsAs g (position >>= f) d r e
  reads_as_position f p = record { same = p.same; value = rw (run_then, run_position, p.value) }

  -- Where the step returned a value, the layout gave one with this form.
  pub reads_as_value : {l : Layout A} {d e : Decoder} {b : B} → ReadsAs g l d (Ok b) e → (a : A) × (Reads l d (Ok a) e) × (g a ≡ b)
  reads_as_value p = let v = mapped_whole g (sym p.value) in (v.0, record { same = p.same; value = sym v.1 }, v.2)

  -- Where the step stopped, so does the layout.
  pub reads_as_stopped : {l : Layout A} {d e : Decoder} {w : Stop} → ReadsAs g l d (Err w) e → Reads l d (Err w) e
  reads_as_stopped p = record { same = p.same; value = sym (mapped_stops g (sym p.value)) }
