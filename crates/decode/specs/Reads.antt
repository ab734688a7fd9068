-- What a decoder's step promises: that it reads a layout. Laws for steps one after another, which follow the layout's own form.
-- A reader must believe `Reads`.
use Rattle.std.specs.Prelude.{◌≡◌, refl, ℕ, ◌+◌, ◌-◌, ◌≤◌, ◌<◌, Bool, true, false, List, length, take, drop, Result, Ok, Err, Option, Some, None}
use Rattle.std.proofs.Common.{sym, ◌∙◌, arith}
use Rattle.std.specs.Borrow.{Bor}
use Rattle.std.specs.Result.{IsErr, IsErrAnd}
use Rattle.std.specs.Option.{ok_or}
use Rattle.std.proofs.lemmas.Result.{err_from_is_err_and}
use Rattle.decode.specs.Layout.{Layout, yield, refuse, run, run_refuse, Outcome, whole, stops, ◌>>=◌, check, need, need_outcome, position, run_then, run_yield, run_check, run_need, run_position, raw, run_raw, run_raw_short}
use Rattle.decode.specs.declared.Stop.{Stop}
use Rattle.decode.specs.declared.Stop.TheVariants.{Cut, Refused}
use Rattle.decode.specs.declared.decoder.Decoder.{Decoder}

-- What the exit of a `?` returns: the stop of the call.
pub stopped : {A : Type 0} {r : Result A Stop} {w : Stop} → IsErr r × IsErrAnd r (λ x. x ≡ w) → r ≡ Err w
stopped {r = r} h = let p = err_from_is_err_and r h.1 in rw (p.1, p.2)

-- The outcome that a result represents; `next` is the offset after the value, which a stop does not use.
abbrev pub outcome : {A : Type 0} → Result A Stop → ℕ → Outcome A
outcome (Ok a) next = whole a next
outcome (Err w) next = stops w

-- The bytes that a result refers to, as a list.
abbrev pub bytes_of : Result (Bor (List ℕ)) Stop → Result (List ℕ) Stop
bytes_of (Ok b) = Ok b.now
bytes_of (Err w) = Err w

-- A step has read the layout l: it returned r, and the decoder is at the offset after the value, over the same bytes. Where reading
-- stops, the offset is not said.
pub record Reads {A : Type 0} (l : Layout A) (before : Decoder) (r : Result A Stop) (after : Decoder) : Type 0 where
  pub same : after.bytes.now ≡ before.bytes.now
  pub value : outcome r after.at ≡ run l before.bytes.now before.at

module _ {A B : Type 0} {l : Layout A} (f : A → Layout B) {d e : Decoder} where
  -- A value, then the layout for it.
  pub reads_then : {a : A} {r : Result B Stop} {g : Decoder} → Reads l d (Ok a) e → Reads (f a) e r g → Reads (l >>= f) d r g
  reads_then p q = record { same = q.same ∙ p.same; value = rw (run_then, ← p.value, q.value, p.same) }

  -- A stop stops the sequence.
  pub reads_stop : {w : Stop} → Reads l d (Err w) e → Reads (l >>= f) d (Err w) e
  reads_stop p = record { same = p.same; value = rw (run_then, ← p.value) }

-- Where reading stops, the decoder may be at any offset.
pub reads_stop_at : {A : Type 0} {l : Layout A} {d e g : Decoder} {w : Stop} → Reads l d (Err w) e → g.bytes.now ≡ e.bytes.now → Reads l d (Err w) g
reads_stop_at p h = record { same = h ∙ p.same; value = p.value }

module _ {A : Type 0} where
  pub reads_yield : (a : A) (d : Decoder) → Reads (yield a) d (Ok a) d
  reads_yield a d = record { same = refl; value = sym (run_yield a d.bytes.now d.at) }

  -- A test that holds, and one that does not.
  pub reads_checked : (q : ℕ) {b : Bool} (f : Unit {0} → Layout A) {d e : Decoder} {r : Result A Stop}
      → b ≡ true → Reads (f tt) d r e → Reads (check q b >>= f) d r e
  reads_checked q f h p = record { same = p.same; value = rw (run_then, run_check, h, p.value) }

  pub reads_refused : (q : ℕ) {b : Bool} (f : Unit {0} → Layout A) {d : Decoder}
      → b ≡ false → Reads (check q b >>= f) d (Err (Refused q)) d
  reads_refused q f h = record { same = refl; value = rw (run_then, run_check, h) }

  pub reads_refuse : (q : ℕ) (d : Decoder) → Reads {A = A} (refuse q) d (Err (Refused q)) d
  reads_refuse q d = record { same = refl; value = sym (run_refuse q d.bytes.now d.at) }

  -- The current offset.
  pub reads_position : (f : ℕ → Layout A) {d e : Decoder} {r : Result A Stop} → Reads (f d.at) d r e → Reads (position >>= f) d r e
  reads_position f p = record { same = p.same; value = rw (run_then, run_position, p.value) }

-- A test at the end of a layout, which holds, and one that does not.
pub reads_check : (q : ℕ) {b : Bool} {d : Decoder} → b ≡ true → Reads (check q b) d (Ok tt) d
reads_check q h = record { same = refl; value = rw (run_check, h) }

pub reads_check_refused : (q : ℕ) {b : Bool} {d : Decoder} → b ≡ false → Reads (check q b) d (Err (Refused q)) d
reads_check_refused q h = record { same = refl; value = rw (run_check, h) }

module _ {A : Type 0} (n : ℕ) (f : List ℕ → Layout A) {d : Decoder} where
  -- The next n bytes, if they are there.
  pub reads_raw : {e g : Decoder} {r : Result A Stop} → d.at + n ≤ length d.bytes.now → e.bytes.now ≡ d.bytes.now → e.at ≡ d.at + n
      → Reads (f (take n (drop d.at d.bytes.now))) e r g → Reads (raw n >>= f) d r g
  reads_raw h b p q = record { same = q.same ∙ b; value = rw (run_then, run_raw n _ _ h, q.value, b, p) }

  -- The same, if reading stops after them.
  pub reads_raw_stop : {w : Stop} → d.at + n ≤ length d.bytes.now → run (f (take n (drop d.at d.bytes.now))) d.bytes.now (d.at + n) ≡ stops w
      → Reads (raw n >>= f) d (Err w) d
  reads_raw_stop h q = record { same = refl; value = rw (run_then, run_raw n _ _ h, q) }

  pub reads_cut : {left : ℕ} → left ≡ length d.bytes.now - d.at → left < n → d.at ≤ length d.bytes.now → Reads (raw n >>= f) d (Err (Cut (n - left))) d
  reads_cut {left} e h i =
      let short : length d.bytes.now < d.at + n = omega arith in
      let lacks : d.at + n - length d.bytes.now ≡ n - left = omega arith in
      record { same = refl; value = rw (run_then, run_raw_short n _ _ short, lacks) }

-- What `ok_or` makes of a value that may be absent.
pub reads_needs : (q : ℕ) (m : Option ℕ) (d : Decoder) → Reads (need q m) d (ok_or m (Refused q)) d
reads_needs q m d = record { same = refl; value = rw run_need (by m) }
  where
    by : (o : Option ℕ) → outcome (ok_or o (Refused q)) d.at ≡ need_outcome q o d.at
    by (Some a) = refl
    by None = refl
