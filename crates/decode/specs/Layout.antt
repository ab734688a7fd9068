-- A layout describes which bytes come next and what they mean; `run` reads a layout at an offset of a dump.
-- The records of every format are described in this language. A reader must believe `run`; the laws of every layout are
-- proved once, here, in CutLaws, in Values and in Takes.
use Rattle.std.specs.Prelude.{◌≡◌, refl, ℕ, ◌+◌, ◌-◌, ◌≤◌, ◌<◌, Bool, true, false, List, length, take, drop, leb, Option, Some, None}
use Rattle.std.proofs.Common.{sym, ap, ◌∙◌, arith, le-leb}
use Rattle.std.proofs.Math.Path.{fun_ext}
use Rattle.std.proofs.Math.Decide.{dec_le}
use Rattle.std.proofs.lemmas.Bool.{lt-leb}
use Rattle.decode.specs.Numbers.{value, value_after}
use Rattle.decode.specs.declared.Stop.{Stop}
use Rattle.decode.specs.declared.Stop.TheVariants.{Cut, Refused}

infixl 20 ◌>>=◌
infixl 20 ◌>>◌
-- ---- layouts

-- A description of bytes that gives a value of type A when it is read.
pub data Layout (A : Type 0) : Type 0 where
  -- Reads nothing more and gives this value.
  yield : A → Layout A
  -- Refuses what was read, with this reply.
  refuse : ℕ → Layout A
  -- Continues with the layout for the current offset.
  here : (ℕ → Layout A) → Layout A
  -- Reads a field of this many bytes and continues with the layout for its bytes.
  bytes : ℕ → (List ℕ → Layout A) → Layout A

-- The result of reading: a value and the offset after it, or why reading stops (refused with a reply, or cut inside a field).
pub data Outcome (A : Type 0) : Type 0 where
  whole : A → ℕ → Outcome A
  stops : Stop → Outcome A

-- `run l s at` reads the layout l at offset `at` of the dump s. A field is checked only when all its bytes are present.
unfoldable pub run : {A : Type 0} → Layout A → List ℕ → ℕ → Outcome A
run (yield a) s at = whole a at
run (refuse r) s at = stops (Refused r)
run (here k) s at = run (k at) s at
run (bytes n k) s at =
    elim (leb (at + n) (length s)) [ true ↦ run (k (take n (drop at s))) s (at + n) | false ↦ stops (Cut (at + n - length s)) ]

-- One layout, then another, which may depend on the first one's value.
unfoldable pub ◌>>=◌ : {A B : Type 0} → Layout A → (A → Layout B) → Layout B
yield a >>= f = f a
refuse r >>= f = refuse r
here k >>= f = here (λ p. k p >>= f)
bytes n k >>= f = bytes n (λ b. k b >>= f)

-- One layout, then another, which does not depend on the first one's value.
abbrev pub ◌>>◌ : {A B : Type 0} → Layout A → Layout B → Layout B
l >> m = l >>= (λ _. m)

-- The current offset.
unfoldable pub position : Layout ℕ
position = here (λ p. yield p)

-- The next n bytes, as a list.
unfoldable pub raw : ℕ → Layout (List ℕ)
raw n = bytes n (λ b. yield b)

-- The next n bytes, as an unsigned number.
unfoldable pub field : ℕ → Layout ℕ
field n = bytes n (λ b. yield (value b))

-- Reads nothing, and refuses with r unless the test holds.
unfoldable pub check : ℕ → Bool → Layout (Unit {0})
check r true = yield tt
check r false = refuse r

-- Reads nothing, and gives the value if there is one, else refuses with r.
unfoldable pub need : ℕ → Option ℕ → Layout ℕ
need r (Some a) = yield a
need r None = refuse r

-- The reply, the scope paper's term: 1 for a cut, else the number that a field is refused with (docs/FORMAT.md 8).
unfoldable pub reply_of : Stop → ℕ
reply_of (Cut n) = 1
reply_of (Refused r) = r

-- The missing bytes, the scope paper's term: those that the cut field lacks; 0 if a field is refused (docs/FORMAT.md 5.2).
unfoldable pub missing_of : Stop → ℕ
missing_of (Cut n) = n
missing_of (Refused r) = 0

-- ---- fields: all bytes present, or a cut

-- If all bytes of a field are present, reading continues with them, after the field.
pub run_enough : {A : Type 0} (n : ℕ) (k : List ℕ → Layout A) (s : List ℕ) (at : ℕ) → at + n ≤ length s
    → run (bytes n k) s at ≡ run (k (take n (drop at s))) s (at + n)
unfolding run
run_enough n k s at h = rw (le-leb (at + n) (length s) h, run)

-- If a field ends after the end of the dump, reading is a cut that lacks the bytes after the end.
pub run_short : {A : Type 0} (n : ℕ) (k : List ℕ → Layout A) (s : List ℕ) (at : ℕ) → length s < at + n
    → run (bytes n k) s at ≡ stops (Cut (at + n - length s))
unfolding run
run_short n k s at h = rw (lt-leb (at + n) (length s) h, run)

-- If reading a field gives a value, all bytes of the field are present.
pub whole_has_bytes : {A : Type 0} (n : ℕ) (k : List ℕ → Layout A) (s : List ℕ) (at : ℕ) (a : A) (e : ℕ) → run (bytes n k) s at ≡ whole a e
    → at + n ≤ length s
whole_has_bytes n k s at a e h = elim (dec_le (at + n) (length s)) [ yes l ↦ l | no l ↦ absurd (short (omega arith)) ]
  where
    short : length s < at + n → ⊥
    short l =
        let c : run (bytes n k) s at ≡ stops (Cut (at + n - length s)) = run_short n k s at l in
        let z : ◌≡◌ {A = ℕ} 0 1 = cc in
        omega arith

-- ---- sequences of layouts

-- The outcome of continuing with f after a value; a stop stays as it is.
abbrev pub and_then : {A B : Type 0} → Outcome A → (A → ℕ → Outcome B) → Outcome B
and_then (whole a n) f = f a n
and_then (stops w) f = stops w

then_bytes : {A B : Type 0} (n : ℕ) (k : List ℕ → Layout A) (f : A → Layout B) (s : List ℕ) (at : ℕ)
    → ((b : List ℕ) → run (k b >>= f) s (at + n) ≡ and_then (run (k b) s (at + n)) (λ a p. run (f a) s p))
    → run (bytes n k >>= f) s at ≡ and_then (run (bytes n k) s at) (λ a p. run (f a) s p)
unfolding ◌>>=◌
then_bytes n k f s at ih = elim (dec_le (at + n) (length s)) [
  | yes e ↦ rw (run_enough n k s at e, run_enough n (λ b. k b >>= f) s at e) (ih (take n (drop at s)))
  | no e ↦
      let h : length s < at + n = omega arith in
      rw (run_short n k s at h, run_short n (λ b. k b >>= f) s at h)
]

-- Running a sequence is running the first layout, then the second one at the offset after it.
pub run_then : {A B : Type 0} (l : Layout A) (f : A → Layout B) (s : List ℕ) (at : ℕ)
    → run (l >>= f) s at ≡ and_then (run l s at) (λ a p. run (f a) s p)
unfolding run ◌>>=◌
run_then (yield a) f s at = refl
run_then (refuse r) f s at = refl
run_then (here k) f s at = run_then (k at) f s at
run_then (bytes n k) f s at = then_bytes n k f s at (λ b. run_then (k b) f s (at + n))

-- If a sequence gives a value, the first layout gives one, and the second gives the sequence's value at the offset after it.
pub then_inv : {A B : Type 0} (l : Layout A) (f : A → Layout B) (s : List ℕ) (at : ℕ) (b : B) (e : ℕ) → run (l >>= f) s at ≡ whole b e
    → (a : A) × (n : ℕ) × (run l s at ≡ whole a n) × (run (f a) s n ≡ whole b e)
then_inv {A} {B} l f s at b e r = by (run l s at) refl (sym (run_then l f s at) ∙ r)
  where
    by : (o : Outcome A) → run l s at ≡ o → and_then (run l s at) (λ a p. run (f a) s p) ≡ whole b e
        → (a : A) × (n : ℕ) × (run l s at ≡ whole a n) × (run (f a) s n ≡ whole b e)
    by (whole a n) k g = (a, n, k, rw k at g)
    by (stops x) k g = let h : stops x ≡ whole b e = rw k at g in let z : ◌≡◌ {A = ℕ} 0 1 = cc in absurd (omega arith)

-- Sequencing is associative.
pub then_assoc : {A B C : Type 0} (l : Layout A) (f : A → Layout B) (g : B → Layout C) → l >>= f >>= g ≡ l >>= (λ a. f a >>= g)
unfolding ◌>>=◌
then_assoc (yield a) f g = refl
then_assoc (refuse r) f g = refl
then_assoc (here k) f g = ap here (fun_ext (λ p. then_assoc (k p) f g))
then_assoc (bytes n k) f g = ap (bytes n) (fun_ext (λ b. then_assoc (k b) f g))

-- ---- runs of the basic layouts

pub run_yield : {A : Type 0} (a : A) (s : List ℕ) (at : ℕ) → run (yield a) s at ≡ whole a at
unfolding run
run_yield a s at = refl

pub run_refuse : {A : Type 0} (r : ℕ) (s : List ℕ) (at : ℕ) → run {A = A} (refuse r) s at ≡ stops (Refused r)
unfolding run
run_refuse r s at = refl

pub run_position : (s : List ℕ) (at : ℕ) → run position s at ≡ whole at at
unfolding run position
run_position s at = refl

pub run_field : (n : ℕ) (s : List ℕ) (at : ℕ) → at + n ≤ length s → run (field n) s at ≡ whole (value (take n (drop at s))) (at + n)
unfolding run field
run_field n s at h = run_enough n (λ b. yield (value b)) s at h

pub run_field_short : (n : ℕ) (s : List ℕ) (at : ℕ) → length s < at + n → run (field n) s at ≡ stops (Cut (at + n - length s))
unfolding field
run_field_short n s at h = run_short n (λ b. yield (value b)) s at h

-- A field of no bytes is 0, at every offset of the dump.
pub run_field_empty : (s : List ℕ) (at : ℕ) → at ≤ length s → run (field 0) s at ≡ whole 0 at
unfolding value_after
run_field_empty s at h = let e : at + 0 ≡ at = omega arith in let l : at + 0 ≤ length s = omega arith in rw (run_field 0 s at l, e)

pub run_raw : (n : ℕ) (s : List ℕ) (at : ℕ) → at + n ≤ length s → run (raw n) s at ≡ whole (take n (drop at s)) (at + n)
unfolding run raw
run_raw n s at h = run_enough n (λ b. yield b) s at h

pub run_raw_short : (n : ℕ) (s : List ℕ) (at : ℕ) → length s < at + n → run (raw n) s at ≡ stops (Cut (at + n - length s))
unfolding raw
run_raw_short n s at h = run_short n (λ b. yield b) s at h

pub run_check : (r : ℕ) (b : Bool) (s : List ℕ) (at : ℕ) → run (check r b) s at ≡ elim b [ true ↦ whole tt at | false ↦ stops (Refused r) ]
unfolding run check
run_check r true s at = refl
run_check r false s at = refl

-- The outcome of `need r m` at an offset.
abbrev pub need_outcome : ℕ → Option ℕ → ℕ → Outcome ℕ
need_outcome r (Some a) at = whole a at
need_outcome r None at = stops (Refused r)

pub run_need : (r : ℕ) (m : Option ℕ) (s : List ℕ) (at : ℕ) → run (need r m) s at ≡ need_outcome r m at
unfolding run need
run_need r (Some a) s at = refl
run_need r None s at = refl

-- ---- bounds of the end offset

-- A value ends at or after the offset where reading starts.
pub start_le_end : {A : Type 0} (l : Layout A) (s : List ℕ) (at : ℕ) (a : A) (e : ℕ) → run l s at ≡ whole a e → at ≤ e
unfolding run
start_le_end (yield b) s at a e h = let z : at ≡ e = cc in omega arith
start_le_end (refuse r) s at a e h = let z : ◌≡◌ {A = ℕ} 0 1 = cc in omega arith
start_le_end (here k) s at a e h = start_le_end (k at) s at a e h
start_le_end (bytes n k) s at a e h =
    let l : at + n ≤ length s = whole_has_bytes n k s at a e h in
    let z : at + n ≤ e = start_le_end (k (take n (drop at s))) s (at + n) a e (rw (run_enough n k s at l) at h) in
    omega arith

-- If reading starts within the dump, a value ends within it.
pub end_in_bounds : {A : Type 0} (l : Layout A) (s : List ℕ) (at : ℕ) (a : A) (e : ℕ) → at ≤ length s → run l s at ≡ whole a e → e ≤ length s
unfolding run
end_in_bounds (yield b) s at a e p h = let z : at ≡ e = cc in omega arith
end_in_bounds (refuse r) s at a e p h = let z : ◌≡◌ {A = ℕ} 0 1 = cc in omega arith
end_in_bounds (here k) s at a e p h = end_in_bounds (k at) s at a e p h
end_in_bounds (bytes n k) s at a e p h =
    let l : at + n ≤ length s = whole_has_bytes n k s at a e h in
    end_in_bounds (k (take n (drop at s))) s (at + n) a e l (rw (run_enough n k s at l) at h)
