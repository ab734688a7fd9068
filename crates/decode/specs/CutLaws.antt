-- Laws of every layout for longer and shorter dumps. Appending bytes does not change a value or a refusal (`run_append`).
-- A cut reports how many bytes one field lacks (`cut_deficit`, `cut_append`, `end_after_deficit`). A value that ends within a
-- prefix of the dump is read from the prefix (`run_prefix`); one that ends after it gives a cut there (`prefix_cut`).
-- Each law is proved once, by cases on the four constructors of `Layout`. Assumes nothing.
use Rattle.std.specs.Prelude.{◌≡◌, refl, ℕ, ◌+◌, ◌-◌, ◌≤◌, ◌<◌, List, ◌++◌, length, take, drop}
use Rattle.std.proofs.Common.{sym, length-append, length-drop, length-take, take-append-drop, arith}
use Rattle.std.proofs.lemmas.List.{take-append-le, drop-append-le}
use Rattle.std.proofs.Math.Decide.{dec_le}
use Rattle.decode.specs.Layout.{Layout, yield, refuse, here, bytes, Outcome, whole, stops, run, run_enough, run_short, whole_has_bytes, start_le_end}
use Rattle.decode.specs.declared.Stop.TheVariants.{Cut, Refused}

-- ---- appended bytes

-- The outcome is a value or a refusal, not a cut.
abbrev pub NotCut : {A : Type 0} → Outcome A → Type 0
NotCut (whole a n) = Unit {0}
NotCut (stops (Refused r)) = Unit {0}
NotCut (stops (Cut n)) = ⊥

-- Appending elements does not change a slice that lies within the list.
pub slice_append : (n at : ℕ) (s t : List ℕ) → at + n ≤ length s → take n (drop at (s ++ t)) ≡ take n (drop at s)
slice_append n at s t h =
    let a : at ≤ length s = omega arith in
    let b : n ≤ length (drop at s) = simp length-drop (omega arith) in
    rw (drop-append-le at s t a, take-append-le n (drop at s) t b)

-- Appending bytes does not change a field whose bytes are all present.
run_bytes_append : {A : Type 0} (n : ℕ) (k : List ℕ → Layout A) (s t : List ℕ) (at : ℕ) → at + n ≤ length s
    → run (bytes n k) (s ++ t) at ≡ run (k (take n (drop at s))) (s ++ t) (at + n)
run_bytes_append n k s t at e =
    let l : at + n ≤ length (s ++ t) = simp length-append (omega arith) in
    rw (run_enough n k (s ++ t) at l, slice_append n at s t e)

run_append_bytes : {A : Type 0} (n : ℕ) (k : List ℕ → Layout A) (s t : List ℕ) (at : ℕ)
    → ((b : List ℕ) → NotCut (run (k b) s (at + n)) → run (k b) (s ++ t) (at + n) ≡ run (k b) s (at + n))
    → NotCut (run (bytes n k) s at) → run (bytes n k) (s ++ t) at ≡ run (bytes n k) s at
run_append_bytes {A} n k s t at ih w = elim (dec_le (at + n) (length s)) [ yes e ↦ enough e | no e ↦ absurd (short (omega arith)) ]
  where
    short : length s < at + n → ⊥
    short e = rw (run_short n k s at e) at w

    enough : at + n ≤ length s → run (bytes n k) (s ++ t) at ≡ run (bytes n k) s at
    enough e = rw (run_bytes_append n k s t at e, run_enough n k s at e) (ih (take n (drop at s)) (rw (run_enough n k s at e) at w))

-- Appending bytes does not change a result that is not a cut.
pub run_append : {A : Type 0} (l : Layout A) (s t : List ℕ) (at : ℕ) → NotCut (run l s at) → run l (s ++ t) at ≡ run l s at
unfolding run
run_append (yield a) s t at w = refl
run_append (refuse r) s t at w = refl
run_append (here k) s t at w = run_append (k at) s t at w
run_append (bytes n k) s t at w = run_append_bytes n k s t at (λ b w'. run_append (k b) s t (at + n) w') w

-- Appending bytes does not change a value that was read.
pub run_append_whole : {A : Type 0} (l : Layout A) (s t : List ℕ) (at : ℕ) (a : A) (e : ℕ) → run l s at ≡ whole a e → run l (s ++ t) at ≡ whole a e
run_append_whole l s t at a e h = rw (run_append l s t at (rw h tt)) h

-- ---- cuts and missing bytes

-- A field of `width` bytes begins at the offset `place`, at or after `at` and within the dump. Its last k bytes, at least one,
-- lie after the end of the dump.
pub record FieldDeficit (s : List ℕ) (at k : ℕ) : Type 0 where
  pub place : ℕ
  pub width : ℕ
  pub after : at ≤ place
  pub within : place ≤ length s
  pub some : 0 < k
  pub most : k ≤ width
  pub end : place + width ≡ length s + k

-- The number k of every cut that l gives is the number of bytes that one field lacks.
abbrev CutDeficit : {A : Type 0} → Layout A → List ℕ → ℕ → Type 0
CutDeficit l s at = (k : ℕ) → at ≤ length s → run l s at ≡ stops (Cut k) → FieldDeficit s at k

cut_deficit_bytes : {A : Type 0} (n : ℕ) (k : List ℕ → Layout A) (s : List ℕ) (at : ℕ) → ((b : List ℕ) → CutDeficit (k b) s (at + n)) → CutDeficit (bytes n k) s at
cut_deficit_bytes n k s at ih j p h = elim (dec_le (at + n) (length s)) [ yes e ↦ later e | no e ↦ now (omega arith) ]
  where
    now : length s < at + n → FieldDeficit s at j
    now e =
        let z : stops (Cut (at + n - length s)) ≡ stops (Cut j) = rw (run_short n k s at e) at h in
        let y : at + n - length s ≡ j = cc in
        record { place = at; width = n; after = omega arith; within = p; some = omega arith; most = omega arith; end = omega arith }

    later : at + n ≤ length s → FieldDeficit s at j
    later e =
        let w = ih (take n (drop at s)) j e (rw (run_enough n k s at e) at h) in
        record { place = w.place; width = w.width; after = omega arith; within = w.within; some = w.some; most = w.most; end = w.end }

-- A cut reports the bytes that one field lacks; that field begins within the dump.
pub cut_deficit : {A : Type 0} (l : Layout A) (s : List ℕ) (at : ℕ) → CutDeficit l s at
unfolding run
cut_deficit (yield a) s at k p h = let z : ◌≡◌ {A = ℕ} 0 1 = cc in absurd (omega arith)
cut_deficit (refuse r) s at k p h = let z : ◌≡◌ {A = ℕ} 0 1 = cc in absurd (omega arith)
cut_deficit (here f) s at k p h = cut_deficit (f at) s at k p h
cut_deficit (bytes n f) s at k p h = cut_deficit_bytes n f s at (λ b. cut_deficit (f b) s (at + n)) k p h

-- If l is a cut that lacks k bytes, it is a cut that lacks k - length t after fewer than k bytes t are appended.
abbrev CutAppend : {A : Type 0} → Layout A → (s t : List ℕ) → ℕ → Type 0
CutAppend l s t at = (k : ℕ) → run l s at ≡ stops (Cut k) → length t < k → run l (s ++ t) at ≡ stops (Cut (k - length t))

cut_append_bytes : {A : Type 0} (n : ℕ) (k : List ℕ → Layout A) (s t : List ℕ) (at : ℕ) → ((b : List ℕ) → CutAppend (k b) s t (at + n)) → CutAppend (bytes n k) s t at
cut_append_bytes n k s t at ih j h g = elim (dec_le (at + n) (length s)) [ yes e ↦ later e | no e ↦ now (omega arith) ]
  where
    now : length s < at + n → run (bytes n k) (s ++ t) at ≡ stops (Cut (j - length t))
    now e =
        let z : stops (Cut (at + n - length s)) ≡ stops (Cut j) = rw (run_short n k s at e) at h in
        let y : at + n - length s ≡ j = cc in
        let q : length (s ++ t) < at + n = simp length-append (omega arith) in
        let x : at + n - length (s ++ t) ≡ j - length t = simp length-append (omega arith) in
        rw (run_short n k (s ++ t) at q, x)

    later : at + n ≤ length s → run (bytes n k) (s ++ t) at ≡ stops (Cut (j - length t))
    later e = rw (run_bytes_append n k s t at e) (ih (take n (drop at s)) j (rw (run_enough n k s at e) at h) g)

-- If fewer bytes are appended than the field lacks, it is still cut, and lacks that many fewer.
pub cut_append : {A : Type 0} (l : Layout A) (s t : List ℕ) (at : ℕ) → CutAppend l s t at
unfolding run
cut_append (yield a) s t at k h g = let z : ◌≡◌ {A = ℕ} 0 1 = cc in absurd (omega arith)
cut_append (refuse r) s t at k h g = let z : ◌≡◌ {A = ℕ} 0 1 = cc in absurd (omega arith)
cut_append (here f) s t at k h g = cut_append (f at) s t at k h g
cut_append (bytes n f) s t at k h g = cut_append_bytes n f s t at (λ b. cut_append (f b) s t (at + n)) k h g

-- If l is a cut that lacks k bytes, every value that it gives after bytes are appended ends at length s + k or later.
abbrev EndAfterDeficit : {A : Type 0} → Layout A → (s t : List ℕ) → ℕ → Type 0
EndAfterDeficit {A} l s t at = (k : ℕ) (a : A) (e : ℕ) → run l s at ≡ stops (Cut k) → run l (s ++ t) at ≡ whole a e → length s + k ≤ e

end_after_deficit_bytes : {A : Type 0} (n : ℕ) (k : List ℕ → Layout A) (s t : List ℕ) (at : ℕ) → ((b : List ℕ) → EndAfterDeficit (k b) s t (at + n)) → EndAfterDeficit (bytes n k) s t at
end_after_deficit_bytes n k s t at ih j a e h g = elim (dec_le (at + n) (length s)) [ yes l ↦ later l | no l ↦ now (omega arith) ]
  where
    now : length s < at + n → length s + j ≤ e
    now l =
        let z : stops (Cut (at + n - length s)) ≡ stops (Cut j) = rw (run_short n k s at l) at h in
        let y : at + n - length s ≡ j = cc in
        let m : at + n ≤ length (s ++ t) = whole_has_bytes n k (s ++ t) at a e g in
        let f : at + n ≤ e = start_le_end (k (take n (drop at (s ++ t)))) (s ++ t) (at + n) a e (rw (run_enough n k (s ++ t) at m) at g) in
        omega arith

    later : at + n ≤ length s → length s + j ≤ e
    later l = ih (take n (drop at s)) j a e (rw (run_enough n k s at l) at h) (rw (run_bytes_append n k s t at l) at g)

-- If appended bytes turn a cut into a value, the value ends no sooner than the field that was cut.
pub end_after_deficit : {A : Type 0} (l : Layout A) (s t : List ℕ) (at : ℕ) → EndAfterDeficit l s t at
unfolding run
end_after_deficit (yield b) s t at k a e h g = let z : ◌≡◌ {A = ℕ} 0 1 = cc in absurd (omega arith)
end_after_deficit (refuse r) s t at k a e h g = let z : ◌≡◌ {A = ℕ} 0 1 = cc in absurd (omega arith)
end_after_deficit (here f) s t at k a e h g = end_after_deficit (f at) s t at k a e h g
end_after_deficit (bytes n f) s t at k a e h g = end_after_deficit_bytes n f s t at (λ b. end_after_deficit (f b) s t (at + n)) k a e h g

-- ---- prefixes of the dump

-- A slice that lies within a prefix is the same in the prefix and in the list.
slice_take : (n at m : ℕ) (s : List ℕ) → at + n ≤ m → at + n ≤ length s → take n (drop at (take m s)) ≡ take n (drop at s)
slice_take n at m s h l =
    let q : at + n ≤ length (take m s) = simp length-take (omega arith) in
    sym (rw take-append-drop at (slice_append n at (take m s) (drop m s) q))

-- A field that lies within a prefix is read the same from the prefix.
run_bytes_take : {A : Type 0} (n : ℕ) (k : List ℕ → Layout A) (s : List ℕ) (at m : ℕ) → at + n ≤ m → at + n ≤ length s
    → run (bytes n k) (take m s) at ≡ run (k (take n (drop at s))) (take m s) (at + n)
run_bytes_take n k s at m h l =
    let q : at + n ≤ length (take m s) = simp length-take (omega arith) in
    rw (run_enough n k (take m s) at q, slice_take n at m s h l)

-- Every value of l that ends within a prefix of s is read the same from the prefix.
abbrev RunPrefix : {A : Type 0} → Layout A → List ℕ → ℕ → Type 0
RunPrefix {A} l s at = (m : ℕ) (a : A) (e : ℕ) → run l s at ≡ whole a e → e ≤ m → run l (take m s) at ≡ whole a e

run_prefix_bytes : {A : Type 0} (n : ℕ) (k : List ℕ → Layout A) (s : List ℕ) (at : ℕ) → ((b : List ℕ) → RunPrefix (k b) s (at + n)) → RunPrefix (bytes n k) s at
run_prefix_bytes n k s at ih m a e h g =
    let l : at + n ≤ length s = whole_has_bytes n k s at a e h in
    let b : List ℕ = take n (drop at s) in
    let r : run (k b) s (at + n) ≡ whole a e = rw (run_enough n k s at l) at h in
    let z : at + n ≤ e = start_le_end (k b) s (at + n) a e r in
    let y : at + n ≤ m = omega arith in
    rw (run_bytes_take n k s at m y l) (ih b m a e r g)

-- A value that ends within a prefix of the dump is read the same from the prefix.
pub run_prefix : {A : Type 0} (l : Layout A) (s : List ℕ) (at : ℕ) → RunPrefix l s at
unfolding run
run_prefix (yield b) s at m a e h g = h
run_prefix (refuse r) s at m a e h g = h
run_prefix (here k) s at m a e h g = run_prefix (k at) s at m a e h g
run_prefix (bytes n k) s at m a e h g = run_prefix_bytes n k s at (λ b. run_prefix (k b) s (at + n)) m a e h g

-- The outcome is a cut, with any number of missing bytes.
pub record IsCut {A : Type 0} (o : Outcome A) : Type 0 where
  pub deficit : ℕ
  pub is : o ≡ stops (Cut deficit)

-- For every value of l that ends after a prefix of s, reading the prefix is a cut.
abbrev PrefixCut : {A : Type 0} → Layout A → List ℕ → ℕ → Type 0
PrefixCut {A} l s at = (m : ℕ) (a : A) (e : ℕ) → run l s at ≡ whole a e → at ≤ m → m < e → IsCut (run l (take m s) at)

prefix_cut_bytes : {A : Type 0} (n : ℕ) (k : List ℕ → Layout A) (s : List ℕ) (at : ℕ) → ((b : List ℕ) → PrefixCut (k b) s (at + n))
    → PrefixCut (bytes n k) s at
prefix_cut_bytes {A} n k s at ih m a e h p g = elim (dec_le (at + n) m) [ yes y ↦ later y | no y ↦ now (omega arith) ]
  where
    l : at + n ≤ length s
    l = whole_has_bytes n k s at a e h

    rest : run (k (take n (drop at s))) s (at + n) ≡ whole a e
    rest = rw (run_enough n k s at l) at h

    now : m < at + n → IsCut (run (bytes n k) (take m s) at)
    now y =
        let u = l in
        let q : length (take m s) < at + n = simp length-take (omega arith) in
        record { deficit = at + n - length (take m s); is = run_short n k (take m s) at q }

    later : at + n ≤ m → IsCut (run (bytes n k) (take m s) at)
    later y = rw (run_bytes_take n k s at m y l) (ih (take n (drop at s)) m a e rest y g)

-- If a value ends after a prefix of the dump, reading the prefix is a cut.
pub prefix_cut : {A : Type 0} (l : Layout A) (s : List ℕ) (at : ℕ) → PrefixCut l s at
unfolding run
prefix_cut (yield b) s at m a e h p g = let z : at ≡ e = cc in absurd (omega arith)
prefix_cut (refuse r) s at m a e h p g = let z : ◌≡◌ {A = ℕ} 0 1 = cc in absurd (omega arith)
prefix_cut (here k) s at m a e h p g = prefix_cut (k at) s at m a e h p g
prefix_cut (bytes n k) s at m a e h p g = prefix_cut_bytes n k s at (λ b. prefix_cut (k b) s (at + n)) m a e h p g
