-- `Reads p l bs a`: in any dump with the bytes bs at offset p, the layout l reads exactly these bytes from p on and gives a.
-- There is one law for each part of a layout.
-- Assumes nothing.
use Rattle.std.specs.Prelude.{◌≡◌, refl, ℕ, ◌+◌, ◌^◌, ◌≤◌, ◌<◌, Bool, true, List, [], ◌++◌, length, Option, Some}
use Rattle.std.proofs.Common.{add_assoc, add-zero, append_assoc, append-nil, length-append, take_at, drop_at, arith}
use Rattle.decode.specs.Numbers.{value}
use Rattle.decode.specs.Layout.{Layout, yield, bytes, whole, run, ◌>>=◌, position, raw, field, check, need, run_then, run_enough}
use Rattle.encode.specs.Encode.{be}
use Rattle.encode.specs.NumberRoundTrip.{length_be, value_be}

-- Whatever precedes and follows the bytes bs at offset p, the layout l reads exactly bs and gives a.
pub record Reads {A : Type 0} (p : ℕ) (l : Layout A) (bs : List ℕ) (a : A) : Type 0 where
  pub reads : (pre post : List ℕ) → length pre ≡ p → run l (pre ++ (bs ++ post)) p ≡ whole a (p + length bs)

-- `yield` reads no bytes.
pub reads_yield : {A : Type 0} (p : ℕ) (a : A) → Reads p (yield a) [] a
unfolding run
reads_yield p a = record { reads = λ pre post h. rw (add-zero p) }

-- Two layouts in sequence read the bytes of both.
pub reads_then : {A B : Type 0} (p : ℕ) (l : Layout A) (f : A → Layout B) (bs cs : List ℕ) (a : A) (b : B)
    → Reads p l bs a → Reads (p + length bs) (f a) cs b → Reads p (l >>= f) (bs ++ cs) b
reads_then p l f bs cs a b g k = record {
  reads = λ pre post h.
      let s : List ℕ = pre ++ (bs ++ (cs ++ post)) in
      let e : length (pre ++ bs) ≡ p + length bs = rw (length-append pre bs, h) in
      let w : run (f a) s (p + length bs) ≡ whole b (p + length bs + length cs) = rw append_assoc at (k.reads (pre ++ bs) post e) in
      rw (append_assoc bs cs post, run_then l f s p, g.reads pre (cs ++ post) h, length-append bs cs, ← add_assoc p (length bs) (length cs)) w;
}

-- If the second layout reads no bytes, the bytes are those of the first.
pub reads_end : {A B : Type 0} (p : ℕ) (l : Layout A) (f : A → Layout B) (bs : List ℕ) (a : A) (b : B)
    → Reads p l bs a → Reads (p + length bs) (f a) [] b → Reads p (l >>= f) bs b
reads_end p l f bs a b g k = rw append-nil at (reads_then p l f bs [] a b g k)

-- If the first layout reads no bytes, the bytes are those of the second.
pub reads_skip : {A B : Type 0} (p : ℕ) (l : Layout A) (f : A → Layout B) (cs : List ℕ) (a : A) (b : B)
    → Reads p l [] a → Reads p (f a) cs b → Reads p (l >>= f) cs b
reads_skip p l f cs a b g k = reads_then p l f [] cs a b g (rw (add-zero p) k)

-- A layout that takes n bytes reads any n bytes, and gives the value that it yields for them.
pub reads_bytes : {A : Type 0} (p n : ℕ) (k : List ℕ → Layout A) (bs : List ℕ) (a : A) → length bs ≡ n → k bs ≡ yield a → Reads p (bytes n k) bs a
unfolding run
reads_bytes p n k bs a g e = record {
  reads = λ pre post h.
      let l : p + n ≤ length (pre ++ (bs ++ post)) = simp length-append (omega arith) in
      rw (run_enough n k (pre ++ (bs ++ post)) p l, drop_at pre (bs ++ post) p h, take_at bs post n g, e, g);
}

-- Raw bytes are read back.
pub reads_raw : (p : ℕ) (bs : List ℕ) → Reads p (raw (length bs)) bs bs
unfolding raw
reads_raw p bs = reads_bytes p (length bs) (λ b. yield b) bs bs refl refl

-- A field gives the value of its bytes.
pub reads_field_value : (p w v : ℕ) → Reads p (field w) (be w v) (value (be w v))
unfolding field
reads_field_value p w v = reads_bytes p w (λ b. yield (value b)) (be w v) (value (be w v)) (length_be w v) refl

-- A number that fits an unsigned field is read back.
pub reads_field : (p w v : ℕ) → v < 256 ^ w → Reads p (field w) (be w v) v
reads_field p w v h = rw (value_be w v h) at (reads_field_value p w v)

-- `position` reads no bytes and gives the offset.
pub reads_position : (p : ℕ) → Reads p position [] p
unfolding run position
reads_position p = record { reads = λ pre post h. rw (add-zero p) }

-- A check that passes reads no bytes.
pub reads_check : (p r : ℕ) (b : Bool) → b ≡ true → Reads p (check r b) [] tt
unfolding check
reads_check p r b e = rw e (reads_yield p tt)

-- A needed value that is present is given, and no bytes are read.
pub reads_need : (p r : ℕ) (m : Option ℕ) (a : ℕ) → m ≡ Some a → Reads p (need r m) [] a
unfolding need
reads_need p r m a e = rw e (reads_yield p a)
