-- Writing a slice in two parts, of which the second may begin among the elements of the first, and element by element.
use Rattle.std.proofs.Common.{◌≡◌, refl, sym, ap, ◌∙◌, List, [], ◌∷◌, ◌++◌, ℕ, suc, ◌+◌, ◌-◌, ◌≤◌, ◌<◌, length, get_or, take, drop, set, arith}
use Rattle.std.proofs.lemmas.List.Edits.{sets}
use Rattle.std.proofs.Math.Seq.{set-set, set_comm, take-add, drop-drop, take-length}
use Rattle.decode.specs.Slices.{length_slice, slice_cons}
use Rattle.encode.specs.SetsLaws.{sets_append}
use Rattle.encode.specs.Writes.{Writes}

-- Storing numbers from index j on and storing one at a lower index may be done in either order.
set_sets_comm : (ys l : List ℕ) (i j x : ℕ) → i < j → set (sets l j ys) i x ≡ sets (set l i x) j ys
set_sets_comm [] l i j x h = refl
set_sets_comm (y ∷ ys) l i j x h =
    let d : i ≡ j → ⊥ = λ e. omega arith in
    set_sets_comm ys (set l j y) i (suc j) x (omega arith) ∙ ap (λ (m : List ℕ). sets m (suc j) ys) (sym (set_comm l i j x y d))

-- Numbers replace others that were stored at the same index before, if they are at least as many.
sets_again : (ys xs l : List ℕ) (i : ℕ) → length ys ≤ length xs → sets (sets l i ys) i xs ≡ sets l i xs
sets_again [] xs l i h = refl
sets_again (y ∷ ys) [] l i h = absurd (omega arith)
sets_again (y ∷ ys) (x ∷ xs) l i h =
    ap (λ (m : List ℕ). sets m (suc i) xs)
    (set_sets_comm ys (set l i y) i (suc i) x (omega arith) ∙ ap (λ (m : List ℕ). sets m (suc i) ys) (set-set l i y x))
    ∙ sets_again ys xs (set l i x) (suc i) (omega arith)

-- A slice of n elements is the slice of the first j, followed by the slice of the m elements after them.
slice_split : (l : List ℕ) (place j m n : ℕ) → j + m ≡ n → take n (drop place l) ≡ take j (drop place l) ++ take m (drop (place + j) l)
slice_split l place j m n e =
    ap (λ (i : ℕ). take i (drop place l)) (sym e)
    ∙ take-add j m (drop place l)
    ∙ ap (λ (r : List ℕ). take j (drop place l) ++ take m r) (drop-drop j place l)

-- Writing the first k of n elements, and then the last m, which begin at index j, writes all n if j is at most k. The elements
-- from j to k are written twice.
pub writes_overlap : (bytes : List ℕ) (place at j k m n : ℕ) {out out₁ out₂ : List ℕ} {next₁ next₂ : ℕ}
    → j ≤ k → k ≤ n → j + m ≡ n → place + n ≤ length bytes
    → Writes out at (take k (drop place bytes)) out₁ next₁
    → Writes out₁ (at + j) (take m (drop (place + j) bytes)) out₂ next₂
    → Writes out at (take n (drop place bytes)) out₂ next₂
writes_overlap bytes place at j k m n {out} {out₁} {out₂} no_gap first_within ends in_bounds p q =
    let head : List ℕ = take j (drop place bytes) in
    let twice : List ℕ = take (k - j) (drop (place + j) bytes) in
    let tail : List ℕ = take m (drop (place + j) bytes) in
    let head_long : length head ≡ j = length_slice bytes place j (omega arith) in
    let twice_long : length twice ≡ k - j = length_slice bytes (place + j) (k - j) (omega arith) in
    let tail_long : length tail ≡ m = length_slice bytes (place + j) m (omega arith) in
    let all_long : length (take n (drop place bytes)) ≡ n = length_slice bytes place n in_bounds in
    let first : take k (drop place bytes) ≡ head ++ twice = slice_split bytes place j (k - j) k (omega arith) in
    let all : take n (drop place bytes) ≡ head ++ tail = slice_split bytes place j m n ends in
    let again = sets_again twice tail (sets out at head) (at + length head) (omega arith) in
    let a = q.place in
    record {
      out = cc (p.out, q.out, first, all, again, head_long, sets_append out at head twice, sets_append out at head tail);
      place = omega arith;
    }

-- Storing one element writes a slice of one.
pub writes_one : (bytes : List ℕ) (place at : ℕ) (out : List ℕ) → place < length bytes
    → Writes out at (take 1 (drop place bytes)) (set out at (get_or bytes place 0)) (at + 1)
writes_one bytes place at out h = rw (slice_cons bytes place 0 h) (record { out = refl; place = refl })

-- If the first i elements of a slice are written, storing the next one writes the first i + 1.
pub writes_one_more : (bytes : List ℕ) (place at i : ℕ) {out out₁ : List ℕ} {next : ℕ} → place + i < length bytes
    → Writes out at (take i (drop place bytes)) out₁ next
    → Writes out at (take (i + 1) (drop place bytes)) (set out₁ (at + i) (get_or bytes (place + i) 0)) (at + i + 1)
writes_one_more bytes place at i {out₁ = out₁} h p =
    writes_overlap bytes place at i i 1 (i + 1) (omega arith) (omega arith) refl (omega arith) p (writes_one bytes (place + i) (at + i) out₁ h)

-- `writes_overlap` where the n elements are the whole list.
pub writes_overlap_whole : (bytes : List ℕ) (at j k m : ℕ) {out out₁ out₂ : List ℕ} {next₁ next₂ : ℕ}
    → j ≤ k → k ≤ length bytes → j + m ≡ length bytes
    → Writes out at (take k bytes) out₁ next₁
    → Writes out₁ (at + j) (take m (drop j bytes)) out₂ next₂
    → Writes out at bytes out₂ next₂
writes_overlap_whole bytes at j k m {out} {out₁} {out₂} {next₁} {next₂} no_gap first_within ends p q =
    let e : j ≡ 0 + j = omega arith in
    let w : Writes out at (take (length bytes) bytes) out₂ next₂ = writes_overlap bytes 0 at j k m (length bytes) no_gap first_within ends (omega arith) p (rw (← e) q) in
    rw take-length at w

-- After the first i elements, writing the m elements after them writes the first i + m.
pub writes_next_block : (bytes : List ℕ) (at i m : ℕ) {out out₁ out₂ : List ℕ} {next : ℕ}
    → i + m ≤ length bytes
    → Writes out at (take i bytes) out₁ (at + i)
    → Writes out₁ (at + i) (take m (drop i bytes)) out₂ next
    → Writes out at (take (i + m) bytes) out₂ (at + (i + m))
writes_next_block bytes at i m {out} {out₁} {out₂} {next} within p q =
    let e : i ≡ 0 + i = omega arith in
    let w : Writes out at (take (i + m) bytes) out₂ next = writes_overlap bytes 0 at i i m (i + m) (omega arith) (omega arith) refl (omega arith) p (rw (← e) q) in
    let place = w.place in
    record { out = w.out; place = omega (arith, length_slice bytes 0 (i + m) (omega arith)) }
