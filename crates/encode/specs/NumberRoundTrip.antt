-- Numbers are read back from their bytes: unsigned (`value_be`), and signed in two's complement (`signed_be`).
-- Assumes nothing.
use Rattle.std.specs.Prelude.{◌≡◌, refl, ℕ, zero, suc, ◌+◌, ◌-◌, ◌*◌, ◌/◌, ◌%◌, ◌^◌, ◌≤◌, ◌<◌, true, List, [], ◌∷◌, ◌++◌, length, ℤ, pos, negsuc}
use Rattle.std.proofs.Common.{sym, ap, ◌∙◌, append-nil, append_assoc, add-zero, add-suc, pow-suc, suc-mul, mul_assoc, mul_comm, div-one, div-lt_iff_lt-mul, div-add-mod', arith, length-append, pow-add, lt-ltb, le-ltb, ltb-true}
use Rattle.std.proofs.Math.Nat.{one-le-pow, div-div-eq-div-mul}
use Rattle.decode.specs.Numbers.{value, value_after, signed}
use Rattle.encode.specs.Encode.{join, be, twos_complement, fits}

-- The lowest n bytes of a number are n bytes.
pub length_be : (n v : ℕ) → length (be n v) ≡ n
unfolding be
length_be zero v = refl
length_be (suc n) v = simp (length-append, length_be n (v / 256)) (omega arith)

-- The lowest m + n bytes of a number are m bytes and then the lowest n.
pub be_split : (m n v : ℕ) → be (m + n) v ≡ be m (v / 256 ^ n) ++ be n v
unfolding be
be_split m zero v = rw (add-zero m, div-one v, append-nil)
be_split m (suc n) v =
    let d : v / 256 / 256 ^ n ≡ v / 256 ^ suc n = rw (div-div-eq-div-mul v 256 (256 ^ n), mul_comm 256 (256 ^ n), ← pow-suc 256 n) in
    rw (add-suc m n, be_split m n (v / 256), d, append_assoc)

-- The same, as two parts of a write.
pub be_parts : (m n v : ℕ) → be (m + n) v ≡ join (be m (v / 256 ^ n) ∷ be n v ∷ [])
be_parts m n v = rw (be_split m n v, append-nil)

-- Appending a byte to a big-endian number multiplies it by 256 and adds the byte.
value_snoc : (bs : List ℕ) (a x : ℕ) → value_after a (bs ++ (x ∷ [])) ≡ value_after a bs * 256 + x
unfolding value_after
value_snoc [] a x = refl
value_snoc (b ∷ bs) a x = value_snoc bs (a * 256 + b) x

-- The value of the lowest n bytes of a number is the number modulo 256 ^ n.
value_be_mod : (n q r : ℕ) → r < 256 ^ n → value (be n (q * 256 ^ n + r)) ≡ r
unfolding be value_after
value_be_mod zero q r h = omega arith
value_be_mod (suc n) q r h =
    let m : ℕ = q * 256 ^ n in
    let v : ℕ = q * 256 ^ suc n + r in
    let g : r / 256 < 256 ^ n = (div-lt_iff_lt-mul {k = 256} {x = r} {y = 256 ^ n} (omega arith)).1 (rw pow-suc at h) in
    let p : 256 ^ suc n ≡ 256 ^ n * 256 = pow-suc 256 n in
    let e : v ≡ m * 256 + r = rw (p, ← mul_assoc q (256 ^ n) 256) in
    let d : v / 256 ≡ m + r / 256 = omega arith in
    let l : v % 256 ≡ r % 256 = omega arith in
    value_snoc (be n (v / 256)) 0 (v % 256) ∙ rw (d, l, value_be_mod n q (r / 256) g, div-add-mod' r 256)

-- An unsigned number that fits n bytes is read back.
pub value_be : (n v : ℕ) → v < 256 ^ n → value (be n v) ≡ v
value_be n v h = let e : 0 * 256 ^ n + v ≡ v = omega arith in rw e at (value_be_mod n 0 v h)

-- The two's complement of -1 - m in 64 bits is its two's complement in n bytes plus a multiple of 256 ^ n.
complement_split : (n m : ℕ) → n ≤ 8 → suc m ≤ 256 ^ n → 2 ^ 64 - suc m ≡ (256 ^ (8 - n) - 1) * 256 ^ n + (256 ^ n - suc m)
complement_split n m h k =
    let w : ℕ = 256 ^ n in
    let a : ℕ = 256 ^ (8 - n) in
    let o : 1 ≤ a = one-le-pow (8 - n) 256 (omega arith) in
    let i : 8 - n + n ≡ 8 = omega arith in
    let e : 256 ^ 8 ≡ a * w = ap (λ (x : ℕ). 256 ^ x) (sym i) ∙ pow-add 256 (8 - n) n in
    let d : a ≡ suc (a - 1) = omega arith in
    let f : a * w ≡ (a - 1) * w + w = ap (λ (x : ℕ). x * w) d ∙ suc-mul (a - 1) w in
    omega arith

-- A signed number that fits n bytes is read back.
pub signed_be : (n : ℕ) (g : ℤ) → 1 ≤ n → n ≤ 8 → fits n g ≡ true → signed n (value (be n (twos_complement g))) ≡ g
unfolding signed twos_complement fits
signed_be n (pos m) s h f =
    let l : m + m < 256 ^ n = ltb-true _ _ f in
    let k : m < 256 ^ n = omega arith in
    rw (value_be n m k, lt-ltb (m + m) (256 ^ n) l)
signed_be n (negsuc m) s h f =
    let l : m + m < 256 ^ n = ltb-true _ _ f in
    let i : n ≡ suc (n - 1) = omega arith in
    let d : 256 ^ n ≡ 256 ^ (n - 1) * 256 = ap (λ (x : ℕ). 256 ^ x) i ∙ pow-suc 256 (n - 1) in
    let v : ℕ = 256 ^ n - suc m in
    let k : suc m ≤ 256 ^ n = omega arith in
    let b : v < 256 ^ n = omega arith in
    let t : 256 ^ n ≤ v + v = omega arith in
    let e : 256 ^ n - suc v ≡ m = omega arith in
    rw (complement_split n m h k, value_be_mod n (256 ^ (8 - n) - 1) v b, le-ltb (v + v) (256 ^ n) t, e)
