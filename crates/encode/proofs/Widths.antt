-- The width code of a number, or of the references of a record, is the least code whose width holds them.
-- Assumes nothing.
use Rattle.std.specs.Prelude.{◌≡◌, ℕ, zero, suc, ◌+◌, ◌^◌, ◌≤◌, ◌<◌, true, false, cond, List, [], ◌∷◌, ℤ}
use Rattle.std.proofs.Math.Path.{refl}
use Rattle.std.proofs.Common.{add-zero, arith, lit<}
use Rattle.std.proofs.Math.Nat.{pow-le-pow_right}
use Rattle.decode.specs.Values.{cond_elim, by_cases}
use Rattle.encode.specs.Encode.{gap, fits, width_code, max, refs_code}
use Rattle.encode.specs.Widths.{fits_wider, le_max_right, max_le, max_lt, refs_code_ge, AllFit}

-- ---- the least width code

-- The least of the n codes from c on whose width holds a number, or the code after them if none does.
abbrev least_code : ℤ → ℕ → ℕ → ℕ
least_code g c zero = c
least_code g c (suc n) = cond (fits (2 ^ c) g) c (least_code g (suc c) n)

-- How many of these codes have a width that is too narrow for the number.
abbrev too_narrow : ℤ → ℕ → ℕ → ℕ
too_narrow g c zero = 0
too_narrow g c (suc n) = cond (fits (2 ^ c) g) 0 1 + too_narrow g (suc c) n

module _ (g : ℤ) where
  -- The least code is at most the code after the n codes.
  least_code_le : (c n : ℕ) → least_code g c n ≤ c + n
  least_code_le c zero = omega arith
  least_code_le c (suc n) =
      cond_elim (λ k. k ≤ c + suc n) (fits (2 ^ c) g) c (least_code g (suc c) n) (omega arith) (omega (arith, least_code_le (suc c) n))

  -- A code whose width holds the number differs from a code whose width does not.
  differ : (c k : ℕ) → fits (2 ^ c) g ≡ false → fits (2 ^ k) g ≡ true → c ≡ k → ⊥
  differ c k e h d = let z : ◌≡◌ {A = ℕ} 0 1 = cc in omega arith

  -- The least code is at most any code from c on whose width holds the number.
  least_code_least : (k c n : ℕ) → fits (2 ^ k) g ≡ true → c ≤ k → least_code g c n ≤ k
  least_code_least k c zero h l = l
  least_code_least k c (suc n) h l =
      by_cases (λ t. cond t c (least_code g (suc c) n) ≤ k) (fits (2 ^ c) g) (λ _. l)
      (λ e. least_code_least k (suc c) n h (omega (arith, differ c k e h)))

  -- The width of the least code holds the number, if the width of the code after the n codes does.
  least_code_fits : (c n : ℕ) → fits (2 ^ (c + n)) g ≡ true → fits (2 ^ least_code g c n) g ≡ true
  least_code_fits c zero h = rw add-zero at h
  least_code_fits c (suc n) h =
      let e : c + suc n ≡ suc c + n = omega arith in
      by_cases (λ t. fits (2 ^ cond t c (least_code g (suc c) n)) g ≡ true) (fits (2 ^ c) g) (λ d. d) (λ _. least_code_fits (suc c) n (rw e at h))

  -- If the width of code c holds the number, no code from c on is too narrow.
  too_narrow_zero : (c n : ℕ) → fits (2 ^ c) g ≡ true → too_narrow g c n ≡ 0
  too_narrow_zero c zero h = refl
  too_narrow_zero c (suc n) h = rw h (omega (arith, too_narrow_zero (suc c) n (fits_wider (2 ^ c) (2 ^ suc c) g (omega arith) h)))

  -- The least code is c plus the number of codes that are too narrow.
  least_code_count : (c n : ℕ) → c + too_narrow g c n ≡ least_code g c n
  least_code_count c zero = omega arith
  least_code_count c (suc n) =
      by_cases (λ t. c + (cond t 0 1 + too_narrow g (suc c) n) ≡ cond t c (least_code g (suc c) n)) (fits (2 ^ c) g)
      (λ e. omega (arith, too_narrow_zero c (suc n) e)) (λ _. omega (arith, least_code_count (suc c) n))

  -- The width code of a number is the least of 0, 1 and 2 whose width holds it, or 3.
  code_least_code : width_code g ≡ least_code g 0 3
  unfolding width_code
  code_least_code = refl

  -- A width code is at most 3.
  pub code_lt : width_code g < 4
  code_lt = omega (arith, code_least_code, least_code_le 0 3)

  -- If the width of code k holds a number, the number's width code is at most k.
  pub code_least : (k : ℕ) → fits (2 ^ k) g ≡ true → width_code g ≤ k
  code_least k h = rw code_least_code (least_code_least k 0 3 h (omega arith))

  -- A number that fits 8 bytes fits the width of its width code.
  pub code_fits : fits 8 g ≡ true → fits (2 ^ width_code g) g ≡ true
  code_fits h = rw code_least_code (least_code_fits 0 3 h)

  -- The width code of a number is how many of the codes 0, 1 and 2 have a width that does not hold it.
  pub code_count : cond (fits 1 g) 0 1 + cond (fits 2 g) 0 1 + cond (fits 4 g) 0 1 ≡ width_code g
  code_count = omega (arith, code_least_code, least_code_count 0 3)

-- A number that fits 8 bytes fits the width of any code from its width code on.
pub code_fits_wider : (g : ℤ) (c : ℕ) → width_code g ≤ c → fits 8 g ≡ true → fits (2 ^ c) g ≡ true
code_fits_wider g c l h = fits_wider (2 ^ width_code g) (2 ^ c) g (pow-le-pow_right {n = 2} (lit< tt) {i = width_code g} {j = c} l) (code_fits g h)

-- ---- maximum, and the width code of references

-- The width code of references is at most 3.
pub refs_code_lt : (m a : ℕ) (rs : List ℕ) → m < 4 → refs_code m a rs < 4
unfolding refs_code
refs_code_lt m a [] l = l
refs_code_lt m a (r ∷ rs) l = refs_code_lt (max m (width_code (gap a r))) a rs (max_lt m (width_code (gap a r)) 4 l (code_lt (gap a r)))

-- References that fit 8 bytes fit the width of their width code.
pub refs_code_fits : (m a : ℕ) (rs : List ℕ) → AllFit 8 a rs → AllFit (2 ^ refs_code m a rs) a rs
unfolding refs_code
refs_code_fits m a [] h = tt
refs_code_fits m a (r ∷ rs) h =
    let c : ℕ = width_code (gap a r) in
    let n : ℕ = max m c in
    let p : c ≤ n = le_max_right m c in
    let q : n ≤ refs_code n a rs = refs_code_ge n a rs in
    (code_fits_wider (gap a r) (refs_code n a rs) (omega arith) h.0, refs_code_fits n a rs h.1)

-- If references fit the width of a code k that is at least m, their width code is at most k.
pub refs_code_least : (k m a : ℕ) (rs : List ℕ) → m ≤ k → AllFit (2 ^ k) a rs → refs_code m a rs ≤ k
unfolding refs_code
refs_code_least k m a [] l h = l
refs_code_least k m a (r ∷ rs) l h = refs_code_least k (max m (width_code (gap a r))) a rs (max_le m _ k l (code_least (gap a r) k h.0)) h.1
