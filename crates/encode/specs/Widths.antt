-- Laws of widths: numbers and references that fit a width, and the greater of two width codes. The least code is the subject of
-- proofs/Widths.antt.
-- Assumes nothing.
use Rattle.std.specs.Prelude.{◌≡◌, ℕ, ◌+◌, ◌-◌, ◌/◌, ◌^◌, ◌≤◌, ◌<◌, true, cond, List, [], ◌∷◌, leb, ltb, ℤ, pos, negsuc}
use Rattle.std.proofs.Common.{arith, lit<, le-leb, lt-ltb, ltb-true, leb-true, leb-false}
use Rattle.std.proofs.Math.Nat.{pow-le-pow_right}
use Rattle.std.proofs.Math.Decide.{dec_le}
use Rattle.std.proofs.lemmas.Bool.{lt-leb}
use Rattle.decode.specs.Values.{cond_elim, by_cases}
use Rattle.encode.specs.Encode.{gap, fits, width_code, max, refs_code}

-- ---- numbers that fit a width

ltb_wider : (n m v : ℕ) → n ≤ m → ltb (v + v) (256 ^ n) ≡ true → ltb (v + v) (256 ^ m) ≡ true
ltb_wider n m v l h =
    let p : 256 ^ n ≤ 256 ^ m = pow-le-pow_right {n = 256} (lit< tt) {i = n} {j = m} l in
    let q : v + v < 256 ^ n = ltb-true _ _ h in
    lt-ltb (v + v) (256 ^ m) (omega arith)

-- A number that fits a field fits a wider one.
pub fits_wider : (n m : ℕ) (g : ℤ) → n ≤ m → fits n g ≡ true → fits m g ≡ true
unfolding fits
fits_wider n m (pos v) l h = ltb_wider n m v l h
fits_wider n m (negsuc v) l h = ltb_wider n m v l h

-- The gap between two addresses of n bytes fits n bytes.
pub gap_fits : (n a b : ℕ) → a < 256 ^ n → b < 256 ^ n → fits n (gap a b) ≡ true
unfolding fits gap
gap_fits n a b p q = elim (dec_le a b) [
  | yes l ↦ let d : ℕ = (b - a) / 4 in rw (le-leb a b l) (lt-ltb (d + d) (256 ^ n) (omega arith))
  | no l ↦
      let k : b < a = omega arith in
      let d : ℕ = (a - b - 1) / 4 in
      rw (lt-leb a b k) (lt-ltb (d + d) (256 ^ n) (omega arith))
]

-- ---- maximum, and the width code of references

pub le_max_left : (a b : ℕ) → a ≤ max a b
le_max_left a b = by_cases (λ t. a ≤ cond t b a) (leb a b) (leb-true a b) (λ _. omega arith)

pub le_max_right : (a b : ℕ) → b ≤ max a b
le_max_right a b = by_cases (λ t. b ≤ cond t b a) (leb a b) (λ _. omega arith) (λ e. omega (arith, leb-false a b e))

pub max_le : (a b k : ℕ) → a ≤ k → b ≤ k → max a b ≤ k
max_le a b k p q = cond_elim (λ x. x ≤ k) (leb a b) b a q p

pub max_lt : (a b k : ℕ) → a < k → b < k → max a b < k
max_lt a b k p q = cond_elim (λ x. x < k) (leb a b) b a q p

-- It is at least the code m from which it starts.
pub refs_code_ge : (m a : ℕ) (rs : List ℕ) → m ≤ refs_code m a rs
unfolding refs_code
refs_code_ge m a [] = omega arith
refs_code_ge m a (r ∷ rs) =
    let n : ℕ = max m (width_code (gap a r)) in
    let p : m ≤ n = le_max_left m (width_code (gap a r)) in
    let q : n ≤ refs_code n a rs = refs_code_ge n a rs in
    omega arith

-- All references of a record at address a fit w bytes.
abbrev pub AllFit : ℕ → ℕ → List ℕ → Type 0
AllFit w a [] = Unit {0}
AllFit w a (r ∷ rs) = (fits w (gap a r) ≡ true) × AllFit w a rs
