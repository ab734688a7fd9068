-- The test `bytes_equal` passes exactly for equal lists of bytes.
-- Assumes nothing.
use Rattle.std.specs.Prelude.{◌≡◌, refl, ◌↔◌, ℕ, true, List, [], ◌∷◌, eqb}
use Rattle.std.proofs.Common.{arith, eqb-true, eq-eqb}
use Rattle.decode.specs.Values.{and_left, and_right}
use Rattle.phd.specs.Phd.{bytes_equal}

equal_of_test : (xs ys : List ℕ) → bytes_equal xs ys ≡ true → xs ≡ ys
unfolding bytes_equal
equal_of_test [] [] e = refl
equal_of_test [] (y ∷ ys) e = let z : ◌≡◌ {A = ℕ} 0 1 = cc in absurd (omega arith)
equal_of_test (x ∷ xs) [] e = let z : ◌≡◌ {A = ℕ} 0 1 = cc in absurd (omega arith)
equal_of_test (x ∷ xs) (y ∷ ys) e = rw (eqb-true x y (and_left (eqb x y) (bytes_equal xs ys) e), equal_of_test xs ys (and_right (eqb x y) (bytes_equal xs ys) e))

test_of_same : (xs : List ℕ) → bytes_equal xs xs ≡ true
unfolding bytes_equal
test_of_same [] = refl
test_of_same (x ∷ xs) = rw (eq-eqb x x refl, test_of_same xs)

pub bytes_equal_iff : (xs ys : List ℕ) → (bytes_equal xs ys ≡ true) ↔ (xs ≡ ys)
bytes_equal_iff xs ys = (equal_of_test xs ys, λ e. rw e (test_of_same ys))
