-- The four slots of a class cache, chosen one by one by constant indexes.
-- Assumes nothing.
use mathlib.Core.Path.{◌≡◌, refl}
use mathlib.Core.Bool.{cond}
use mathlib.Core.List.{List, [], ◌∷◌}
use Prim.Native.Nat.{ℕ, zero, suc, ◌<◌}
use native.Mathlib.Omega.{arith}
use lib.Dec.{eqb, ltb}
use lib.ListN.{length, get_or, set}

-- Slot `at` replaced.
pub slots_set : (l : List ℕ) → length l ≡ 4 → (at class : ℕ) → at < 4
    → ◌≡◌ {A = List ℕ} (cond (eqb at 0) class (get_or l 0 0) ∷ cond (eqb at 1) class (get_or l 1 0) ∷ cond (eqb at 2) class (get_or l 2 0) ∷ cond (eqb at 3) class (get_or l 3 0) ∷ []) (set l at class)
slots_set [] e at class m = absurd (omega arith)
slots_set (a ∷ []) e at class m = absurd (omega arith)
slots_set (a ∷ b ∷ []) e at class m = absurd (omega arith)
slots_set (a ∷ b ∷ c ∷ []) e at class m = absurd (omega arith)
slots_set (a ∷ b ∷ c ∷ d ∷ x ∷ l) e at class m = absurd (omega arith)
slots_set (a ∷ b ∷ c ∷ d ∷ []) e zero class m = refl
slots_set (a ∷ b ∷ c ∷ d ∷ []) e (suc zero) class m = refl
slots_set (a ∷ b ∷ c ∷ d ∷ []) e (suc (suc zero)) class m = refl
slots_set (a ∷ b ∷ c ∷ d ∷ []) e (suc (suc (suc zero))) class m = refl
slots_set (a ∷ b ∷ c ∷ d ∷ []) e (suc (suc (suc (suc at)))) class m = absurd (omega arith)

-- Slot i.
pub slot_chosen : (l : List ℕ) (i : ℕ) → i < 4 → cond (ltb i 2) (cond (eqb i 0) (get_or l 0 0) (get_or l 1 0)) (cond (eqb i 2) (get_or l 2 0) (get_or l 3 0)) ≡ get_or l i 0
slot_chosen l zero m = refl
slot_chosen l (suc zero) m = refl
slot_chosen l (suc (suc zero)) m = refl
slot_chosen l (suc (suc (suc zero))) m = refl
slot_chosen l (suc (suc (suc (suc i)))) m = absurd (omega arith)
