-- A list of references is read one reference at a time.
-- Assumes nothing.
use Rattle.std.specs.Prelude.{◌≡◌, refl}
use Rattle.std.proofs.Math.Path.{ap}
use Rattle.std.proofs.Common.{◌∙◌}
use Prim.Native.Nat.{ℕ, suc, ◌-◌, ◌<◌}
use mathlib.Core.List.{List, [], ◌∷◌}
use native.Mathlib.Omega.{arith}
use Rattle.decode.specs.Layout.{Outcome, whole, stops, and_then, run, run_then, run_yield}
use Rattle.decode.specs.Fields.{ref_field}
use Rattle.phd.specs.Phd.{ref_list}

-- An outcome with one more value at the front of its list.
abbrev pub prepend : ℕ → Outcome (List ℕ) → Outcome (List ℕ)
prepend r (whole rs n) = whole (r ∷ rs) n
prepend r (stops w) = stops w

module _ (w base top : ℕ) (s : List ℕ) where
  -- An empty list takes no bytes.
  pub ref_list_none : (at : ℕ) → run (ref_list w base top 0) s at ≡ whole [] at
  unfolding ref_list
  ref_list_none at = run_yield [] s at

  and_then_prepend : (r : ℕ) (o : Outcome (List ℕ)) → and_then o (λ rs n. whole (r ∷ rs) n) ≡ prepend r o
  and_then_prepend r (whole rs n) = refl
  and_then_prepend r (stops x) = refl

  -- A list of n references is the first one, then a list of n - 1.
  pub ref_list_next : (n at : ℕ) → 0 < n
      → run (ref_list w base top n) s at ≡ and_then (run (ref_field w base top) s at) (λ r p. prepend r (run (ref_list w base top (n - 1)) s p))
  unfolding ref_list
  ref_list_next n at h =
      let e : n ≡ suc (n - 1) = omega arith in
      ap (λ (k : ℕ). run (ref_list w base top k) s at) e ∙ simp (run_then, run_yield, and_then_prepend)
