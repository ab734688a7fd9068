-- References stored one after another: what is stored so far, and then what is left.
use Rattle.std.proofs.Common.{◌≡◌, refl, sym, ◌∙◌, ℕ, suc, ◌+◌, ◌-◌, ◌≤◌, ◌<◌, List, [], ◌∷◌, ◌++◌, length, take, drop, drop-drop, Result, Ok, Err, arith, add-one, append_assoc, append-nil, length-set}
use Rattle.std.proofs.Math.ListN.{set}
use Rattle.std.proofs.lemmas.List.Edits.{sets, sets-eq}
use Rattle.std.proofs.Math.Seq.{take-suc-set, take-length}
use Rattle.std.specs.Result.{IsOk}
use Rattle.decode.specs.Layout.{stops}
use Rattle.decode.specs.Reads.{outcome}
use Rattle.decode.specs.declared.Stop.{Stop}

module _ (refs : List ℕ) (i : ℕ) (f g : ℕ → List ℕ) where
  -- The first of what is left is stored at index i.
  pub stored_next : (a : ℕ) → i < length refs → take i refs ++ (a ∷ f (length refs - i - 1)) ≡ g (length refs)
      → take (i + 1) (set refs i a) ++ f (length (set refs i a) - (i + 1)) ≡ g (length (set refs i a))
  stored_next a h e =
      let d : length refs - suc i ≡ length refs - i - 1 = omega arith in
      rw (add-one, length-set, d, take-suc-set refs i a h, append_assoc) e

  -- Nothing is left.
  pub stored_all : length refs ≤ i → i ≤ length refs → f 0 ≡ [] → take i refs ++ f (length refs - i) ≡ g (length refs) → refs ≡ g (length refs)
  stored_all h k z e =
      let n : i ≡ length refs = omega arith in
      let d : length refs - length refs ≡ 0 = omega arith in
      sym (take-length refs) ∙ (sym (append-nil (take (length refs) refs)) ∙ (rw (n, d, z) at e))

-- A part of a table that is written over is stored there.
pub stored_part : (table vs : List ℕ) (i n : ℕ) → length vs ≡ n → i + n ≤ length table → take i table ++ (vs ++ drop n (drop i table)) ≡ sets table i vs
stored_part table vs i n e h =
    let l : i + length vs ≤ length table = omega arith in
    rw (sets-eq vs table i l, drop-drop n i table, e, append_assoc)

-- A reading that does not stop gives a value.
pub is_read : (r : Result ℕ Stop) (n : ℕ) → ((x : Stop) → outcome r n ≡ stops x → ⊥) → IsOk r
is_read (Ok a) n h = refl
is_read (Err w) n h = absurd (h w refl)
