-- The bytes of a row, and whether an object waits for its class row, by the class rows of a list: whether there is one with an
-- address, and the instance size of the first.
-- Assumes nothing.
use Rattle.std.proofs.Math.Path.{◌≡◌, refl, ap}
use Prim.Native.Nat.{ℕ, suc, ◌*◌}
use Rattle.std.proofs.Common.{arith}
use Rattle.std.specs.Prelude.{Bool, ◌&&◌, ◌||◌, Some}
use Rattle.std.proofs.Math.Bool.{true, false, cond, not}
use mathlib.Core.List.{List, [], ◌∷◌, ◌++◌, append_assoc}
use Rattle.std.proofs.Math.ListN.{length, length-append}
use borrow.Author.Tests.{eqb-true}
use Rattle.table.specs.Rows.{is_kind, nth}
use Rattle.table.specs.Search.{first_from, found_row}
use Rattle.table.specs.RowBytes.{is_class_at, is_not_found, naming_class, bytes_of}
use Rattle.table.specs.declared.Row.{Row}
use Rattle.summaries.specs.Summaries.{waits}

-- Whether a class row with the address a is among the rows.
unfoldable pub known : List Row → ℕ → Bool
known [] a = false
known (r ∷ rows) a = is_class_at a r || known rows a

-- The instance size of the first class row with the address a; 0 if there is none.
unfoldable pub size_at : List Row → ℕ → ℕ
size_at [] a = 0
size_at (r ∷ rows) a = cond (is_class_at a r) r.size (size_at rows a)

nth_after : (before : List Row) (r : Row) (rows : List Row) → nth (before ++ (r ∷ rows)) (length before) ≡ r
nth_after [] r rows = refl
nth_after (b ∷ before) r rows = nth_after before r rows

module _ (a : ℕ) where
  -- The search in the rows after those of `before`.
  size_from : (before rows : List Row) → (found_row (before ++ rows) (first_from (is_class_at a) (length before) rows)).size ≡ size_at rows a
  unfolding first_from found_row size_at
  size_from before [] = refl
  size_from before (r ∷ rows) =
      let l : length (before ++ (r ∷ [])) ≡ suc (length before) = simp length-append (omega arith) in
      go (is_class_at a r) (rw (append_assoc, l) at (size_from (before ++ (r ∷ [])) rows))
    where
      go : (b : Bool) → (found_row (before ++ (r ∷ rows)) (first_from (is_class_at a) (suc (length before)) rows)).size ≡ size_at rows a
          → (found_row (before ++ (r ∷ rows)) (cond b (Some (length before)) (first_from (is_class_at a) (suc (length before)) rows))).size ≡ cond b r.size (size_at rows a)
      go true h = ap (λ (x : Row). x.size) (nth_after before r rows)
      go false h = h

  not_found_from : (i : ℕ) (rows : List Row) → is_not_found (first_from (is_class_at a) i rows) ≡ not (known rows a)
  unfolding first_from known
  not_found_from i [] = refl
  not_found_from i (r ∷ rows) = go (is_class_at a r) (not_found_from (suc i) rows)
    where
      go : (b : Bool) → is_not_found (first_from (is_class_at a) (suc i) rows) ≡ not (known rows a)
          → is_not_found (cond b (Some i) (first_from (is_class_at a) (suc i) rows)) ≡ not (b || known rows a)
      go true h = refl
      go false h = h

module _ (rows : List Row) (r : Row) where
  pub bytes_are : bytes_of rows r ≡ cond (is_kind 1 r) 0 (cond (is_kind 2 r) (size_at rows r.class) (4 * r.size))
  unfolding bytes_of naming_class
  bytes_are = go (is_kind 2 r) refl
    where
      go : (b : Bool) → is_kind 2 r ≡ b
          → cond (is_kind 1 r) 0 (cond b (naming_class rows r).size (4 * r.size)) ≡ cond (is_kind 1 r) 0 (cond b (size_at rows r.class) (4 * r.size))
      go true e = let two : r.kind ≡ 2 = eqb-true _ _ e in rw two (size_from r.class [] rows)
      go false e = refl

  pub waits_are : waits rows r ≡ cond (is_kind 2 r) (cond (known rows r.class) 0 1) 0
  unfolding waits
  waits_are = rw (not_found_from r.class 0 rows) (go (is_kind 2 r) (known rows r.class))
    where
      go : (b c : Bool) → ◌≡◌ {A = ℕ} (cond (b && not c) 1 0) (cond b (cond c 0 1) 0)
      go true true = refl
      go true false = refl
      go false true = refl
      go false false = refl
