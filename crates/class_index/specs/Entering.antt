-- Entering a class row in a bucket keeps what was found before, so the rows that were certified stay certified.
-- Assumes nothing; no definition of the text uses it.
use Rattle.std.specs.Prelude.{◌≡◌, refl, ◌⊎◌, Bool, eqb, ltb, length, get_or, take, drop, set, Option, Some, None}
use Rattle.std.proofs.Common.{sym, ◌∙◌, inr, length-set, drop-set-lt, get_or-take, get_or-drop, eq-eqb, ne_eqb}
use Rattle.std.proofs.Math.Logic.{inl}
use Rattle.std.proofs.Math.Bool.{true, false, cond}
use mathlib.Core.List.{List, [], ◌∷◌}
use Prim.Native.Nat.{ℕ, zero, suc, ◌+◌, ◌-◌, ◌<◌}
use Rattle.std.proofs.Math.Decide.{dec_le}
use native.Mathlib.Omega.{arith}
use Rattle.std.proofs.lemmas.List.{take-set-le}
use Rattle.std.proofs.Math.Seq.{take-set-lt, drop-set-add}
use Rattle.decode.specs.Values.{and_right, true_not_false}
use Rattle.table.specs.Rows.{nth}
use Rattle.table.specs.declared.Row.{Row}
use Rattle.table.specs.RowBytes.{is_class_at, is_class_at_iff}
use Rattle.class_index.specs.ClassIndex.{first_bucket, is_class_row, search_in, search_buckets}

-- Buckets before and after row i, a class row with the address a, was entered: what a search found before, it finds after, or row i if
-- it is the search for a.
abbrev pub KeepsFound : List Row → (a i : ℕ) → (before after : List ℕ) → Type 0
KeepsFound rows a i before after = (b j : ℕ) → search_buckets rows before b ≡ Some j → (search_buckets rows after b ≡ Some j) ⊎ ((b ≡ a) × (search_buckets rows after b ≡ Some i))

-- Two addresses with which a row is a class row are the same.
same_address : (rows : List Row) (a b k : ℕ) → is_class_row rows a k ≡ true → is_class_row rows b k ≡ true → b ≡ a
unfolding is_class_row
same_address rows a b k p q =
    let inside = ltb k (length rows) in
    let r = (is_class_at_iff a (nth rows k)).0 (and_right inside (is_class_at a (nth rows k)) p) in
    let s = (is_class_at_iff b (nth rows k)).0 (and_right inside (is_class_at b (nth rows k)) q) in
    sym s.address ∙ r.address

not_found_at : (j : ℕ) → None ≡ Some j → ⊥
not_found_at j e = let z : ◌≡◌ {A = ℕ} 0 1 = cc in omega arith

module _ (rows : List Row) (a i : ℕ) (class : is_class_row rows a i ≡ true) where
  -- A bucket that row i may take: it is empty, or leads to a class row with the same address.
  abbrev pub MayTake : ℕ → Type 0
  MayTake entry = (entry ≡ 0) ⊎ (is_class_row rows a (entry - 1) ≡ true)

  -- The search from a bucket on, and what it finds with row i in the bucket.
  abbrev from_bucket : ℕ → ℕ → Option ℕ → Option ℕ
  from_bucket b entry rest = cond (eqb entry 0) None (cond (is_class_row rows b (entry - 1)) (Some (entry - 1)) rest)

  from_entered : (b : ℕ) (rest : Option ℕ) → from_bucket b (i + 1) rest ≡ cond (is_class_row rows b i) (Some i) rest
  from_entered b rest = let e : i + 1 - 1 ≡ i = omega arith in rw (ne_eqb (i + 1) 0 (λ z. omega arith), e)

  -- The law for the first bucket of a list.
  head_keeps : (b j entry : ℕ) (rest : Option ℕ) → MayTake entry → from_bucket b entry rest ≡ Some j
      → (from_bucket b (i + 1) rest ≡ Some j) ⊎ ((b ≡ a) × (from_bucket b (i + 1) rest ≡ Some i))
  head_keeps b j entry rest (inl z) e = absurd (not_found_at j (rw (eq-eqb _ _ z) at e))
  head_keeps b j entry rest (inr h) e = rw (from_entered b rest) (by (eqb entry 0) (is_class_row rows b (entry - 1)) (is_class_row rows b i) refl refl e)
    where
      by : (empty hit entered : Bool) → is_class_row rows b (entry - 1) ≡ hit → is_class_row rows b i ≡ entered
          → cond empty None (cond hit (Some (entry - 1)) rest) ≡ Some j → (cond entered (Some i) rest ≡ Some j) ⊎ ((b ≡ a) × (cond entered (Some i) rest ≡ Some i))
      by true hit entered p q e = absurd (not_found_at j e)
      by false true true p q e = inr (same_address rows a b (entry - 1) h p, refl)
      by false true false p q e = let s = same_address rows a b (entry - 1) h p in absurd (true_not_false (sym class ∙ rw s at q))
      by false false true p q e = let s = same_address rows a b i class q in absurd (true_not_false (sym h ∙ rw s at p))
      by false false false p q e = inl e

  -- The law for any bucket of a list.
  in_keeps : (b j : ℕ) (some : List ℕ) (p : ℕ) → MayTake (get_or some p 0) → search_in rows b some ≡ Some j
      → (search_in rows b (set some p (i + 1)) ≡ Some j) ⊎ ((b ≡ a) × (search_in rows b (set some p (i + 1)) ≡ Some i))
  unfolding search_in
  in_keeps b j [] p t e = inl e
  in_keeps b j (entry ∷ some) zero t e = head_keeps b j entry (search_in rows b some) t e
  in_keeps b j (entry ∷ some) (suc p) t e = by (eqb entry 0) (is_class_row rows b (entry - 1)) e (in_keeps b j some p t)
    where
      by : (empty hit : Bool) → cond empty None (cond hit (Some (entry - 1)) (search_in rows b some)) ≡ Some j
          → (search_in rows b some ≡ Some j → (search_in rows b (set some p (i + 1)) ≡ Some j) ⊎ ((b ≡ a) × (search_in rows b (set some p (i + 1)) ≡ Some i)))
          → (cond empty None (cond hit (Some (entry - 1)) (search_in rows b (set some p (i + 1)))) ≡ Some j)
          ⊎ ((b ≡ a) × (cond empty None (cond hit (Some (entry - 1)) (search_in rows b (set some p (i + 1)))) ≡ Some i))
      by true hit e rest = absurd (not_found_at j e)
      by false true e rest = inl e
      by false false e rest = rest e

  -- The law for the bucket q of those from s on, at most 64 of which are searched.
  part_keeps : (b j s q : ℕ) (buckets : List ℕ) → MayTake (get_or buckets (s + q) 0) → search_in rows b (take 64 (drop s buckets)) ≡ Some j
      → (search_in rows b (take 64 (set (drop s buckets) q (i + 1))) ≡ Some j) ⊎ ((b ≡ a) × (search_in rows b (take 64 (set (drop s buckets) q (i + 1))) ≡ Some i))
  part_keeps b j s q buckets t e = elim (dec_le 64 q) [
    | yes l ↦ rw (take-set-le 64 (drop s buckets) q (i + 1) l) (inl e)
    | no l ↦
        let m : q < 64 = omega arith in
        rw (take-set-lt 64 (drop s buckets) q (i + 1) m) (in_keeps b j (take 64 (drop s buckets)) q (rw (get_or-take 64 (drop s buckets) q 0 m, get_or-drop s buckets q 0) t) e)
  ]

  -- The law: entering row i in a bucket that it may take keeps what is found.
  pub entering_keeps : (buckets : List ℕ) (p : ℕ) → MayTake (get_or buckets p 0) → KeepsFound rows a i buckets (set buckets p (i + 1))
  unfolding search_buckets
  entering_keeps buckets p t b j e = rw (length-set buckets p (i + 1)) (elim (dec_le (first_bucket (length buckets) b) p) [
    | yes l ↦
        let s = first_bucket (length buckets) b in
        let m : s + (p - s) ≡ p = omega arith in
        rw (← m, drop-set-add s buckets (p - s) (i + 1)) (part_keeps b j s (p - s) buckets (rw m t) e)
    | no l ↦ rw (drop-set-lt (first_bucket (length buckets) b) buckets p (i + 1) (omega arith)) (inl e)
  ])

  -- Entering nothing keeps it too.
  pub same_keeps : (buckets : List ℕ) → KeepsFound rows a i buckets buckets
  same_keeps buckets b j e = inl e
