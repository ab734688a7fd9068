-- `Writes before at bytes after next`: a function wrote `bytes` at offset `at` of an output, changed nothing else, and returned
-- the next offset. Consecutive writes compose. A reader must believe `Writes`.
use Rattle.std.specs.Prelude.{◌≡◌, refl, List, [], ◌++◌, ℕ, ◌+◌, ◌≤◌, length}
use Rattle.std.proofs.Common.{◌∙◌, arith, length-append}
use Rattle.std.proofs.lemmas.List.Edits.{sets}
use Rattle.std.proofs.Math.Seq.{length-sets}
use Rattle.encode.specs.SetsLaws.{sets_append}

-- The output `after` is `before` with `bytes` at offset `at`, and `next` is the offset after them.
pub record Writes (before : List ℕ) (at : ℕ) (bytes after : List ℕ) (next : ℕ) : Type 0 where
  pub out : after ≡ sets before at bytes
  pub place : next ≡ at + length bytes

-- An output has capacity for bytes at offset `at`.
abbrev pub HasCapacity : List ℕ → ℕ → List ℕ → Type 0
HasCapacity out at bytes = at + length bytes ≤ length out

-- Writing no bytes changes nothing.
pub writes_none : (out : List ℕ) (at : ℕ) → Writes out at [] out at
writes_none out at = record { out = refl; place = omega arith }

module _ {out : List ℕ} {at : ℕ} {xs : List ℕ} {out₁ : List ℕ} {next : ℕ} (p : Writes out at xs out₁ next) where
  -- The output keeps its length.
  pub writes_length : length out₁ ≡ length out
  writes_length = rw (p.out, length-sets)

  -- Two consecutive writes are one write of both byte strings.
  pub writes_then : {ys out₂ : List ℕ} {next₂ : ℕ} → Writes out₁ next ys out₂ next₂ → Writes out at (xs ++ ys) out₂ next₂
  writes_then {ys} q =
      let a = p.place in
      let b = q.place in
      record { out = cc (p.out, p.place, q.out, sets_append out at xs ys); place = simp length-append (omega arith) }

  -- If there was capacity for both, there is capacity for the second after the first.
  pub capacity_after : (ys : List ℕ) → HasCapacity out at (xs ++ ys) → HasCapacity out₁ next ys
  capacity_after ys r =
      let a = p.place in
      let b : length out₁ ≡ length out = writes_length in
      omega (arith, rw length-append at r)

-- If there is capacity for both, there is capacity for the first.
pub capacity_first : (out : List ℕ) (at : ℕ) (xs ys : List ℕ) → HasCapacity out at (xs ++ ys) → HasCapacity out at xs
capacity_first out at xs ys r = omega (arith, rw length-append at r)

-- The state of a write in progress: of `all`, which begins at offset at₀ of an output that was out₀, `rest` is still to be
-- written at offset `at` of the output as it is now, `out`.
pub record Remaining (out₀ : List ℕ) (at₀ : ℕ) (all out : List ℕ) (at : ℕ) (rest : List ℕ) : Type 0 where
  pub same : sets out at rest ≡ sets out₀ at₀ all
  pub ends : at + length rest ≡ at₀ + length all
  pub long : length out ≡ length out₀

-- At the start everything remains.
pub remaining_start : (out : List ℕ) (at : ℕ) (all : List ℕ) → Remaining out at all out at all
remaining_start out at all = record { same = refl; ends = refl; long = refl }

module _ {out₀ : List ℕ} {at₀ : ℕ} {all out : List ℕ} {at : ℕ} where
  -- After a write of the first part of the rest, the other part remains.
  pub remaining_next : {xs ys out₁ : List ℕ} {next : ℕ} → Remaining out₀ at₀ all out at (xs ++ ys) → Writes out at xs out₁ next → Remaining out₀ at₀ all out₁ next ys
  remaining_next {xs} {ys} {out₁} {next} r p =
      let a = p.place in
      let b = rw length-append at r.ends in
      let s : sets out₁ next ys ≡ sets out at (xs ++ ys) = (writes_then p {ys = ys} (record { out = refl; place = refl })).out in
      record { same = s ∙ r.same; ends = omega arith; long = writes_length p ∙ r.long }

  -- There is capacity for the rest if there was for everything.
  pub remaining_capacity : {rest : List ℕ} → Remaining out₀ at₀ all out at rest → HasCapacity out₀ at₀ all → HasCapacity out at rest
  remaining_capacity r m =
      let a = r.ends in
      let b = r.long in
      omega arith

  -- If nothing remains, everything was written.
  pub remaining_done : Remaining out₀ at₀ all out at [] → Writes out₀ at₀ all out at
  remaining_done r =
      let a = r.ends in
      record { out = r.same; place = omega arith }
