-- Bytes written in several consecutive parts: which parts remain after each write, and that there is capacity for the next one.
-- Assumes nothing.
use Rattle.std.specs.Prelude.{◌≡◌, refl, List, [], ◌∷◌, ◌++◌, ℕ, get_or, drop}
use Rattle.encode.specs.Encode.{join}
use Rattle.encode.specs.Writes.{Writes, HasCapacity, capacity_first, Remaining, remaining_start, remaining_next, remaining_capacity, remaining_done}

-- The state of a write in parts: of `all`, which begins at offset at₀ of an output that was out₀ and has capacity for it, `parts`
-- are still to be written at offset `at` of the output as it is now, `out`.
pub record WriteProgress : Type 0 where
  pub out₀ : List ℕ
  pub at₀ : ℕ
  pub all : List ℕ
  pub out : List ℕ
  pub at : ℕ
  pub parts : List (List ℕ)
  pub rest : Remaining out₀ at₀ all out at (join parts)
  pub capacity : HasCapacity out₀ at₀ all

-- At the start all parts remain.
abbrev pub progress_start : (out : List ℕ) (at : ℕ) {all : List ℕ} (parts : List (List ℕ)) → all ≡ join parts → HasCapacity out at all → WriteProgress
progress_start out at {all} parts e r =
    record { out₀ = out; at₀ = at; all = all; out = out; at = at; parts = parts; rest = rw (← e) (remaining_start out at all); capacity = r }

-- The concatenation of parts is the next part and the concatenation of the others.
pub join_split : (parts : List (List ℕ)) → join parts ≡ get_or parts 0 [] ++ join (drop 1 parts)
join_split [] = refl
join_split (x ∷ parts) = refl

-- There is capacity for the next part.
pub next_part_fits : (p : WriteProgress) → HasCapacity p.out p.at (get_or p.parts 0 [])
next_part_fits p = capacity_first p.out p.at (get_or p.parts 0 []) (join (drop 1 p.parts)) (rw (join_split p.parts) at (remaining_capacity p.rest p.capacity))

-- After a write of the next part, the others remain.
abbrev pub progress_next : (p : WriteProgress) {out₁ : List ℕ} {at₁ : ℕ} → Writes p.out p.at (get_or p.parts 0 []) out₁ at₁ → WriteProgress
progress_next p {out₁} {at₁} q =
    record {
      out₀ = p.out₀;
      at₀ = p.at₀;
      all = p.all;
      out = out₁;
      at = at₁;
      parts = drop 1 p.parts;
      rest = remaining_next (rw (join_split p.parts) at p.rest) q;
      capacity = p.capacity;
    }

-- The same for bytes that are equal to the next part.
abbrev pub progress_next_eq : (p : WriteProgress) {xs out₁ : List ℕ} {at₁ : ℕ} → Writes p.out p.at xs out₁ at₁ → get_or p.parts 0 [] ≡ xs → WriteProgress
progress_next_eq p {out₁ = out₁} {at₁ = at₁} q e = progress_next p {out₁ = out₁} {at₁ = at₁} (rw e q)

-- If no parts remain, everything was written.
pub progress_done : (p : WriteProgress) → p.parts ≡ [] → Writes p.out₀ p.at₀ p.all p.out p.at
progress_done p e = remaining_done (rw e at p.rest)
