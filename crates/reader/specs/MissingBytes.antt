-- The missing bytes of a cut dump, for any format. Theorems: proofs/MissingBytes.antt.
use Rattle.std.proofs.Math.Path.{◌≡◌}
use Prim.Native.Nat.{ℕ, ◌-◌}
use Rattle.std.specs.Prelude.{List}
use Rattle.decode.specs.CutLaws.{FieldDeficit}
use Rattle.reader.specs.Reader.{Format, Result}

-- ---- missing bytes of a reply

-- The missing bytes (the scope paper's term, docs/FORMAT.md 5.2) that a reply has at a place of the dump s.
pub record Missing (s : List ℕ) (reply place missing : ℕ) : Type 0 where
  -- For a cut: the bytes that one field lacks, which begins at the place or after it, and within the dump.
  pub cut : reply ≡ 1 → FieldDeficit s place missing
  -- For every other reply: none.
  pub other : (reply ≡ 1 → ⊥) → missing ≡ 0

-- `Missing` for a result.
abbrev pub MissingOf : {D : Format} → List ℕ → Result D → Type 0
MissingOf s r = Missing s r.reply r.place r.missing

-- The same result with k missing bytes fewer.
abbrev pub subtract_missing : {D : Format} → ℕ → Result D → Result D
subtract_missing k r =
    record { reply = r.reply; place = r.place; missing = r.missing - k; rows = r.rows; refs = r.refs; header = r.header }
