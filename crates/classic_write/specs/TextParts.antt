-- The text in its three parts, as the functions size and write them: the version line, the lines of the rows, and the trailers
-- from a tally of the rows. Together they are proved equal to the text of the definition (ClassicText).
use Rattle.std.specs.Prelude.{◌≡◌, refl, ℕ, ◌+◌, ◌^◌, ◌<◌, List, [], ◌∷◌, ◌++◌, Option, Some, None, Result, Ok, Err}
use Rattle.std.proofs.Common.{append_assoc}
use Rattle.decode.specs.declared.StringSpan.{StringSpan}
use Rattle.encode.specs.Encode.{join}
use Rattle.table.specs.declared.Row.{Row}
use Rattle.phd.specs.declared.Header.{Header}
use Rattle.table.specs.Sums.{sum}
use Rattle.phd_counts.specs.Counts.{tally_of}
use Rattle.phd_counts.specs.declared.Tally.{Tally}
use Rattle.digits.specs.Digits.{ascii, text_decimal}
use Rattle.classic.specs.ClassicText.{row_lines, version_line, breakdown_line, totals_line, unlines, text_lines, text_of}
use Rattle.classic_row.specs.RowText.{row_size}
use Rattle.table.specs.declared.Refusal.{Refusal}
use Rattle.table.specs.declared.Refusal.TheVariants.{ClassMissing}
use Rattle.classic_write.specs.declared.TextSize.{TextSize}

-- ---- the version line

-- The version line with its line end.
unfoldable pub version_text : List ℕ → StringSpan → List ℕ
version_text names t = unlines (version_line names t ∷ [])

-- ---- the rows

-- The lines of all rows with their line ends.
unfoldable pub rows_text : ℕ → (names refs : List ℕ) → List Row → List ℕ
rows_text bits names refs rows = unlines (row_lines bits names refs rows rows)

-- The sum of the sizes of all rows' lines.
unfoldable pub rows_size : ℕ → (names : List ℕ) → List Row → ℕ
rows_size bits names rows = sum (row_size bits names rows) rows

-- From the search for missing class rows: a refusal with the index of the first row found, or n bytes and the counts t if none is found.
abbrev pub size_or_missing : Option ℕ → ℕ → Tally → Result TextSize Refusal
size_or_missing (Some i) n t = Err (ClassMissing i)
size_or_missing None n t = Ok (record { bytes = n; tally = t })

-- ---- the trailers

-- The references and nulls of a tally are together below 2^62, so their sum fits 64 bits.
pub record TallyBound (t : Tally) : Type 0 where
  pub small : t.refs + t.nulls < 2 ^ 62

-- The first trailer, from a tally.
unfoldable pub tally_breakdown : Tally → List ℕ
tally_breakdown t = join (
    text_decimal "// Breakdown - Classes: " t.classes
    ∷ text_decimal ", Objects: " t.objects
    ∷ text_decimal ", ObjectArrays: " t.arrays
    ∷ text_decimal ", PrimitiveArrays: " t.primitives ∷ [])

-- The second trailer, from a tally.
unfoldable pub tally_totals : Tally → List ℕ
tally_totals t = join (
    text_decimal "// EOF:  Total 'Objects',Refs(null) : " t.rows
    ∷ text_decimal "," (t.refs + t.nulls)
    ∷ text_decimal "(" t.nulls ∷ ascii ")" ∷ [])

-- Both trailers with their line ends.
unfoldable pub tally_trailers : Tally → List ℕ
tally_trailers t = unlines (tally_breakdown t ∷ tally_totals t ∷ [])

-- ---- the whole text

-- The bytes of two appended lists of lines are those of the first list, then those of the second.
pub unlines_append : (ls ms : List (List ℕ)) → unlines (ls ++ ms) ≡ unlines ls ++ unlines ms
unfolding unlines
unlines_append [] ms = refl
unlines_append (l ∷ ls) ms = rw (unlines_append ls ms, append_assoc)

-- The trailers from the tally of the rows are the trailers of the definition.
tally_trailers_eq : (rows : List Row) → tally_trailers (tally_of rows) ≡ unlines (breakdown_line rows ∷ totals_line rows ∷ [])
unfolding tally_trailers tally_breakdown tally_totals tally_of breakdown_line totals_line
tally_trailers_eq rows = refl

-- The text is the version line, the lines of the rows and the trailers.
pub text_parts : (h : Header) (names refs : List ℕ) (rows : List Row)
    → text_of h names refs rows ≡ version_text names h.vm ++ (rows_text h.bits names refs rows ++ tally_trailers (tally_of rows))
unfolding text_of text_lines version_text rows_text unlines
text_parts h names refs rows = rw (tally_trailers_eq rows) (simp (unlines_append, append_assoc))
