-- The version line and the trailers, in the parts in which they are encoded.
-- Assumes nothing.
use Rattle.std.specs.Prelude.{◌≡◌, refl, ℕ, ◌+◌, cond, List, ◌∷◌, [], ◌++◌}
use Rattle.std.proofs.Common.{length-append, append-nil, append_assoc}
use Rattle.decode.specs.declared.StringSpan.{StringSpan}
use Rattle.encode.specs.SetsLaws.{sets_append}
use Rattle.phd_check.specs.GoodRows.{vm_text}
use Rattle.phd_counts.specs.declared.Tally.{Tally}
use Rattle.digits.specs.Digits.{ascii, text_decimal}
use Rattle.classic.specs.ClassicText.{version_line, unlines}
use Rattle.classic_write.specs.TextParts.{version_text, tally_breakdown, tally_totals, tally_trailers}

pub version_split : (names : List ℕ) (t : StringSpan) → version_text names t ≡ ascii "// Version: " ++ (cond t.present (vm_text names t) [] ++ (0x0A ∷ []))
unfolding version_text version_line unlines
version_split names t = refl

pub ruleset version_steps = (version_split, sets_append, length-append)

pub breakdown_split : (t : Tally) → tally_breakdown t
    ≡ text_decimal "// Breakdown - Classes: " t.classes ++ (text_decimal ", Objects: " t.objects ++ (text_decimal ", ObjectArrays: " t.arrays ++ text_decimal ", PrimitiveArrays: " t.primitives))
unfolding tally_breakdown
breakdown_split t = rw append-nil

pub ruleset breakdown_steps = (breakdown_split, sets_append, length-append)

pub totals_split : (t : Tally) → tally_totals t
    ≡ text_decimal "// EOF:  Total 'Objects',Refs(null) : " t.rows ++ (text_decimal "," (t.refs + t.nulls) ++ (text_decimal "(" t.nulls ++ (0x29 ∷ [])))
unfolding tally_totals
totals_split t = refl

pub ruleset totals_steps = (totals_split, sets_append, length-append)

pub trailers_split : (t : Tally) → tally_trailers t ≡ tally_breakdown t ++ ((0x0A ∷ []) ++ (tally_totals t ++ (0x0A ∷ [])))
unfolding tally_trailers unlines
trailers_split t = refl

pub ruleset trailer_steps = (trailers_split, sets_append, length-append)
