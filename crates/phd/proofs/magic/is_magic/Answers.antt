use Rattle.std.proofs.Common.{rules, ◌≡◌}
use Rattle.std.proofs.lemmas.Bool.Decides.{same_from_decides, Decides-eqb}
use Rattle.std.proofs.lemmas.Slice.Eq.{slice_eq-Decides, compares_Decides}
use Rattle.phd.specs.Phd.{bytes_equal, magic}
use Rattle.phd.proofs.magic.is_magic.Goals as goal

pub returns : goal.returns
unfolding bytes_equal magic
returns c =
    same_from_decides {P = c.args.text.now ≡ c.as_slice.result.now} _ _ (slice_eq-Decides Decides-eqb _ _ _ c.eq.ensures)
    (rw c.as_slice.ensures (compares_Decides bytes_equal (search rules) c.args.text.now magic))
