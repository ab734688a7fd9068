use Rattle.std.proofs.Common.{◌≡◌, ◌<◌, le-leb, arith}
use Rattle.std.specs.Prelude.{Some}
use Rattle.std.proofs.lemmas.Bool.{lt-leb}
use Rattle.phd.specs.Phd.{tag_form}
use Rattle.phd.specs.declared.Form.TheVariants.{Primitive}
use Rattle.phd_record.proofs.fast.read_after_tag.Goals as goal

pub read_primitive-requires : goal.read_primitive-requires
unfolding tag_form
read_primitive-requires c =
    let t = c.args.tag in
    let low : t < 0x80 = omega arith in
    (c.requires.0, c.requires.1, rw (lt-leb _ _ low, lt-leb _ _ c.if-tag-ge64.false, le-leb _ _ c.if-tag-ge32.true))
