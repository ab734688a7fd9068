-- The part that is overwritten is the row.
use Rattle.std.proofs.Common.{◌≡◌, ◌+◌, ◌-◌, ◌≤◌, arith, length, append_assoc}
use Rattle.std.proofs.lemmas.List.{drop-drop}
use Rattle.std.proofs.lemmas.List.Edits.{sets-eq}
use Rattle.table.proofs.store_row.Goals as goal

pub returns : goal.returns
returns c =
    let e : c.args.at + 13 - c.args.at ≡ 13 = omega arith in
    let n : length c.args.row ≡ 13 = c.requires.1 in
    let l : c.args.at + length c.args.row ≤ length c.args.table.now = omega arith in
    rw (e, c.copy_from_slice.ensures.after, sets-eq c.args.row c.args.table.now c.args.at l, append_assoc, n, drop-drop)
