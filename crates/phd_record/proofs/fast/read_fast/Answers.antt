use Rattle.std.proofs.Common.{◌≡◌, ◌+◌, ◌-◌, ◌≤◌, length, refl, sym, arith}
use Rattle.phd_record.proofs.FastRecordLaws.{hit_reads}
use Rattle.phd_record.proofs.fast.read_fast.Goals as goal

pub invariant_of-d : goal.invariant_of-d
invariant_of-d c =
    let i = c.args.d.now.inside in
    record { inside = (hit_reads _ _ _ _ _ _ _ _ _ (omega arith) c.be_upto4-tag.ensures.is c.in-Some.ensures).1 }

pub returns-in-Some : goal.returns-in-Some
returns-in-Some c =
    let i = c.args.d.now.inside in
    record { same = refl; value = sym (hit_reads _ _ _ _ _ _ _ _ _ (omega arith) c.be_upto4-tag.ensures.is c.in-Some.ensures).0 }
