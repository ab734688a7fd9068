-- `read_passes_checks` satisfies its contract: the tables that `read_tables` filled pass every check, because each number of a dump is
-- below 256.
use borrow.Author.Rules.{rules}
use native.Mathlib.Omega.{arith}
use Rattle.decode.specs.ByteValues.{AllBytes}
use Rattle.phd_copy.specs.ReadThenWrite.{tables_pass_checks}
use Rattle.phd_copy.proofs.read_passes_checks.Statement.{statement}
use Rattle.phd_copy.proofs.read_passes_checks.Tie as tie

read_tables-requires : tie.Need-read_tables-requires
read_tables-requires c κs = search rules

shape_of-rows : tie.Need-shape_of-rows
shape_of-rows c = search rules

shape_of-refs : tie.Need-shape_of-refs
shape_of-refs c = search rules

returns : tie.Need-returns
returns c =
    let r = c.read_tables in
    let k = c.before.before.before.before.before.before.before.before.before in
    let a = k.args in
    let b : AllBytes a.dump.now = record { each = λ i. omega (arith, k.shared_slice_known-1.given i) } in
    tables_pass_checks a.dump.now b a.rows.now a.refs.now r.result r.new.rows r.new.refs
    (record { is = r.ensures.0; row_table = r.ensures.1.0; ref_table = r.ensures.1.1 })

pub read_passes_checks_spec : {M : Type 1} → statement M
read_passes_checks_spec = tie.close (tie.spec read_tables-requires shape_of-rows shape_of-refs returns)
