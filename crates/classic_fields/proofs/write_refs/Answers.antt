-- `write_refs` satisfies its contract.
use Rattle.std.proofs.Common.{length-append, arith, rules}
use Rattle.std.proofs.lemmas.List.{drop_all}
use Rattle.encode.specs.Wrote.{remains_next, remains_done}
use Rattle.classic.specs.ClassicText.{refs_text}
use Rattle.classic_fields.proofs.AddressSteps.{refs_text_drop}
use Rattle.classic_fields.proofs.write_refs.Goals as goal

pub byte-requires : goal.byte-requires
byte-requires c =
    let p = rw (refs_text_drop c.args.bits c.args.refs.now c.loop-a.a-index c.loop-a-test.true) at c.loop-a.invariant.place in
    let room = c.requires.has_capacity in
    omega (arith, simp length-append at p)

pub encode_address-requires-clause-has_room : goal.encode_address-requires-clause-has_room
encode_address-requires-clause-has_room c =
    let p = rw (refs_text_drop c.args.bits c.args.refs.now c.loop-a.a-index c.loop-a-test.true) at c.loop-a.invariant.place in
    let room = c.requires.has_capacity in
    omega (arith, simp length-append at p)

pub loop-a-preserved : goal.loop-a-preserved
loop-a-preserved c =
    let rest = rw (refs_text_drop c.args.bits c.args.refs.now c.loop-a.a-index c.loop-a-test.true) at c.loop-a.invariant in
    remains_next _ (remains_next _ rest c.byte.ensures) c.encode_address.ensures

pub returns : goal.returns
unfolding refs_text
returns c =
    let w = remains_done (rw (drop_all c.loop-a.a-index c.args.refs.now c.loop-a-test.false) at c.loop-a.invariant) in
    search (rules, w)
