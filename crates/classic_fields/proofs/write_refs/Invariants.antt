-- The invariant of `write_refs`: the references that are left remain to be encoded.
use Rattle.std.proofs.Common.{drop}
use Rattle.encode.specs.Wrote.{Remains}
use Rattle.classic.specs.ClassicText.{refs_text}
use Rattle.classic_fields.proofs.write_refs.Given as goal

abbrev pub invariant-loop-a : goal.invariant-loop-a
invariant-loop-a l = Remains l.initial.e l.e (refs_text l.bits l.refs) (refs_text l.bits (drop l.a-index l.refs))
