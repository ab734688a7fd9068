-- Storing the bytes that are left gives the same table as storing all.
use Rattle.std.proofs.Common.{◌≡◌, ◌+◌, drop}
use Rattle.std.proofs.lemmas.List.Edits.{sets}
use Rattle.reader_toy.proofs.store_refs.Given as goal

abbrev pub invariant-loop-i : goal.invariant-loop-i
invariant-loop-i l = sets l.refs (l.to + l.i) (drop l.i l.bytes) ≡ sets l.initial.refs l.to l.bytes
