use Rattle.std.proofs.Common.{◌≡◌, drop, pos}
use Rattle.encode.specs.Encode.{refs_code, width_code}
use Rattle.encode.proofs.refs_code.Given as goal

abbrev pub invariant-loop-to : goal.invariant-loop-to
invariant-loop-to l = refs_code (width_code (pos l.m)) l.a (drop l.to-index l.refs) ≡ refs_code 0 l.a l.refs
