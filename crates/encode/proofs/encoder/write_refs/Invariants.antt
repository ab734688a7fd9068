use Rattle.std.proofs.Common.{drop}
use Rattle.encode.specs.Encode.{encode_ref_list}
use Rattle.encode.specs.Wrote.{Remains}
use Rattle.encode.proofs.encoder.write_refs.Given as goal

abbrev pub invariant-loop-to : goal.invariant-loop-to
invariant-loop-to l = Remains l.initial.e l.e (encode_ref_list l.w l.a l.refs) (encode_ref_list l.w l.a (drop l.to-index l.refs))
