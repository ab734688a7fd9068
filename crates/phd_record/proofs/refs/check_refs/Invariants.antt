use Rattle.std.specs.Prelude.{ℕ, ◌-◌, Result}
use Rattle.decode.specs.ReadsAs.{ReadsAs}
use Rattle.decode.specs.declared.Stop.{Stop}
use Rattle.decode.specs.declared.decoder.Decoder.{Decoder}
use Rattle.phd.specs.Phd.{ref_list}
use Rattle.phd_record.specs.RecordReads.{dropped}
use Rattle.phd_record.proofs.refs.check_refs.Given as goal

-- What reads the references that are left reads all of them.
abbrev pub invariant-loop : goal.invariant-loop
invariant-loop l =
    (r : Result (Unit {0}) Stop) (e : Decoder) → ReadsAs dropped (ref_list l.w l.base l.top (l.count - l.counter)) l.d r e
    → ReadsAs dropped (ref_list l.w l.base l.top l.count) l.initial.d r e
