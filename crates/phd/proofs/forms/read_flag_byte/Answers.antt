use mir.Val.{bool_byte}
use Rattle.std.specs.Prelude.{◌≡◌, refl, Bool, true, false, cond, ltb}
use Rattle.std.proofs.Common.{sym, ◌∙◌}
use Rattle.phd.specs.Phd.{flag_byte}
use Rattle.decode.specs.Reads.{stopped, reads_then, reads_stop, reads_stop_at, reads_checked, reads_refused, reads_yield}
use Rattle.phd.proofs.forms.read_flag_byte.Goals as goal

-- The number of flag bytes, as the code and as the layout have it.
one_or_none : (b : Bool) → bool_byte b ≡ cond b 1 0
one_or_none true = refl
one_or_none false = refl

pub returns-in_err-flags-clause-reads : goal.returns-in_err-flags-clause-reads
unfolding flag_byte
returns-in_err-flags-clause-reads c =
    let read = rw (c.from.ensures ∙ one_or_none _) at c.in_err-flags.ensures.reads in
    rw (stopped c.from_residual.ensures) (reads_stop _ read)

pub returns-then-not-flags_allowed-clause-reads : goal.returns-then-not-flags_allowed-clause-reads
unfolding flag_byte
returns-then-not-flags_allowed-clause-reads c =
    let read = rw (c.from.ensures ∙ one_or_none _) at c.in_ok-flags.ensures.reads in
    reads_stop_at (reads_then _ read (reads_refused _ _ (sym c.if-not-flags_allowed.ensures))) refl

pub returns-clause-reads : goal.returns-clause-reads
unfolding flag_byte
returns-clause-reads c =
    let read = rw (c.from.ensures ∙ one_or_none _) at c.in_ok-flags.ensures.reads in
    reads_then _ read (reads_checked _ _ (sym c.if-not-flags_allowed.ensures) (reads_yield _ _))
