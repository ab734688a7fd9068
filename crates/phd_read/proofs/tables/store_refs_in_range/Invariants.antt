-- The references so far are stored, and the others are read from `here`.
use Rattle.std.proofs.Common.{◌≡◌, ◌≤◌, ◌+◌, ◌*◌, ◌-◌, ◌++◌, length, take}
use Rattle.decode.specs.Layout.{run}
use Rattle.phd.specs.Phd.{ref_list}
use Rattle.phd_read.specs.StoredRefs.{values_of}
use Rattle.phd_read.proofs.tables.store_refs_in_range.Given as goal

abbrev pub invariant-loop-r : goal.invariant-loop-r
invariant-loop-r l =
    (l.here + (length l.refs - l.r-index) * l.w + 4 ≤ length l.s)
    × (take l.r-index l.refs ++ values_of (run (ref_list l.w l.base l.top (length l.refs - l.r-index)) l.s l.here) ≡ values_of (run (ref_list l.w l.base l.top (length l.refs)) l.s l.at))
