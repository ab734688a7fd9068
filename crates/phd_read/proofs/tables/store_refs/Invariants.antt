-- The references so far are stored, and the others are all there from the decoder on.
use Rattle.std.proofs.Common.{◌≡◌, ◌-◌, ◌++◌, length, take}
use Rattle.decode.specs.Layout.{run}
use Rattle.phd.specs.Phd.{ref_list}
use Rattle.phd_read.specs.StoredRefs.{RefsAllRead, values_of}
use Rattle.phd_read.proofs.tables.store_refs.Given as goal

abbrev pub invariant-loop-r : goal.invariant-loop-r
invariant-loop-r l =
    (l.d.bytes.now ≡ l.s) × RefsAllRead (run (ref_list l.w l.base l.top (length l.refs - l.r-index)) l.s l.d.at)
    × (take l.r-index l.refs ++ values_of (run (ref_list l.w l.base l.top (length l.refs - l.r-index)) l.s l.d.at) ≡ values_of (run (ref_list l.w l.base l.top (length l.refs)) l.s l.at))
