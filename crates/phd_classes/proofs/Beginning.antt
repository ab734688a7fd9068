-- The state of a reading whose header was read.
-- Assumes nothing.
use Rattle.std.proofs.Common.{◌≡◌, ℕ, List, refl}
use Rattle.summary_pass.specs.declared.Tally.{Tally}
use Rattle.summary_pass.specs.PassState.{first_tally}
use Rattle.phd.specs.declared.Header.{Header}
use Rattle.phd_read.specs.PhdSteps.{initial_cursor}
use Rattle.phd_read.specs.declared.records.Cursor.{Cursor}
use Rattle.phd_classes.specs.ReadState.{Opened, Started}

pub started : (dump : List ℕ) (h : Header) (at : ℕ) (k : Cursor) (t : Tally) → Opened dump h at → k ≡ initial_cursor at → t ≡ first_tally
    → Started dump (record { header = h; cursor = k; tally = t })
started dump h at k t o c f = rw (c, f) (record { opened = o; cursor = refl; tally = refl })
