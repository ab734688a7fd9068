use Rattle.std.proofs.Common.{refl, arith, length, ◌-◌, ◌+◌, ◌≡◌, ◌<◌, ◌≤◌}
use Rattle.decode.specs.Layout.{run_raw, run_raw_short}
use Rattle.decode.proofs.decoder.Decoder.raw.Goals as goal

pub returns-then-left-n-clause-reads : goal.returns-then-left-n-clause-reads
returns-then-left-n-clause-reads c =
    let a = c.args in
    let i = a.self.now.inside in
    let h : length a.self.now.bytes.now < a.self.now.at + a.n = omega arith in
    let e : a.self.now.at + a.n - length a.self.now.bytes.now ≡ a.n - (length a.self.now.bytes.now - a.self.now.at) = omega arith in
    record { same = refl; value = rw (run_raw_short _ _ _ h, e) }

pub returns-clause-reads : goal.returns-clause-reads
returns-clause-reads c =
    let a = c.args in
    let i = a.self.now.inside in
    let h : a.self.now.at + a.n ≤ length a.self.now.bytes.now = omega arith in
    let e : a.self.now.at + a.n - a.self.now.at ≡ a.n = omega arith in
    record { same = refl; value = rw (run_raw _ _ _ h, e) }
