use Rattle.std.proofs.Common.{sym, arith}
use Rattle.reader_toy.proofs.ToyStepLaws.{step_ends_end, step_ends_bytes, step_ends_stop, step_ends_rows, step_ends_refs, step_continues, record_at}
use Rattle.reader_toy.proofs.step.Goals as goal

pub returns-in-Err : goal.returns-in-Err
returns-in-Err c = rw c.stop_at.ensures (step_ends_stop c.args.letter c.requires _ (sym c.in-Err.ensures.reads.value))

pub returns-then-n-eq0 : goal.returns-then-n-eq0
returns-then-n-eq0 c = rw c.at.ensures (step_ends_end c.args.letter c.requires (sym c.in-Ok.ensures.reads.value) c.if-n-eq0.true)

pub returns-in-Err-raw : goal.returns-in-Err-raw
returns-in-Err-raw c =
    let stop = rw c.in-Ok.ensures.reads.same at (sym c.in-Err-raw.ensures.reads.value) in
    rw c.stop_at-in-Err-raw.ensures (step_ends_bytes c.args.letter c.requires (sym c.in-Ok.ensures.reads.value) c.if-n-eq0.false _ stop)

pub returns-then-rows-k : goal.returns-then-rows-k
returns-then-rows-k c =
    let read = rw c.in-Ok.ensures.reads.same at (sym c.in-Ok-raw.ensures.reads.value) in
    let found = record_at c.args.letter c.requires (sym c.in-Ok.ensures.reads.value) c.if-n-eq0.false read c.in-Ok-raw.ensures.long in
    rw c.at-then-rows-k.ensures (step_ends_rows c.args.letter c.requires found (omega arith))

pub returns-then-refs-k : goal.returns-then-refs-k
returns-then-refs-k c =
    let read = rw c.in-Ok.ensures.reads.same at (sym c.in-Ok-raw.ensures.reads.value) in
    let found = record_at c.args.letter c.requires (sym c.in-Ok.ensures.reads.value) c.if-n-eq0.false read c.in-Ok-raw.ensures.long in
    rw c.at-then-refs-k.ensures (step_ends_refs c.args.letter c.requires found (omega arith) (omega arith))

pub returns : goal.returns
returns c =
    let read = rw c.in-Ok.ensures.reads.same at (sym c.in-Ok-raw.ensures.reads.value) in
    let found = record_at c.args.letter c.requires (sym c.in-Ok.ensures.reads.value) c.if-n-eq0.false read c.in-Ok-raw.ensures.long in
    rw (c.store_row-k.ensures.is, c.store_refs.ensures)
    (step_continues c.args.letter c.requires found _ c.store_row-k.ensures.counts (omega arith) (omega arith))
