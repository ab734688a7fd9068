-- The bucket is the first empty one, so the key is found there.
use Rattle.std.proofs.Common.{◌≡◌, ℕ, false, refl, arith}
use Rattle.std.specs.Prelude.{Option, Some, None}
use Rattle.std.specs.Option.{is_some}
use Rattle.summaries.specs.declared.Key.{Key}
use Rattle.summary_index.specs.EnterKey.{key_entered}
use Rattle.summary_index.proofs.enter.Goals as goal

none_is : (o : Option Key) → is_some o ≡ false → o ≡ None
none_is None e = refl
none_is (Some j) e = absurd (let z : ◌≡◌ {A = ℕ} 0 1 = cc in omega arith)

pub returns-then-is_none : goal.returns-then-is_none
returns-then-is_none c =
    let f = c.first_bucket-first.ensures.0 in
    let e = none_is c.key.result c.if-is_none.ensures in
    let empty = rw (c.key.ensures, c.loop-at.invariant.same) at e in
    rw (c.loop-at.invariant.same, c.new.ensures)
    (key_entered _ _ _ _ empty (rw (← c.loop-at.invariant.same) (omega arith)) (omega arith) (omega arith) (λ d l m. c.loop-at.invariant.full d (omega arith) m))
