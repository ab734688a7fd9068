-- An empty bucket ends the search, one that has the key too, and any other is passed over.
use Rattle.std.proofs.Common.{rules, ◌≡◌, sym, ◌∙◌, arith}
use Rattle.std.specs.Prelude.{Some, None}
use Rattle.summary_index.specs.SummaryIndex.{empty, bucket_at}
use Rattle.summary_index.proofs.FindSteps.{find_start, find_end, find_empty, find_hit, find_next}
use Rattle.summary_index.proofs.find.Goals as goal

pub loop-at-init : goal.loop-at-init
loop-at-init c = find_start _ _ _ c.first_bucket-first.ensures.0

pub returns-in_err-bucket : goal.returns-in_err-bucket
returns-in_err-bucket c =
    let e : bucket_at c.args.buckets.now c.loop-at.at ≡ empty = search rules in
    c.from_residual.ensures ∙ find_empty _ _ _ c.loop-at.invariant (let f = c.first_bucket-first.ensures.0 in omega arith) (rw e)

pub returns-in_err-key : goal.returns-in_err-key
returns-in_err-key c =
    let e : bucket_at c.args.buckets.now c.loop-at.at ≡ c.in_ok-bucket.field-0.now = search rules in
    let n : c.key.result ≡ None = c.in_err-key.was in
    c.from_residual-in_err-key.ensures
    ∙ find_empty _ _ _ c.loop-at.invariant (let f = c.first_bucket-first.ensures.0 in omega arith) (rw e (sym c.key.ensures ∙ n))

pub returns-then-eq : goal.returns-then-eq
returns-then-eq c =
    let e : bucket_at c.args.buckets.now c.loop-at.at ≡ c.in_ok-bucket.field-0.now = search rules in
    let n : c.key.result ≡ Some c.in_ok-key.field-0 = c.in_ok-key.was in
    let q : c.in_ok-key.field-0 ≡ c.args.key = search rules in
    rw (c.entry.ensures, ← e)
    (find_hit _ _ _ c.loop-at.invariant (let f = c.first_bucket-first.ensures.0 in omega arith) _ (rw e (sym c.key.ensures ∙ n)) q)

pub loop-at-preserved : goal.loop-at-preserved
loop-at-preserved c =
    let e : bucket_at c.args.buckets.now c.loop-at.at ≡ c.in_ok-bucket.field-0.now = search rules in
    let n : c.key.result ≡ Some c.in_ok-key.field-0 = c.in_ok-key.was in
    let q : c.in_ok-key.field-0 ≡ c.args.key → ⊥ = search rules in
    find_next _ _ _ c.loop-at.invariant (let f = c.first_bucket-first.ensures.0 in omega arith) _ (rw e (sym c.key.ensures ∙ n)) q

pub returns : goal.returns
returns c = find_end _ _ _ c.loop-at.invariant (let f = c.first_bucket-first.ensures.0 in omega arith)
