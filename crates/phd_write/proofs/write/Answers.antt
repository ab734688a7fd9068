-- `write` checks the tables, then the size limit and the capacity of the output.
use Rattle.std.proofs.Common.{◌≡◌, ℕ, refl, sym, arith, List, length}
use Rattle.table.specs.Buffer.{overwrite}
use Rattle.table.specs.CheckOrder.{refused_unchanged, done_overwrite}
use Rattle.table.specs.Refusals.{refusal_answer, refusal_not_0, passed_on}
use Rattle.table.specs.declared.Refusal.{Refusal}
use Rattle.phd_check.specs.declared.Tables.{Tables}
use Rattle.phd_write.specs.Write.{write_of, write_size_of}
use Rattle.phd_write.specs.WriteOutcomes.{check_refusal, reply_0_means, size_query_agrees}
use Rattle.phd_write.proofs.write.Goals as goal

-- What the contract says of a write that is refused: here by the checks of the size query.
refused : (t : Tables) (out : List ℕ) (x : Refusal) → refusal_answer x ≡ write_size_of t
    → (refusal_answer x ≡ (write_of t (length out)).answer) × (out ≡ overwrite out (write_of t (length out)).bytes)
refused t out x e = refused_unchanged _ _ _ _ ((size_query_agrees _ _ _ _ _ (length out) e).refusal (refusal_not_0 x))

pub returns-in_err-good : goal.returns-in_err-good
returns-in_err-good c =
    let r = refused c.args.tables c.args.out.now _ (check_refusal _ _ _ _ _ c.in_err-good.ensures.answer (refusal_not_0 _)) in
    record { is = rw (passed_on c.from_residual.ensures) r.0; out = r.1 }

pub returns-in_err-size : goal.returns-in_err-size
returns-in_err-size c =
    let r = refused c.args.tables c.args.out.now _ (rw c.in_ok-good.ensures.same at c.in_err-size.ensures) in
    record { is = rw (passed_on c.from_residual-in_err-size.ensures) r.0; out = r.1 }

pub returns-then-out-size : goal.returns-then-out-size
returns-then-out-size c =
    let q = size_query_agrees _ _ _ _ _ (length c.args.out.now) (rw c.in_ok-good.ensures.same at c.in_ok-size.ensures) in
    let r = refused_unchanged c.args.out.now _ 17 0 (q.too_small refl (omega arith)) in
    record { is = r.0; out = r.1 }

-- The output can hold the dump.
pub encode_dump-requires : goal.encode_dump-requires
encode_dump-requires c =
    let q = size_query_agrees _ _ _ _ _ (length c.args.out.now) c.in_ok-size.ensures in
    let s = reply_0_means _ _ _ _ _ (q.done.1 (refl, omega arith)) in
    omega (arith, s.1)

pub returns : goal.returns
returns c =
    let q = size_query_agrees _ _ _ _ _ (length c.args.out.now) (rw c.in_ok-good.ensures.same at c.in_ok-size.ensures) in
    let z = q.done.1 (refl, omega arith) in
    let s = reply_0_means _ _ _ _ _ z in
    record { is = sym (q.same z); out = done_overwrite _ _ _ _ s.3 s.1 (rw c.in_ok-good.ensures.same at c.encode_dump.ensures.out) }
