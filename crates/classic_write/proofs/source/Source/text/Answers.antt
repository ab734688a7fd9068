-- `text` refuses before it writes a byte, and writes only if the output has capacity for the whole text.
use Rattle.std.proofs.Common.{◌≡◌, refl, sym, arith, length, ◌≤◌}
use Rattle.table.specs.Refusals.{refusal_not_0, passed_on}
use Rattle.table.specs.CheckOrder.{refused_unchanged, done_overwrite}
use Rattle.classic_write.specs.TextOutcomes.{text_by_checks, size_query_agrees}
use Rattle.classic_write.specs.SizedText.{checked_text_reply, text_bytes}
use Rattle.classic_write.proofs.source.Source.text.Goals as goal

pub returns-in_err-size : goal.returns-in_err-size
returns-in_err-size c =
    let r = refused_unchanged c.args.out.now _ _ _ ((size_query_agrees _ _ _ _ _ _ c.in_err-size.ensures).refusal (refusal_not_0 _)) in
    record { is = rw (passed_on c.from_residual.ensures) r.0; out = r.1 }

pub returns-then-out-size : goal.returns-then-out-size
returns-then-out-size c =
    let s = size_query_agrees _ _ _ _ _ (length c.args.out.now) (checked_text_reply c.args.self.now.good.good c.in_ok-size.ensures) in
    let r = refused_unchanged c.args.out.now _ 17 0 (s.too_small refl (omega arith)) in
    record { is = r.0; out = r.1 }

pub write-requires : goal.write-requires
write-requires c = record {
  checked = c.in_ok-size.ensures;
  has_capacity = let p = c.in_ok-size.ensures in omega (arith, p.size_is);
}

pub returns : goal.returns
returns c =
    let p = c.in_ok-size.ensures in
    let l : length (text_bytes c.args.self.now.good.tables) ≤ length c.args.out.now = omega (arith, p.size_is) in
    let s = size_query_agrees _ _ _ _ _ (length c.args.out.now) (checked_text_reply c.args.self.now.good.good p) in
    let z = s.done.1 (refl, omega (arith, p.size_is)) in
    let e : c.write.result ≡ c.in_ok-size.size.bytes = omega (arith, p.size_is, c.write.ensures.place) in
    record {
      is = rw e (sym (s.same z));
      out = done_overwrite _ _ _ _ ((text_by_checks _ _ _ _ _).written z) l c.write.ensures.out;
    }
