-- The answer that a refusal, or the result of a write or of a check, represents. No two results of a write have the same answer.
-- A reader must believe `refusal_answer`, `answer_of` and `check_answer`.
use Rattle.std.specs.Prelude.{◌≡◌, refl, ℕ, cond, eqb, Result, Ok, Err}
use Rattle.std.specs.Result.{IsErr, IsErrAnd}
use Rattle.std.proofs.Common.{sym, ap, ◌∙◌, arith}
use Rattle.std.proofs.lemmas.Result.{err_from_is_err_and}
use Rattle.table.specs.declared.Answer.{Answer}
use Rattle.table.specs.declared.Refusal.{Refusal}
use Rattle.table.specs.declared.Refusal.TheVariants.{BadHeader, BadRow, TooSmall, ClassMissing}

-- The reply of a refusal, and its place (docs/FORMAT.md 8).
abbrev pub refusal_answer : Refusal → Answer
refusal_answer BadHeader = record { reply = 15; place = 0 }
refusal_answer (BadRow i) = record { reply = 16; place = i }
refusal_answer TooSmall = record { reply = 17; place = 0 }
refusal_answer (ClassMissing i) = record { reply = 18; place = i }

-- The answer of a write or of a size query: reply 0 with the number of bytes, or the refusal.
abbrev pub answer_of : Result ℕ Refusal → Answer
answer_of (Ok bytes) = record { reply = 0; place = bytes }
answer_of (Err refusal) = refusal_answer refusal

-- The answer of a check: reply 0 with place 0, or the refusal.
abbrev pub check_answer : {A : Type 0} → Result A Refusal → Answer
check_answer (Ok _) = record { reply = 0; place = 0 }
check_answer (Err refusal) = refusal_answer refusal

-- The result of a write that a reply and a place represent.
result_of : Answer → Result ℕ Refusal
result_of a =
    cond (eqb a.reply 0) (Ok a.place)
    (Err (cond (eqb a.reply 15) BadHeader
    (cond (eqb a.reply 16) (BadRow a.place)
    (cond (eqb a.reply 17) TooSmall (ClassMissing a.place)))))

result_of_answer : (w : Result ℕ Refusal) → result_of (answer_of w) ≡ w
unfolding result_of
result_of_answer (Ok n) = refl
result_of_answer (Err BadHeader) = refl
result_of_answer (Err (BadRow i)) = refl
result_of_answer (Err TooSmall) = refl
result_of_answer (Err (ClassMissing i)) = refl

-- Two results of a write with the same answer are equal: an equation of answers states the result itself.
pub answer_of_injective : (v w : Result ℕ Refusal) → answer_of v ≡ answer_of w → v ≡ w
answer_of_injective v w e = sym (result_of_answer v) ∙ (ap result_of e ∙ result_of_answer w)

-- A refusal has no reply 0.
pub refusal_not_0 : (refusal : Refusal) → (refusal_answer refusal).reply ≡ 0 → ⊥
refusal_not_0 BadHeader z = omega arith
refusal_not_0 (BadRow i) z = omega arith
refusal_not_0 TooSmall z = omega arith
refusal_not_0 (ClassMissing i) z = omega arith

-- What the exit of a `?` returns: the error of the call.
pub passed_on : {A E : Type 0} {r : Result A E} {e : E} → IsErr r × IsErrAnd r (λ x. x ≡ e) → r ≡ Err e
passed_on {r = r} h = let p = err_from_is_err_and r h.1 in rw (p.1, p.2)
