-- The last j + k digits of a number are the last j digits of its quotient by b ^ k, then its last k digits.
-- Assumes nothing.
use Rattle.std.specs.Prelude.{◌≡◌, ◌++◌, ℕ, zero, suc, ◌+◌, ◌/◌, ◌^◌}
use Rattle.std.proofs.Common.{append-nil, append_assoc, add-zero, add-suc, pow-suc, mul_comm, div-one}
use Rattle.std.proofs.lemmas.List.{map-append}
use Rattle.std.proofs.Math.Nat.{pow-zero, div-div-eq-div-mul}
use Rattle.digits.specs.Digits.{upper_digits}

pub upper_digits_parts : (b j k n : ℕ) → upper_digits b (j + k) n ≡ upper_digits b j (n / b ^ k) ++ upper_digits b k n
unfolding upper_digits
upper_digits_parts b j zero n = rw (add-zero j, pow-zero b, div-one n, append-nil)
upper_digits_parts b j (suc k) n =
    let d : n / b / b ^ k ≡ n / b ^ suc k = rw (div-div-eq-div-mul n b (b ^ k), mul_comm b (b ^ k), ← pow-suc b k) in
    rw (add-suc j k) (simp (map-append, upper_digits_parts b j k (n / b), d, append_assoc))
