-- Texts and numbers as bytes: characters, decimal numbers, and numbers in any base up to 16 in upper case.
-- A reader must believe these definitions. (`digits b k n` of `io` is the last k digits of n in base b, the most significant
-- first, with `a` to `f` after `9`.)
use Rattle.std.specs.Prelude.{ℕ, zero, suc, ◌-◌, ◌/◌, true, false, cond, List, [], ◌∷◌, ◌++◌, map, ltb}
use Prim.Native.Char.{code}
use Prim.Native.String.{String, [] as end, ◌∷◌ as ◌then◌}
use Rattle.io.specs.Digits.{last_digits}

-- The bytes of a text.
abbrev pub ascii : String → List ℕ
ascii end = []
ascii (c then s) = code c ∷ ascii s

-- How many digits a number has in base ten: 1 if it is below ten, else 1 more than n / 10 has. It takes at most k steps.
unfoldable pub digit_count_in : ℕ → ℕ → ℕ
digit_count_in zero n = 1
digit_count_in (suc k) n = elim (ltb n 10) [
  | true ↦ 1
  | false ↦ suc (digit_count_in k (n / 10))
]

-- How many digits a number has in base ten; n steps are enough.
unfoldable pub digit_count : ℕ → ℕ
digit_count n = digit_count_in n n

-- A number in base ten, without leading zeros.
unfoldable pub decimal : ℕ → List ℕ
decimal n = last_digits 10 (digit_count n) n

-- A text, then a number in base ten.
abbrev pub text_decimal : String → ℕ → List ℕ
text_decimal before n = ascii before ++ decimal n

-- A lower-case letter in upper case; a digit unchanged.
unfoldable pub uppercase : ℕ → ℕ
uppercase c = cond (ltb c 0x61) c (c - 0x20)

-- The last k digits of a number in base b, in upper case.
unfoldable pub upper_digits : ℕ → ℕ → ℕ → List ℕ
upper_digits b k n = map uppercase (last_digits b k n)
