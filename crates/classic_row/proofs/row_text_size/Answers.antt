-- `row_text_size` satisfies its contract: the sum is the row's size, which is below 2^64, and so is every partial sum.
use Rattle.std.proofs.Common.{◌≡◌, ap, ◌+◌, ◌*◌, ◌/◌, ◌<◌, ◌^◌, ℕ, Some, arith}
use Rattle.table.specs.Rows.{rows_of}
use Rattle.classic_row.specs.RowText.{row_size, row_size_le, row_size_or_none}
use Rattle.classic_row.proofs.row_text_size.Goals as goal
use Rattle.classic_row.proofs.row_text_size.Goals.{After-len-type_len}

-- The sum is the row's size.
sum_is : (c : After-len-type_len) → let a = c.args in let one : ℕ = 2 + a.bits / 4 in
    one + 8 + c.digit_count-digits.result + c.len-type_len.result + 1 + one + a.row.count * (1 + one) + 1 ≡ row_size a.bits a.names.now (rows_of a.rows.now) a.row
unfolding row_size
sum_is c = let l = c.in_ok-label.ensures.1 in rw (c.digit_count-digits.ensures, c.len-type_len.ensures, l.bytes, l.type_is)

most : (c : After-len-type_len) → let a = c.args in row_size a.bits a.names.now (rows_of a.rows.now) a.row < 2 ^ 64
most c =
    let a = c.args in
    let few = c.requires.row_numbers_in_bounds.few in
    let m = row_size_le a.bits a.names.now (rows_of a.rows.now) a.row c.requires.valid_bits c.requires.all_numbers_in_bounds c.requires.row_numbers_in_bounds in
    omega arith

pub returns-in_err-label : goal.returns-in_err-label
unfolding row_size_or_none
returns-in_err-label c = rw (c.from_residual.ensures, c.in_err-label.ensures)

pub overflow_add-first-2 : goal.overflow_add-first-2
overflow_add-first-2 c = omega (arith, sum_is c, most c)

pub overflow_add-first-3 : goal.overflow_add-first-3
overflow_add-first-3 c = omega (arith, sum_is c, most c)

pub overflow_add-first-4 : goal.overflow_add-first-4
overflow_add-first-4 c = omega (arith, sum_is c, most c)

pub overflow_add-result : goal.overflow_add-result
overflow_add-result c = omega (arith, sum_is c, most c)

pub overflow_add-result-3 : goal.overflow_add-result-3
overflow_add-result-3 c = omega (arith, sum_is c, most c)

pub overflow_add-result-4 : goal.overflow_add-result-4
overflow_add-result-4 c = omega (arith, sum_is c, most c)

pub returns : goal.returns
unfolding row_size_or_none
returns c = rw c.in_ok-label.ensures.0 (ap Some (sum_is c))
