-- `trailers_size` satisfies its contract: each number has at most 20 digits, so no sum overflows.
use Rattle.std.proofs.Common.{ℕ, ◌+◌, ◌^◌, ◌<◌, ◌≤◌, arith}
use Rattle.digits.specs.Digits.{digit_count}
use Rattle.digits.specs.DigitLengths.{digit_count_le_20}
use Rattle.classic_write.specs.TextSizes.{length_trailers}
use Rattle.classic_write.proofs.trailers.trailers_size.Goals as goal

pub overflow_add-kinds : goal.overflow_add-kinds
overflow_add-kinds c =
    let t = c.args.t in
    let m : (n : ℕ) → n < 2 ^ 64 → digit_count n ≤ 20 = digit_count_le_20 in
    omega (
      arith,
      m t.classes (omega arith),
      m t.objects (omega arith),
      m t.arrays (omega arith),
      m t.primitives (omega arith),
      m t.rows (omega arith),
      m (t.refs + t.nulls) (omega arith),
      m t.nulls (omega arith),
    )

pub overflow_add-kinds-2 : goal.overflow_add-kinds-2
overflow_add-kinds-2 c =
    let t = c.args.t in
    let m : (n : ℕ) → n < 2 ^ 64 → digit_count n ≤ 20 = digit_count_le_20 in
    omega (
      arith,
      m t.classes (omega arith),
      m t.objects (omega arith),
      m t.arrays (omega arith),
      m t.primitives (omega arith),
      m t.rows (omega arith),
      m (t.refs + t.nulls) (omega arith),
      m t.nulls (omega arith),
    )

pub overflow_add-kinds-3 : goal.overflow_add-kinds-3
overflow_add-kinds-3 c =
    let t = c.args.t in
    let m : (n : ℕ) → n < 2 ^ 64 → digit_count n ≤ 20 = digit_count_le_20 in
    omega (
      arith,
      m t.classes (omega arith),
      m t.objects (omega arith),
      m t.arrays (omega arith),
      m t.primitives (omega arith),
      m t.rows (omega arith),
      m (t.refs + t.nulls) (omega arith),
      m t.nulls (omega arith),
    )

pub overflow_add-all : goal.overflow_add-all
overflow_add-all c =
    let t = c.args.t in
    let m : (n : ℕ) → n < 2 ^ 64 → digit_count n ≤ 20 = digit_count_le_20 in
    omega (
      arith,
      m t.classes (omega arith),
      m t.objects (omega arith),
      m t.arrays (omega arith),
      m t.primitives (omega arith),
      m t.rows (omega arith),
      m (t.refs + t.nulls) (omega arith),
      m t.nulls (omega arith),
    )

pub overflow_add-all-2 : goal.overflow_add-all-2
overflow_add-all-2 c =
    let t = c.args.t in
    let m : (n : ℕ) → n < 2 ^ 64 → digit_count n ≤ 20 = digit_count_le_20 in
    omega (
      arith,
      m t.classes (omega arith),
      m t.objects (omega arith),
      m t.arrays (omega arith),
      m t.primitives (omega arith),
      m t.rows (omega arith),
      m (t.refs + t.nulls) (omega arith),
      m t.nulls (omega arith),
    )

pub overflow_add-result : goal.overflow_add-result
overflow_add-result c =
    let t = c.args.t in
    let m : (n : ℕ) → n < 2 ^ 64 → digit_count n ≤ 20 = digit_count_le_20 in
    omega (
      arith,
      m t.classes (omega arith),
      m t.objects (omega arith),
      m t.arrays (omega arith),
      m t.primitives (omega arith),
      m t.rows (omega arith),
      m (t.refs + t.nulls) (omega arith),
      m t.nulls (omega arith),
    )

pub overflow_add-result-2 : goal.overflow_add-result-2
overflow_add-result-2 c =
    let t = c.args.t in
    let m : (n : ℕ) → n < 2 ^ 64 → digit_count n ≤ 20 = digit_count_le_20 in
    omega (
      arith,
      m t.classes (omega arith),
      m t.objects (omega arith),
      m t.arrays (omega arith),
      m t.primitives (omega arith),
      m t.rows (omega arith),
      m (t.refs + t.nulls) (omega arith),
      m t.nulls (omega arith),
    )

pub returns : goal.returns
returns c =
    rw (
      length_trailers c.args.t,
      ← c.digit_count.ensures,
      ← c.digit_count-2.ensures,
      ← c.digit_count-3.ensures,
      ← c.digit_count-4.ensures,
      ← c.digit_count-5.ensures,
      ← c.digit_count-6.ensures,
      ← c.digit_count-7.ensures,
    )
