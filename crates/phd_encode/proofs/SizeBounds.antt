-- Bounds by which no sum of `record_size` exceeds 64 bits, and the sizes of the plans of all kinds.
use Rattle.std.proofs.Common.{ℕ, ◌*◌, ◌^◌, ◌≤◌, ◌<◌, mul-le-mul_left, arith}
use Rattle.encode.specs.Widths.{max_lt}
use Rattle.encode.proofs.Widths.{code_lt}
use Rattle.phd.specs.Shapes.{width_le_8, hash_bytes_le_8}
use Rattle.phd_encode.specs.SizeFromRow.{class_plan_size, object_array_plan_size, object_plan_size, primitive_plan_size}

-- Fewer than 2 ^ 31 references of at most 8 bytes each take fewer than 2 ^ 34 bytes.
pub ref_bytes_lt : (n w : ℕ) → n < 2 ^ 31 → w ≤ 8 → n * w < 2 ^ 34
ref_bytes_lt n w h l = omega (arith, mul-le-mul_left n l)

pub ruleset size_bounds = (code_lt, max_lt, width_le_8, hash_bytes_le_8, ref_bytes_lt)

pub ruleset plan_sizes = (size_bounds, class_plan_size, object_array_plan_size, object_plan_size, primitive_plan_size)
