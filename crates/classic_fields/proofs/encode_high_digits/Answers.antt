-- `encode_high_digits` satisfies its contract: there are no digits before the last eight for W 32.
use Rattle.std.proofs.Common.{refl, arith}
use Rattle.classic_fields.proofs.AddressSteps.{no_high_digits}
use Rattle.classic_fields.proofs.encode_high_digits.Goals as goal

pub returns-else-bits-eq64 : goal.returns-else-bits-eq64
returns-else-bits-eq64 c = rw (no_high_digits _ c.args.a c.requires.valid_bits c.if-bits-eq64.false) (record { same = refl; long = refl; place = omega arith; out = refl })
