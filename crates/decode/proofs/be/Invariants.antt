-- The sum so far is below 256 ^ i, and the bytes left, read on from it, give the value of all bytes.
use Rattle.std.proofs.Common.{◌≡◌, ◌^◌, ◌<◌, drop}
use Rattle.decode.specs.Numbers.{value_after, value}
use Rattle.decode.proofs.be.Given as goal

abbrev pub invariant-loop-b : goal.invariant-loop-b
invariant-loop-b l = (l.sum < 256 ^ l.b-index) × (value_after l.sum (drop l.b-index l.bytes) ≡ value l.bytes)
