-- The sum stays below its modulus.
use Rattle.std.proofs.Common.{◌<◌}
use Rattle.utility_cases.proofs.checksum.Given as goal

abbrev pub invariant-loop-state : goal.invariant-loop-state
invariant-loop-state l = l.sum < 1000003
