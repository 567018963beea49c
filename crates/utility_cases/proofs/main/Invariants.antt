-- Less is left after each file.
use Rattle.std.proofs.Common.{length}
use Rattle.utility_cases.proofs.main.Given as goal

abbrev pub decreases-loop-rest : goal.decreases-loop-rest
decreases-loop-rest l = length l.rest
