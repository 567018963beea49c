-- A case begins no later than the byte that is looked at.
use Rattle.std.proofs.Common.{◌≤◌}
use Rattle.question_cases.proofs.main.Given as goal

abbrev pub invariant-loop-i : goal.invariant-loop-i
invariant-loop-i l = l.start ≤ l.i
