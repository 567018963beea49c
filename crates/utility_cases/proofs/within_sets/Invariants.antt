-- The lists are the same.
use Rattle.diagrams.specs.Store.{SameLists}
use Rattle.utility_cases.proofs.within_sets.Given as goal

abbrev pub invariant-loop-cubes : goal.invariant-loop-cubes
invariant-loop-cubes g l = SameLists l.initial.sets l.sets
