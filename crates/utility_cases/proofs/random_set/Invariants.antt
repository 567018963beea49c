-- The lists can be gone on with, and are the same.
use Rattle.diagrams.specs.Store.{table_of, SameLists}
use Rattle.utility_cases.specs.Ready.{Ready}
use Rattle.utility_cases.proofs.random_set.Given as goal

abbrev pub invariant-loop : goal.invariant-loop
invariant-loop l = Ready (table_of l.nodes) l.memo l.name × SameLists l.initial.nodes l.nodes
