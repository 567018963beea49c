use Rattle.diagrams.specs.Store.{table_of, SameLists}
use Rattle.task.specs.Decode.{sizes}
use Rattle.utility_ceiling.specs.Sets.{From}
use Rattle.utility_ceiling.proofs.permitted_states.Given as goal

abbrev pub invariant-loop-v : goal.invariant-loop-v
invariant-loop-v l =
    From (sizes l.file) (table_of l.nodes) l.name l.v × SameLists l.initial.nodes l.nodes
