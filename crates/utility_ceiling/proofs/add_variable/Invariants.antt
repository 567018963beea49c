use lib.ListN.{drop}
use Prim.Native.Nat.{suc, ◌-◌}
use Rattle.planning.specs.Coding.{width, bits}
use Rattle.diagrams.specs.Store.{table_of, SameLists}
use Rattle.task.specs.Decode.{sizes}
use Rattle.utility_ceiling.specs.Permitted.{permitted}
use Rattle.utility_ceiling.proofs.Making.{Bounding}
use Rattle.utility_ceiling.proofs.add_variable.Given as goal

abbrev pub invariant-loop-k : goal.invariant-loop-k
invariant-loop-k l =
    Bounding (table_of l.nodes) (bits (drop (suc l.v) (sizes l.file))) (permitted (drop (suc l.v) (sizes l.file))) l.next l.first (width l.d) (l.d - 1) l.rest l.k l.tight × SameLists l.initial.nodes l.nodes
