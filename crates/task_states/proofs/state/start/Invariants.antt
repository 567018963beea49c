use mathlib.Core.Path.{◌≡◌}
use lib.ListN.{take}
use Rattle.task.specs.Format.{start_value}
use Rattle.planning.specs.Scan.{tab}
use Rattle.task_states.proofs.state.start.Given as goal

abbrev pub invariant-loop-v : goal.invariant-loop-v
invariant-loop-v l =
    take l.v l.state ≡ tab (start_value l.file) l.v 0
