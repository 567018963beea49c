use Prim.Native.Nat.{◌*◌, ◌≤◌}
use Rattle.task.specs.Format.{terms}
use Rattle.task_states.proofs.StateLaws.{SumTo}
use Rattle.task_states.proofs.state.utility.Given as goal

abbrev pub invariant-loop-t : goal.invariant-loop-t
invariant-loop-t l =
    SumTo l.file l.state (terms l.file) l.sum l.t × (l.sum ≤ 65535 * l.t)
