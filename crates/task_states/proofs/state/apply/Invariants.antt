use Rattle.task_states.proofs.StateLaws.{AppliedTo}
use Rattle.task_states.proofs.state.apply.Given as goal

abbrev pub invariant-loop-k : goal.invariant-loop-k
invariant-loop-k l =
    AppliedTo l.initial.state l.row l.n l.state l.k
