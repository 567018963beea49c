use native.Mathlib.Omega.{arith}
use Rattle.task_states.proofs.StateLaws.{start_more}
use Rattle.task_states.proofs.state.start.Goals as goal

pub loop-v-preserved : goal.loop-v-preserved
loop-v-preserved c =
    start_more _ _ _ _ (omega arith) c.loop-v.invariant c.start_value.ensures.is
