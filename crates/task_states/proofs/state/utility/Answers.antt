use native.Mathlib.Omega.{arith}
use Rattle.task.specs.Decode.{task_of}
use Rattle.task_states.proofs.StateLaws.{sum_more, sum_done}
use Rattle.task_states.proofs.state.utility.Goals as goal

pub loop-t-preserved : goal.loop-t-preserved
loop-t-preserved c =
    (sum_more _ _ _ _ _ _ (omega arith) c.loop-t.invariant.0 c.gain-sum.ensures.is, omega arith)

pub returns : goal.returns
unfolding task_of
returns c =
    sum_done _ _ _ _ _ (omega arith) c.loop-t.invariant.0
