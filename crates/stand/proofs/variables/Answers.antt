use Rattle.std.proofs.Common.{arith}
use Rattle.stand.proofs.Writes.{sizes_more, sizes_done}
use Rattle.stand.proofs.variables.Goals as goal

pub loop-v-preserved : goal.loop-v-preserved
loop-v-preserved c =
    rw c.set8.ensures (sizes_more _ _ _ _ _ (omega arith) c.loop-v.invariant)

pub returns : goal.returns
returns c = sizes_done _ _ _ _ _ (omega arith) c.loop-v.invariant
