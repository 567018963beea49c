use Rattle.std.proofs.Common.{arith}
use Rattle.stand.proofs.Writes.{copy_more, copy_done}
use Rattle.stand.proofs.copy.Goals as goal

pub loop-i-preserved : goal.loop-i-preserved
loop-i-preserved c =
    rw c.set8.ensures (copy_more _ _ _ _ _ (omega arith) c.loop-i.invariant)

pub returns : goal.returns
returns c = copy_done _ _ _ _ _ (omega arith) c.loop-i.invariant
