use native.Mathlib.Omega.{arith}
use mathlib.Core.Path.{sym}
use Rattle.walk.proofs.Steps.{walk_on, walk_stop, walk_end}
use Rattle.walk.proofs.follow.Goals as goal

pub returns-in-Err : goal.returns-in-Err
returns-in-Err c =
    sym (walk_stop _ _ _ _ _ _ _ c.loop-at-test.true c.loop-at.invariant.0 c.le16.ensures.is _ c.in-Err.ensures.answer)

pub loop-at-preserved : goal.loop-at-preserved
loop-at-preserved c =
    (walk_on _ _ _ _ _ _ _ c.loop-at-test.true c.loop-at.invariant.0 c.le16.ensures.is _ _ c.in-Ok.ensures.answer c.in-Ok.ensures.applied, c.in-Ok.ensures.small)

pub returns : goal.returns
returns c =
    sym (walk_end _ _ _ _ _ _ _ (omega arith) c.loop-at.invariant.0 c.utility.ensures)
