use native.Mathlib.Omega.{arith}
use Rattle.diagram_loops.proofs.Tops.{length_top}
use Rattle.utility_greatest.proofs.Walking.{sunk_known, sunk_room, sunk_less, sunk_push}
use Rattle.utility_greatest.proofs.Walk.descend.Goals as goal

pub returns-in-Known-clause-reaches : goal.returns-in-Known-clause-reaches
returns-in-Known-clause-reaches c = sunk_known c.loop-number.invariant.sunk _ (rw c.in-Known.is at c.look.ensures)

pub push-requires-clause-room : goal.push-requires-clause-room
push-requires-clause-room c =
    let r = sunk_room c.loop-number.invariant.sunk c.requires.sinks _ (rw c.in-Parted.is at c.look.ensures) in
    omega (arith, r, length_top c.loop-number.stack.frames c.loop-number.stack.depth)

pub loop-number-smaller : goal.loop-number-smaller
loop-number-smaller c = sunk_less c.loop-number.invariant.sunk c.requires.sinks _ (rw c.in-Parted.is at c.look.ensures) _ c.push.ensures.more

pub loop-number-preserved : goal.loop-number-preserved
loop-number-preserved c =
    record {
      sunk = sunk_push c.loop-number.invariant.sunk c.requires.sinks _ (rw c.in-Parted.is at c.look.ensures) _ c.push.ensures.more;
      size = c.push.ensures.size;
    }
