use Rattle.std.proofs.Common.{◌≡◌, length}
use Rattle.diagram_loops.specs.Stacks.{waiting}
use Rattle.utility_greatest.specs.Walking.{down_left}
use Rattle.utility_greatest.proofs.Walking.{Sunk}
use Rattle.utility_greatest.proofs.Walk.descend.Given as goal

abbrev pub invariant-loop-number : goal.invariant-loop-number
invariant-loop-number l =
    record {
      sunk : Sunk l.self (waiting l.initial.stack) (waiting l.stack) l.initial.x l.x l.initial.y l.y;
      size : length l.stack.frames ≡ 64;
    }

abbrev pub decreases-loop-number : goal.decreases-loop-number
decreases-loop-number l = down_left (waiting l.stack) l.x l.y
