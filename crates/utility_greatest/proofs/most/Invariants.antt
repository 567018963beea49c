use Rattle.std.proofs.Common.{◌≡◌, length}
use Rattle.diagram_loops.specs.Stacks.{waiting}
use Rattle.utility_greatest.specs.Walking.{down_left, number, Ready, Down}
use Rattle.utility_greatest.proofs.most.Given as goal

abbrev pub invariant-loop-number : goal.invariant-loop-number
invariant-loop-number l =
    record {
      down : Down l.walk (number l.walk l.a l.u) (waiting l.stack) l.x l.y;
      ready : Ready l.walk l.memo;
      size : length l.stack.frames ≡ 64;
    }

abbrev pub decreases-loop-number : goal.decreases-loop-number
decreases-loop-number l = down_left (waiting l.stack) l.x l.y
