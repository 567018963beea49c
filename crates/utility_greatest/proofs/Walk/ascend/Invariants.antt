use Rattle.std.proofs.Common.{◌≡◌, length}
use Rattle.diagram_loops.specs.Stacks.{waiting}
use Rattle.utility_greatest.specs.Walking.{up_left, Ready}
use Rattle.utility_greatest.proofs.Walking.{Risen}
use Rattle.utility_greatest.proofs.Walk.ascend.Given as goal

abbrev pub invariant-loop-frame : goal.invariant-loop-frame
invariant-loop-frame l =
    record {
      risen : Risen l.self (waiting l.initial.stack) (waiting l.stack) l.initial.number l.number;
      ready : Ready l.self l.memo;
      size : length l.stack.frames ≡ 64;
    }

abbrev pub decreases-loop-frame : goal.decreases-loop-frame
decreases-loop-frame l = up_left (waiting l.stack)
