use Prim.Native.Nat.{◌<◌}
use Rattle.task.specs.Decode.{task_of}
use Rattle.walk.specs.Walk.{walk_from, steps}
use Rattle.walk.proofs.Steps.{WalkAt}
use Rattle.walk.proofs.follow.Given as goal

abbrev pub invariant-loop-at : goal.invariant-loop-at
invariant-loop-at l =
    WalkAt l.file l.plan (walk_from (task_of l.file) 0 l.initial.state 0 (steps l.plan)) l.state l.cost l.at × (l.cost < 65536)
