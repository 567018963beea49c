use native.Mathlib.Omega.{arith}
use mathlib.Core.Path.{◌∙◌}
use Rattle.walk.proofs.Steps.{walk_start}
use Rattle.walk.proofs.walk_in.Goals as goal

pub start-requires : goal.start-requires
start-requires c =
    omega arith

pub returns : goal.returns
returns c =
    c.follow.ensures
    ∙ walk_start _ _ _ _ c.start.ensures c.requires.0
