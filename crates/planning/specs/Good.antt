-- A task whose parts fit together, as the file check finds of a sound task.
use Rattle.std.specs.Prelude.{ℕ, ◌<◌, List, [], ◌∷◌, length}
use Rattle.planning.specs.Model.{Term, Task, operator_at}
use Rattle.planning.specs.Coding.{Valid, Facts}
use Rattle.planning.specs.ByCost.{PositiveCosts}

-- the facts of each term are used facts of the task
abbrev pub Terms : List ℕ → List Term → Type 0
Terms ds [] = Unit {0}
Terms ds (x ∷ xs) = Facts ds 0 x.facts × Terms ds xs

-- the starting state has a value of each variable; preconditions, effects and terms are used facts
pub record Good (t : Task) : Type 0 where
  pub start : Valid t.sizes t.start
  pub pres : (o : ℕ) → o < length t.operators → Facts t.sizes 0 (operator_at t.operators o).pre
  pub effs : (o : ℕ) → o < length t.operators → Facts t.sizes 0 (operator_at t.operators o).eff
  pub terms : Terms t.sizes t.terms

-- the same, and each operator costs at least 1
pub record GoodByCost (t : Task) : Type 0 where
  pub good : Good t
  pub costs : PositiveCosts t
