-- A name of lists that stands for the utility diagram of a task.
use Rattle.std.specs.Prelude.{ℕ, ◌+◌, ◌<◌, ◌≡◌}
use Rattle.diagrams.specs.Store.{Table, tree, Store}
use Rattle.planning.specs.Model.{Task}
use Rattle.utility.specs.Stages.{utility_tree}

-- the name `root` of the lists x is that of the task's utility diagram
pub record Valued (t : Task) (x : Table) (root : ℕ) : Type 0 where
  pub values : Store x
  pub below : root < x.count + 2
  pub means : tree x root ≡ utility_tree t
