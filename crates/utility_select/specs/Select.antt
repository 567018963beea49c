-- What the memo of the walk for the states of a value holds.
use Rattle.std.specs.Prelude.{ℕ, ◌+◌, ◌<◌, ◌≡◌}
use Rattle.diagrams.specs.Store.{Table, tree}
use Rattle.utility.specs.Within.{select_t}

-- r names the states of the set named a at which the diagram named d has the value v
pub record Selected (x : Table) (v : ℕ) (s : Table) (a d r : ℕ) : Type 0 where
  pub a_below : a < s.count + 2
  pub r_below : r < s.count + 2
  pub means : tree s r ≡ select_t v (tree s a) (tree x d)
