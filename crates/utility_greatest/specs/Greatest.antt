-- What the walk for the greatest value within a set says, and what its memo holds.
use Rattle.std.specs.Prelude.{ℕ, ◌+◌, ◌<◌, ◌≡◌, List}
use Rattle.diagrams.specs.Store.{Table, tree}
use Rattle.diagrams.specs.Memo.{Memo, Stamped}
use Rattle.utility.specs.Within.{most_t}

-- r is the greatest value, and 1, that the diagram named d has within the set named a, a name of the table; 0 for the empty set
pub record MostOf (s x : Table) (a d r : ℕ) : Type 0 where
  pub below : a < s.count + 2
  pub is : r ≡ most_t (tree s a) (tree x d)

-- the answer r, and the memo while the operation with this stamp runs
pub record Most (s x : Table) (memo' : List ℕ) (stamp a d r : ℕ) : Type 0 where
  pub value : r ≡ most_t (tree s a) (tree x d)
  pub keeps : Stamped s memo' stamp (MostOf s x)

-- the answer r, and the memo after it
pub record Greatest (s x : Table) (memo' : List ℕ) (a d r : ℕ) : Type 0 where
  pub value : r ≡ most_t (tree s a) (tree x d)
  pub keeps : Memo s memo'
