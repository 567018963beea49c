-- The walks along the diagrams of the pairs' sets: what keeps them inside the lists, and what they tell of a state given as a number.
use Rattle.std.specs.Prelude.{ℕ, ◌+◌, ◌≤◌, ◌<◌, Bool, List, length, get_or}
use Rattle.diagrams.specs.Tree.{Tree, named, den}
use Rattle.diagrams.specs.Walkable.{Walkable, bit_of}

-- the node entries can be walked, the lists have n pairs, and the first n names of the list of sets are names of sets
pub record PairSets (costs steps sets bit low high : List ℕ) (count n : ℕ) : Type 0 where
  pub walkable : Walkable bit low high count
  pub costs_room : n ≤ length costs
  pub steps_room : n ≤ length steps
  pub sets_room : n ≤ length sets
  pub names : (i : ℕ) → i < n → get_or sets i 0 < count + 2

-- the set of pair i holds the state whose bit k is worth 2 ^ k in w
unfoldable pub held_at : List ℕ → List Tree → ℕ → ℕ → Bool
held_at sets entries w i = den (named entries (get_or sets i 0)) (bit_of w)
