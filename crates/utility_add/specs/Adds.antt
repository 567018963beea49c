-- What adding a weight at the states of a cube asks of a name, and what it makes.
use Rattle.std.specs.Prelude.{ℕ, ◌+◌, ◌-◌, ◌≤◌, ◌<◌, ◌≡◌, false, List}
use Rattle.diagrams.specs.Tree.{Tree, Canon, Under}
use Rattle.diagrams.specs.Store.{Table, blank, tree, Makes}
use Rattle.diagrams.specs.Memo.{Stamped}
use Rattle.std.specs.Prelude.{Result, is_err}
use Rattle.diagrams.specs.declared.Full.{Full}
use Rattle.utility_add.specs.Sums.{add_from}

-- the bits of the name's tree are k or more, the cube has bits of states only, and no sum is too large for the node lists
pub record Asks (s : Table) (k care w a : ℕ) : Type 0 where
  pub below : a < s.count + 2
  pub last : k ≤ 48
  pub small : care < 281474976710656
  pub order : Canon k (tree s a)
  pub room : Under (4294967296 - w) (tree s a)

-- r names the tree of a with w added at the states of the cube, which cares for the bit k next
pub record Added (s : Table) (care value w a k r : ℕ) : Type 0 where
  pub a_below : a < s.count + 2
  pub r_below : r < s.count + 2
  pub means : tree s r ≡ add_from care value w k (tree s a)

-- the tree t is made, and the memo holds results of this operation; it remembers none that lasts, since the table is none of state sets
pub record Adds (s s' : Table) (memo' : List ℕ) (stamp care value w : ℕ) (r : Result ℕ Full) (t : Tree) : Type 0 where
  pub makes : Makes s s' r t
  pub keeps : is_err r ≡ false → Stamped blank memo' stamp (Added s' care value w)
