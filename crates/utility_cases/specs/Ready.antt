-- Lists that an operation on sets can go on with, and a name of the utility diagram.
use Rattle.std.specs.Prelude.{ℕ, ◌+◌, ◌≤◌, ◌<◌, ◌≡◌, List, length}
use Rattle.diagrams.specs.Store.{Table, Store, view_table}
use Rattle.diagrams.specs.Memo.{Memo}
use Rattle.diagrams.specs.declared.Nodes.{Nodes}
use Rattle.utility.specs.declared.Utility.{Utility}

-- the lists are a store, the name is one of its sets, and the memo is right
pub record Ready (s : Table) (memo : List ℕ) (name : ℕ) : Type 0 where
  pub store : Store s
  pub within : name < s.count + 2
  pub right : Memo s memo

-- the lists are of one length, as a store's may be
pub record EvenLists (n : Nodes) : Type 0 where
  pub low_length : length n.low.now ≡ length n.bit.now
  pub high_length : length n.high.now ≡ length n.bit.now
  pub short : length n.bit.now ≤ 1048576

-- the lists of the utility diagram are a store that has its name
pub record Named (u : Utility) : Type 0 where
  pub values : Store (view_table u.nodes)
  pub below : u.root < u.nodes.count + 2
