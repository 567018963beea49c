-- The stages of the utility diagram of a file's task by their numbers, and what building the diagram says.
use Rattle.std.specs.Prelude.{ℕ, zero, suc, ◌+◌, ◌*◌, ◌≤◌, ◌<◌, ◌≡◌, Bool, true, false, List, [], ◌∷◌, ltb, length}
use Rattle.planning.specs.Model.{Task}
use Rattle.planning.specs.Coding.{bits}
use Rattle.task.specs.Format.{terms}
use Rattle.task.specs.Decode.{sizes, term_in}
use Rattle.task.specs.Check.{accepted}
use Rattle.diagrams.specs.Tree.{Tree, value_end, diagram, grow_all}
use Rattle.diagrams.specs.Store.{Table, blank, entries, tree, Store, Rest, Makes}
use Rattle.diagrams.specs.Memo.{Memo}
use Rattle.std.specs.Prelude.{Result, is_err}
use Rattle.diagrams.specs.declared.Full.{Full}
use Rattle.diagrams.specs.Store.{name_of}
use Rattle.utility.specs.Stages.{plus_term, stages, entry_count, utility_tree}

-- the utility of a list of bits by the first t terms
unfoldable pub sum_to : List ℕ → ℕ → List Bool → ℕ
sum_to f zero σ = 0
sum_to f (suc t) σ = plus_term (sizes f) (term_in f t) (sum_to f t) σ

-- the stage with the first t terms added
unfoldable pub stage : List ℕ → ℕ → Tree
stage f t = diagram value_end (bits (sizes f)) 0 (sum_to f t)

-- the n stages after that with the first t terms
unfoldable pub stages_after : List ℕ → ℕ → ℕ → List Tree
stages_after f zero t = []
stages_after f (suc n) t = stage f (suc t) ∷ stages_after f n (suc t)

-- the file is accepted, the name a stands for the stage with the first t terms, and sums of their weights fit the node lists; the memo remembers nothing that lasts
pub record Ready (f : List ℕ) (s : Table) (memo : List ℕ) (a t : ℕ) : Type 0 where
  pub right : accepted f ≡ true
  pub store : Store s
  pub slots : Memo blank memo
  pub below : a < s.count + 2
  pub means : tree s a ≡ stage f t
  pub last : t ≤ terms f
  pub sums : (σ : List Bool) → sum_to f t σ ≤ 65535 * t

-- the next stage is made, and the memo remembers nothing that lasts; the term's weight has two bytes
pub record AddsTerm (f : List ℕ) (s s' : Table) (memo' : List ℕ) (r : Result ℕ Full) (t : ℕ) : Type 0 where
  pub makes : Makes s s' r (stage f (suc t))
  pub keeps : is_err r ≡ false → Memo blank memo'
  pub light : (term_in f t).weight < 65536

-- the lists hold the different nodes of all stages, later entries stay, and the name stands for the utility diagram
pub record Built (s s' : Table) (name : ℕ) (t : Task) : Type 0 where
  pub store : Store s'
  pub grown : entries s' ≡ grow_all [] (stages t)
  pub counted : s'.count ≡ entry_count t
  pub rest : Rest s s'
  pub within : name < s'.count + 2
  pub means : tree s' name ≡ utility_tree t

-- full exactly where the entry count is above the length of the lists
pub record Builds (s s' : Table) (r : Result ℕ Full) (t : Task) : Type 0 where
  pub full : is_err r ≡ ltb (length s.bit) (entry_count t)
  pub done : is_err r ≡ false → Built s s' (name_of r) t
