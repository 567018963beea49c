-- Sets of states that are made from the last bit up, in lists of an entry for each bit.
use Rattle.std.specs.Prelude.{ℕ, suc, ◌+◌, ◌≤◌, ◌<◌, ◌≡◌, Bool, cond, List, length, drop}
use Rattle.planning.specs.Coding.{bits, offset}
use Rattle.diagrams.specs.Tree.{Tree, none, mk_t, end_t, diagram, Canon, Under}
use Rattle.diagrams.specs.Store.{Table, tree, Store, Done}
use Rattle.task.specs.Limits.{most_bits}
use Rattle.utility_ceiling.specs.Permitted.{permitted}

-- the lists have an entry left for each bit before k
pub record Filled (s : Table) (k : ℕ) : Type 0 where
  pub store : Store s
  pub long : length s.bit ≡ most_bits
  pub room : s.count + k ≤ most_bits
  pub states : (n : ℕ) → Under 64 (tree s n)

-- the name stands for the lists of n bits, from bit k on, of which g holds
pub record Stands (s : Table) (name n k : ℕ) (g : List Bool → Bool) : Type 0 where
  pub within : name < s.count + 2
  pub means : tree s name ≡ diagram end_t n k g

-- two names of sets behind bit b
pub record Behind (s : Table) (b next tight : ℕ) : Type 0 where
  pub filled : Filled s (suc b)
  pub next_within : next < s.count + 2
  pub tight_within : tight < s.count + 2
  pub next_from : Canon (suc b) (tree s next)
  pub tight_from : Canon (suc b) (tree s tight)

-- bit b in front of a bound, where bit b of the bound is 1 or 0: `tight` is bounded by the bits behind, `next` is not
unfoldable pub bound_t : Bool → ℕ → Tree → Tree → Tree
bound_t one b next tight = cond one (mk_t b next tight) (mk_t b tight none)

-- the entries after are those before and the nodes of t, which begins at bit b
pub record Adds (s s' : Table) (name b : ℕ) (t : Tree) : Type 0 where
  pub filled : Filled s' b
  pub done : Done s s' name t

-- the name stands for the permitted values of the variables from v on, of these sizes
pub record From (ds : List ℕ) (s : Table) (name v : ℕ) : Type 0 where
  pub filled : Filled s (offset ds v)
  pub stands : Stands s name (bits (drop v ds)) (offset ds v) (permitted (drop v ds))
