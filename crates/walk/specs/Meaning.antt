-- What a walk's answer means in the model (proofs/Meaning.antt proves it).
use Rattle.std.specs.Prelude.{ℕ, ◌+◌, ◌≤◌, ◌<◌, ◌≡◌, true, List, length, get_or, take, leb, ltb}
use Rattle.std.proofs.Math.Option.{Option, none, some}
use Rattle.planning.specs.Connectives.{pick}
use Rattle.planning.specs.Model.{Task, holds, operator_at, applicable, end, cost, utility}
use Rattle.refusal.specs.declared.Fault.{Fault}
use Rattle.refusal.specs.declared.Fault.TheVariants.{Operator, Precondition, Bound}

-- the fault of operator number o in the state s after the cost c, if it has one: no such operator, a precondition unmet, the cost so far
-- above the bound
unfoldable pub fault_of : Task → List ℕ → ℕ → ℕ → Option Fault
fault_of t s c o =
    pick (ltb o (length t.operators))
    (pick (holds s (operator_at t.operators o).pre)
    (pick (leb (c + (operator_at t.operators o).cost) t.bound) none (some Bound))
    (some Precondition))
    (some Operator)

-- the sequence is applicable and within the bound, and has this cost and this utility
pub record Succeeds (t : Task) (p : List ℕ) (c u : ℕ) : Type 0 where
  pub applies : applicable t t.start p ≡ true
  pub within : cost t p ≤ t.bound
  pub costs : c ≡ cost t p
  pub utility_is : u ≡ utility t p

-- the steps before step i are applicable and within the bound, and step i has the fault
pub record Fails (t : Task) (p : List ℕ) (i : ℕ) (fault : Fault) : Type 0 where
  pub below : i < length p
  pub applies : applicable t t.start (take i p) ≡ true
  pub within : cost t (take i p) ≤ t.bound
  pub faulty : fault_of t (end t t.start (take i p)) (cost t (take i p)) (get_or p i 0) ≡ some fault
