-- The stand tasks P and Q of document 01, for each bound, and a row of their table.
use Rattle.std.specs.Prelude.{ℕ, ◌≡◌, List, [], ◌∷◌}
use Rattle.planning.specs.Model.{Fact, Task, cost, utility}
use Rattle.planning.specs.Ceiling.{ceiling}
use Rattle.planning.specs.Best.{Best}
use Rattle.planning.specs.Pairs.{by_pairs}
use Rattle.planning.specs.Exhaustive.{best}

unfoldable pub fact : ℕ → ℕ → Fact
fact v x = record { var = v; val = x }

-- two variables p, q of two values, both starting at 0
unfoldable pub P : ℕ → Task
P b = record {
  sizes = 2 ∷ 2 ∷ [];
  start = 0 ∷ 0 ∷ [];
  operators =
      record { cost = 1; pre = fact 0 0 ∷ fact 1 0 ∷ []; eff = fact 1 1 ∷ [] }
      ∷ record { cost = 1; pre = fact 0 0 ∷ fact 1 0 ∷ []; eff = fact 0 1 ∷ [] }
      ∷ record { cost = 1; pre = fact 0 1 ∷ fact 1 0 ∷ []; eff = fact 1 1 ∷ [] }
      ∷ [];
  terms = record { weight = 2; facts = fact 0 1 ∷ [] } ∷ record { weight = 1; facts = fact 0 1 ∷ fact 1 1 ∷ [] } ∷ [];
  bound = b;
}

-- one variable of three values, starting at 0
unfoldable pub Q : ℕ → Task
Q b = record {
  sizes = 3 ∷ [];
  start = 0 ∷ [];
  operators =
      record { cost = 5; pre = fact 0 0 ∷ []; eff = fact 0 2 ∷ [] }
      ∷ record { cost = 2; pre = fact 0 0 ∷ []; eff = fact 0 1 ∷ [] }
      ∷ record { cost = 2; pre = fact 0 1 ∷ []; eff = fact 0 2 ∷ [] }
      ∷ record { cost = 4; pre = fact 0 0 ∷ []; eff = fact 0 2 ∷ [] }
      ∷ [];
  terms = record { weight = 7; facts = fact 0 2 ∷ [] } ∷ [];
  bound = b;
}

-- a row of the table of plans: the best plan p, its utility u of the ceiling, and its cost c; trying every sequence, with numbers of pairs
-- for costs, finds it
pub record PlanRow (t : Task) (p : List ℕ) (u top c : ℕ) : Type 0 where
  pub plan : Best t p
  pub found : best (by_pairs t) ≡ p
  pub utility : utility t p ≡ u
  pub most : ceiling t ≡ top
  pub costs : cost t p ≡ c
