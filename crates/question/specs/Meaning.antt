-- What the question's answer is to say of a task, and of which lists it says so.
use Rattle.std.specs.Prelude.{ℕ, ◌<◌, ◌≡◌, true, false, List, length, get_or, Some, None, Ok, Err}
use Rattle.planning.specs.Model.{Task}
use Rattle.planning.specs.Coding.{bits}
use Rattle.planning.specs.Best.{Place}
use Rattle.planning.specs.Ceiling.{Due}
use Rattle.planning.specs.Pairs.{pair_cost, pair_steps}
use Rattle.lent_lists.specs.Lists.{lists_wrong, pairs_wrong, listed}
use Rattle.diagrams.specs.Tree.{named, trees}
use Rattle.search_theory.specs.Bits.{bit_task}
use Rattle.search_theory.specs.Levels.{level}
use Rattle.search_theory.specs.Stop.{pair_task}
use Rattle.search_theory.specs.Pairs.{pairs}
use Rattle.question.specs.Answers.{Answered}

-- the lists pass 12 and 21, and hold the cost, the steps and the name of the set of each of the task's n non-empty pairs that are made: so a
-- successful search leaves them
pub record NamesPairs (t : Task) (costs steps sets wanted bit low high : List ℕ) (count n : ℕ) : Type 0 where
  pub equal : pairs_wrong (length costs) (length steps) (length sets) (length wanted) ≡ false
  pub right : lists_wrong (length bit) (length low) (length high) ≡ false
  pub passes : listed (bits t.sizes) n sets bit low high count ≡ true
  pub number : n ≡ length (pairs t)
  pub cost : (i : ℕ) → i < n → get_or costs i 0 ≡ pair_cost t (get_or (pairs t) i 0)
  pub step : (i : ℕ) → i < n → get_or steps i 0 ≡ pair_steps t (get_or (pairs t) i 0)
  pub names : (i : ℕ) → i < n → named (trees bit low high count) (get_or sets i 0) ≡ level (bit_task (pair_task t)) (get_or (pairs t) i 0)

-- the answer is the place of the state s, its least cost and the fewest steps at that cost, if the search makes that pair, else "not
-- reached"
abbrev pub Tells : Task → List ℕ → Answered → Type 0
Tells t s (Err refusal) = ⊥
Tells t s (Ok (Some p)) = Place t s p.cost p.steps × Due t p.cost p.steps
Tells t s (Ok None) = (c k : ℕ) → Place t s c k → Due t c k → ⊥
