-- The utility of a state that is a word, from a table of the terms: for each term its weight, and care and value of its facts.
use Rattle.std.specs.Prelude.{ℕ, zero, suc, ◌+◌, ◌≤◌, ◌<◌, ◌≡◌, List, length, get_or}
use Rattle.planning.specs.Connectives.{pick}
use Rattle.planning.specs.Coding.{care_word, value_word, facts_lits}
use Rattle.states_moves.specs.Words.{meets}
use Rattle.task.specs.Format.{terms}
use Rattle.task.specs.Decode.{term_in, sizes}
use Rattle.states_worth.specs.declared.Top.{Top}
use Rattle.states_worth.specs.declared.Weighted.{Weighted}

-- a term that is worth nothing, which stands where a table has none
abbrev pub nothing : Weighted
nothing = record { weight = 0; facts = record { care = 0; value = 0 } }

module _ (table : List Weighted) (j : ℕ) where
  unfoldable pub weight_at : ℕ
  weight_at = (get_or table j nothing).weight

  unfoldable pub care_at : ℕ
  care_at = (get_or table j nothing).facts.care

  unfoldable pub value_at : ℕ
  value_at = (get_or table j nothing).facts.value

-- what term j is worth in s
unfoldable pub gain_at : List Weighted → ℕ → ℕ → ℕ
gain_at table j s = pick (meets (care_at table j) (value_at table j) s) (weight_at table j) 0

-- the sum of the weights of the first n terms whose facts all hold in s
unfoldable pub worth_of : List Weighted → ℕ → ℕ → ℕ
worth_of table zero s = 0
worth_of table (suc n) s = worth_of table n s + gain_at table n s

-- the table has n terms, and their weights are numbers of two bytes
pub record Weighed (table : List Weighted) (n : ℕ) : Type 0 where
  pub long : n ≤ length table
  pub few : n ≤ 256
  pub small : (j : ℕ) → j < n → weight_at table j < 65536

-- w is term j of the file
pub record IsTerm (file : List ℕ) (w : Weighted) (j : ℕ) : Type 0 where
  pub weight : w.weight ≡ (term_in file j).weight
  pub small : w.weight < 65536
  pub care : w.facts.care ≡ care_word (facts_lits (sizes file) (term_in file j).facts)
  pub value : w.facts.value ≡ value_word (facts_lits (sizes file) (term_in file j).facts)

-- there is a row for each term of the file
pub record TermsTabled (file : List ℕ) (table : List Weighted) : Type 0 where
  pub long : terms file ≤ length table
  pub row : (j : ℕ) → j < terms file → IsTerm file (get_or table j nothing) j

-- the greatest utility of the first `count` states, and the first state that has it
pub record Greatest (table : List Weighted) (n : ℕ) (states : List ℕ) (count : ℕ) (r : Top) : Type 0 where
  pub below : r.at < count
  pub attains : worth_of table n (get_or states r.at 0) ≡ r.utility
  pub most : (i : ℕ) → i < count → worth_of table n (get_or states i 0) ≤ r.utility
  pub first : (i : ℕ) → i < r.at → worth_of table n (get_or states i 0) < r.utility
