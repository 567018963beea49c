-- What an accepted file is known to be (proofs/Acceptance.antt proves it).
use Rattle.std.specs.Prelude.{ℕ, suc, ◌≤◌, ◌<◌, ◌≡◌, List, length}
use Rattle.planning.specs.Coding.{bits}
use Rattle.task.specs.Limits.{operator_bytes, most_variables, most_operators, most_terms, most_bound, least_values, most_values, most_cost, operator_places, term_places, most_bits}
use Rattle.task.specs.Format.{variables, operators, terms, bound, operator_record, term_record, size, start_value, cost, precondition_count, preconditions, effect_count, effects, term_count, term_facts, fact_variable, fact_value}
use Rattle.task.specs.Decode.{sizes}

pub record RightVariable (f : List ℕ) (v : ℕ) : Type 0 where
  pub least : least_values ≤ size f v
  pub most : size f v ≤ most_values
  pub start : start_value f v < size f v

-- used fact k of a row
pub record RightFact (f fs : List ℕ) (k : ℕ) : Type 0 where
  pub names : fact_variable fs k < variables f
  pub has : fact_value fs k < size f (fact_variable fs k)

-- the used facts of a row
pub record RightRow (f fs : List ℕ) (used : ℕ) : Type 0 where
  pub facts : (k : ℕ) → k < used → RightFact f fs k
  pub rise : (k : ℕ) → suc k < used → fact_variable fs k < fact_variable fs (suc k)

-- r is an operator's record
pub record RightOperator (f r : List ℕ) : Type 0 where
  pub long : length r ≡ operator_bytes
  pub dearest : cost r ≤ most_cost
  pub few_preconditions : precondition_count r ≤ operator_places
  pub few_effects : effect_count r ≤ operator_places
  pub preconditions : RightRow f (preconditions r) (precondition_count r)
  pub effects : RightRow f (effects r) (effect_count r)

-- r is a term's record
pub record RightTerm (f r : List ℕ) : Type 0 where
  pub few_facts : term_count r ≤ term_places
  pub facts : RightRow f (term_facts r) (term_count r)

pub record Sound (f : List ℕ) : Type 0 where
  pub some_variable : 1 ≤ variables f
  pub few_variables : variables f ≤ most_variables
  pub few_operators : operators f ≤ most_operators
  pub few_terms : terms f ≤ most_terms
  pub low_bound : bound f ≤ most_bound
  pub few_bits : bits (sizes f) ≤ most_bits
  pub variable : (v : ℕ) → v < variables f → RightVariable f v
  pub operator : (o : ℕ) → o < operators f → RightOperator f (operator_record f o)
  pub term : (t : ℕ) → t < terms f → RightTerm f (term_record f t)

-- the row's used facts are facts of the file, and its states' bits fit
pub record Fits (f row : List ℕ) (used : ℕ) : Type 0 where
  pub few_bits : bits (sizes f) ≤ most_bits
  pub right : RightRow f row used
  pub few : used < 256
