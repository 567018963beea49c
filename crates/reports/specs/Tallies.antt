-- The answer of the engine that lists states as C gets it: the documents' number and value, and the figures.
use Rattle.std.specs.Prelude.{ℕ, Result}
use Rattle.states_answer.specs.declared.Summary.{Summary}
use Rattle.refusal.specs.declared.Refusal.{Refusal}
use Rattle.states_answer.specs.Answers.{numbers, figures}
use Rattle.shift_time.specs.Time.{time_of}
use Rattle.reports.specs.declared.Tally.{Tally}

-- a number, a value, and the figures with their time
abbrev pub tally_with : ℕ → ℕ → Summary → Tally
tally_with number value m = record {
  number = number;
  value = value;
  utility = m.utility;
  cost = m.cost;
  bound = m.bound;
  minutes = (time_of m.cost m.bound).minutes;
  units = (time_of m.cost m.bound).units;
  unused = (time_of m.cost m.bound).unused;
  states = m.states;
  steps = m.steps;
}

-- the number and value of an answer, and its figures, all 0 after a refusal
abbrev pub tally_of : Result Summary Refusal → Tally
tally_of r = tally_with (numbers r).0 (numbers r).1 (figures r)
