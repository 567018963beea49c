-- The documents' number and values for each answer of the engine that lists states.
use Rattle.std.specs.Prelude.{ℕ, Result, Ok, Err}
use Rattle.refusal.specs.Refusals.{number, place}
use Rattle.refusal.specs.declared.Refusal.{Refusal}
use Rattle.states_answer.specs.declared.Summary.{Summary}

-- a refusal's number and value; 0 and 0 for success
abbrev pub numbers : Result Summary Refusal → ℕ × ℕ
numbers (Err refusal) = (number refusal, place refusal)
numbers (Ok summary) = (0, 0)

abbrev pub no_figures : Summary
no_figures = record { utility = 0; cost = 0; bound = 0; states = 0; steps = 0 }

-- the figures, which success adds; all 0 after a refusal
abbrev pub figures : Result Summary Refusal → Summary
figures (Err refusal) = no_figures
figures (Ok summary) = summary
