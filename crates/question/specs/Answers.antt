-- The documents' number and values for each answer of the question.
use Rattle.std.specs.Prelude.{ℕ, Option, Some, None, Result, Ok, Err}
use Rattle.refusal.specs.Refusals.{number, place}
use Rattle.refusal.specs.declared.Refusal.{Refusal}
use Rattle.question.specs.declared.Place.{Place}

-- what the question answers: a place, or that the state is not reached
abbrev pub Answered : Type 0
Answered = Result (Option Place) Refusal

-- the state is reached at this cost and in so many steps
abbrev pub reached : ℕ → ℕ → Option Place
reached cost steps = Some (record { cost = cost; steps = steps })

-- a refusal's number and value, then three times 0; on success 0 and 0, then 1, cost and steps, or three times 0 where the state is not reached
abbrev pub numbers : Answered → ℕ × ℕ × ℕ × ℕ × ℕ
numbers (Err refusal) = (number refusal, place refusal, 0, 0, 0)
numbers (Ok (Some place)) = (0, 0, 1, place.cost, place.steps)
numbers (Ok None) = (0, 0, 0, 0, 0)
