-- Document 01's number and values for each answer of the walk.
use Rattle.std.specs.Prelude.{ℕ, Result, Ok, Err}
use Rattle.refusal.specs.declared.Refusal.{Refusal}
use Rattle.refusal.specs.Refusals.{number, place}
use Rattle.walk.specs.declared.Reached.{Reached}

-- a refusal's number and value, then 0; on success 0, the cost and the utility
abbrev pub numbers : Result Reached Refusal → ℕ × ℕ × ℕ
numbers (Ok end) = (0, end.cost, end.utility)
numbers (Err refusal) = (number refusal, place refusal, 0)
