-- The documents' number and values for each answer of the writer.
use Rattle.std.specs.Prelude.{ℕ, Result, Ok, Err}
use Rattle.refusal.specs.declared.Refusal.{Refusal}
use Rattle.refusal.specs.Refusals.{number, place}

-- a refusal's number and value, then 0; on success 0, the length that was written, and 0
abbrev pub numbers : Result ℕ Refusal → ℕ × ℕ × ℕ
numbers (Ok length) = (0, length, 0)
numbers (Err refusal) = (number refusal, place refusal, 0)
