-- Document 01's number and value for each answer of the file check, and the refusal of a file.
use Rattle.std.specs.Prelude.{ℕ, Bool, true, false, Result, Ok, Err, List}
use Rattle.refusal.specs.declared.Refusal.{Refusal}
use Rattle.refusal.specs.Refusals.{number, place, refusal_with}
use Rattle.task.specs.Check.{check_of}

abbrev pub answer : Result (Unit {0}) Refusal → ℕ × ℕ
answer (Ok _) = (0, 0)
answer (Err refusal) = (number refusal, place refusal)

abbrev pub passed : Result (Unit {0}) Refusal → Bool
passed (Ok _) = true
passed (Err refusal) = false

-- what the check refuses the file for, by its number and value (proofs/Laws.antt, refusal_told)
unfoldable pub refusal_of : List ℕ → Refusal
refusal_of f = refusal_with (check_of f).0 (check_of f).1
