-- The writer's answer, and what it leaves in the list that is lent for its output (document 02, Paper 2).
use Rattle.std.specs.Prelude.{ℕ, ◌+◌, List, ◌++◌, leb, length, take, drop, Result, Ok, Err}
use Rattle.planning.specs.Connectives.{pick}
use Rattle.refusal.specs.declared.Refusal.{Refusal}
use Rattle.refusal.specs.declared.Refusal.TheVariants.{OutputShort}
use Rattle.task.specs.Check.{accepted}
use Rattle.task_check.specs.Answers.{refusal_of}
use Rattle.writer.specs.Canonical.{written}

-- with room for so many bytes: 1 to 10, then 22
unfoldable pub write_of : List ℕ → ℕ → Result ℕ Refusal
write_of f room =
    pick (accepted f)
    (pick (leb (length (written f)) room) (Ok (length (written f))) (Err OutputShort))
    (Err (refusal_of f))

-- the list afterwards: on success it begins with the file and keeps the bytes past it, after a refusal it is as it was
unfoldable pub leaves : Result ℕ Refusal → List ℕ → List ℕ → List ℕ
leaves (Ok n) f out = written f ++ drop (length (written f)) out
leaves (Err refusal) f out = out

-- bytes put over a list's from a place on
unfoldable pub overlay : List ℕ → ℕ → List ℕ → List ℕ
overlay out at bytes = take at out ++ bytes ++ drop (at + length bytes) out
