-- The record lookup.
use Rattle.std.specs.Prelude.{ℕ, List, [], ltb}
use Rattle.planning.specs.Connectives.{pick}
use Rattle.task.specs.Format.{operators, operator_record}
use Rattle.task.specs.Check.{accepted}

-- the record of an operator as it is handed out: nothing for a refused file, or a number without a record
unfoldable pub operator_part : List ℕ → ℕ → List ℕ
operator_part f o = pick (accepted f) (pick (ltb o (operators f)) (operator_record f o) []) []
