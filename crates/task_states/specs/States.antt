-- What the facts and the terms of a file are in a state.
use Rattle.std.specs.Prelude.{ℕ, Bool, List, eqb}
use Rattle.planning.specs.Connectives.{pick}
use Rattle.planning.specs.Model.{value_of, holds}
use Rattle.task.specs.Format.{fact_variable, fact_value}
use Rattle.task.specs.Decode.{term_in}

-- fact k of a row holds
unfoldable pub met : List ℕ → List ℕ → ℕ → Bool
met s fs k = eqb (value_of s (fact_variable fs k)) (fact_value fs k)

-- what term t of a file adds to the utility
unfoldable pub gain : List ℕ → List ℕ → ℕ → ℕ
gain f s t = pick (holds s (term_in f t).facts) (term_in f t).weight 0
