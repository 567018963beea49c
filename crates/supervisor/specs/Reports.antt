-- What the search and the engine that lists states promise for C.
use Rattle.std.specs.Prelude.{◌≡◌, ℕ, List}
use Rattle.task.specs.Decode.{task_of}
use Rattle.search_answer.specs.Lent.{Lent}
use Rattle.search_answer.specs.Search.{search_of}
use Rattle.search.specs.Leaves.{Leaves}
use Rattle.states_answer.specs.Lent.{Lent as StateLists}
use Rattle.states_answer.specs.States.{states_of}
use Rattle.states.specs.Leaves.{Leaves as StatesLeave}
use Rattle.reports.specs.declared.Totals.{Totals}
use Rattle.reports.specs.declared.Tally.{Tally}
use Rattle.reports.specs.Totals.{totals_of}
use Rattle.reports.specs.Tallies.{tally_of}

-- the totals are those of the definition's answer, and the lists hold what it says
pub record Reports (f : List ℕ) (before after : Lent) (r : Totals) : Type 0 where
  pub answers : r ≡ totals_of (search_of f before)
  pub leaves : Leaves (task_of f) (search_of f before) before after

-- the same of the engine that lists states
pub record ReportsStates (f : List ℕ) (before after : StateLists) (r : Tally) : Type 0 where
  pub answers : r ≡ tally_of (states_of f before)
  pub leaves : StatesLeave (task_of f) (states_of f before) before after
