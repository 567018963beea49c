-- What a call gave, w, is the definition's answer, and so is what is reported of it.
use Prim.Native.Nat.{ℕ}
use mathlib.Core.Path.{◌≡◌, ap, subst, ◌∙◌}
use mathlib.Core.List.{List}
use Rattle.task.specs.Decode.{task_of}
use Rattle.search_answer.specs.Lent.{Lent}
use Rattle.search.specs.Leaves.{Leaves, Searches}
use Rattle.std.proofs.Common.{Result}
use Rattle.refusal.specs.declared.Refusal.{Refusal}
use Rattle.search_answer.specs.declared.Listing.{Listing}
use Rattle.states_answer.specs.declared.Summary.{Summary}
use Rattle.states_answer.specs.Lent.{Lent as StateLists}
use Rattle.states.specs.Leaves.{Enumerates}
use Rattle.states.specs.Leaves.{Leaves as StatesLeave}
use Rattle.reports.specs.Totals.{totals_of}
use Rattle.reports.specs.Tallies.{tally_of}
use Rattle.reports.specs.declared.Tally.{Tally}
use Rattle.supervisor.specs.Reports.{Reports, ReportsStates}
use Rattle.reports.specs.declared.Totals.{Totals}

pub search_is : (w : Result Listing Refusal) (f : List ℕ) (before after : Lent) (x : Totals) → Searches f before after w → x ≡ totals_of w → Reports f before after x
search_is w f before after x s r = record {
  answers = r ∙ ap totals_of s.answers;
  leaves = subst (λ (a : Result Listing Refusal). Leaves (task_of f) a before after) s.answers s.leaves;
}

pub states_is : (w : Result Summary Refusal) (f : List ℕ) (before after : StateLists) (x : Tally) → Enumerates f before after w → x ≡ tally_of w → ReportsStates f before after x
states_is w f before after x s r = record {
  answers = r ∙ ap tally_of s.answers;
  leaves = subst (λ (a : Result Summary Refusal). StatesLeave (task_of f) a before after) s.answers s.leaves;
}
