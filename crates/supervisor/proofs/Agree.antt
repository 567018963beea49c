-- Where both engines accept, they hand over the same utility, cost and plan: the best plan's. Assumes nothing.
use Prim.Native.Nat.{ℕ}
use mathlib.Core.Path.{◌≡◌, refl, sym, ap, ◌∙◌}
use mathlib.Core.List.{List, ◌++◌}
use lib.ListN.{length, drop}
use Rattle.planning.specs.Model.{cost, utility}
use Rattle.planning.proofs.Theorems.{best_unique}
use Rattle.task.specs.Decode.{task_of}
use Rattle.search_answer.specs.declared.Listing.{Listing}
use Rattle.std.proofs.Common.{Ok}
use Rattle.search_answer.specs.Lent.{Lent}
use Rattle.search.specs.Leaves.{Searches}
use Rattle.search.proofs.Demands.{search_best}
use Rattle.states_answer.specs.declared.Summary.{Summary}
use Rattle.states_answer.specs.Lent.{Lent as StateLists}
use Rattle.states.specs.Leaves.{Enumerates}
use Rattle.states.proofs.Demands.{states_best}

-- both answers are of one plan, with which both plan lists begin
pub record Agree (l : Listing) (m : Summary) (before after : Lent) (before' after' : StateLists) : Type 0 where
  pub utility : l.utility ≡ m.utility
  pub cost : l.cost ≡ m.cost
  pub steps : l.steps ≡ m.steps
  pub plan : List ℕ
  pub search_plan : after.plan ≡ plan ++ drop (length plan) before.plan
  pub states_plan : after'.plan ≡ plan ++ drop (length plan) before'.plan

-- a plan of so many steps is the same plan
begins : (p q : List ℕ) (n : ℕ) (before after : List ℕ) → n ≡ length p → p ≡ q → after ≡ p ++ drop n before → after ≡ q ++ drop (length q) before
begins p q n before after e d h = h ∙ rw (e, d)

pub engines_agree : (f : List ℕ) (before after : Lent) (l : Listing) (before' after' : StateLists) (m : Summary)
    → Searches f before after (Ok l) → Enumerates f before' after' (Ok m) → Agree l m before after before' after'
engines_agree f before after l before' after' m s e =
    let a = search_best f before after l s in
    let b = states_best f before' after' m e in
    let same = best_unique (task_of f) a.plan b.plan a.best b.best in
    record {
      utility = a.utility ∙ ap (utility (task_of f)) same ∙ sym b.utility;
      cost = a.cost ∙ ap (cost (task_of f)) same ∙ sym b.cost;
      steps = a.steps ∙ ap length same ∙ sym b.steps;
      plan = b.plan;
      search_plan = begins a.plan b.plan l.steps before.plan after.plan a.steps same a.first;
      states_plan = begins b.plan b.plan m.steps before'.plan after'.plan b.steps refl b.first;
    }
