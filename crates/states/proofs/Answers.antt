-- The refusals before the list is made, and the answer that the list gives after them. Assumes nothing.
use Prim.Native.Nat.{ℕ}
use mathlib.Core.Path.{◌≡◌, refl, sym, ◌∙◌}
use mathlib.Core.Bool.{true, false}
use mathlib.Core.List.{List}
use lib.ListN.{length}
use Rattle.planning.specs.Connectives.{pick}
use Rattle.task.specs.Check.{accepted}
use Rattle.task.specs.Decode.{task_of}
use Rattle.lent_lists.specs.Lists.{lists_wrong}
use Rattle.lent_lists.proofs.Passing.{equal_lengths}
use Rattle.std.proofs.Common.{Result, Err}
use Rattle.refusal.specs.declared.Refusal.{Refusal}
use Rattle.refusal.specs.declared.Refusal.TheVariants.{ListLengths}
use Rattle.refusal.specs.Refusals.{number}
use Rattle.task_check.specs.Answers.{refusal_of}
use Rattle.states_answer.specs.declared.Summary.{Summary}
use Rattle.states_answer.specs.Lent.{Lent}
use Rattle.states_answer.specs.States.{listed_of, states_of}
use Rattle.states.specs.Leaves.{Kept, Gives, Enumerates}
use Rattle.states.specs.Meaning.{Permitted}

-- nothing was touched
kept : (n : ℕ) (l : Lent) → Kept n l l
kept n l = record { everything = λ _. refl; plan = refl }

module _ (f : List ℕ) (l : Lent) where
  pub refused_file : (x : Refusal) → (x ≡ refusal_of f) × (accepted f ≡ false) → Enumerates f l l (Err x)
  unfolding states_of pick
  refused_file x told = record { answers = rw (told.1, told.0); leaves = kept (number x) l }

  module _ (a : accepted f ≡ true) where
    pub refused_12 : lists_wrong (length l.states) (length l.costs) (length l.steps) ≡ true → Enumerates f l l (Err ListLengths)
    unfolding states_of pick
    refused_12 e = record { answers = rw (a, e); leaves = kept 12 l }

    module _ (right : lists_wrong (length l.states) (length l.costs) (length l.steps) ≡ false) where
      pub enumerated : (after : Lent) (r : Result Summary Refusal) → Gives (task_of f) (listed_of (task_of f) l) l after r → Enumerates f l after r
      unfolding states_of pick
      enumerated after r g = record { answers = rw (a, right) g.answers; leaves = g.leaves }

      pub permitted : Permitted f l
      permitted =
          let n = equal_lengths (length l.states) (length l.costs) (length l.steps) right in
          record { sound = a; costs_long = sym n.0; steps_long = sym n.1 ∙ sym n.0; short = n.2 }
