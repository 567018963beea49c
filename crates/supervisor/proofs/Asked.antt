-- Search, then question: after a search that found a plan, the question over the lists that it left answers the place of a state, its least
-- cost and the fewest steps at that cost, or "not reached" exactly if it has none among the pairs that the search makes. Assumes nothing.
use Prim.Native.Nat.{ℕ}
use mathlib.Core.Path.{◌≡◌, ap, subst}
use mathlib.Core.Bool.{true, false}
use mathlib.Core.List.{List}
use mathlib.Core.Logic.{◌↔◌}
use native.Mathlib.Omega.{arith}
use lib.ListN.{length}
use Rattle.planning.specs.Best.{Place}
use Rattle.planning.specs.Ceiling.{Due}
use Rattle.task.specs.Decode.{task_of}
use Rattle.lent_lists.specs.Lists.{lists_wrong, pairs_wrong}
use Rattle.lent_lists.proofs.Passing.{or_neither}
use Rattle.search_answer.specs.declared.Listing.{Listing}
use Rattle.std.proofs.Common.{Ok, None}
use Rattle.search_answer.specs.Lent.{Lent}
use Rattle.search_answer.specs.Search.{listing_of, any_wrong}
use Rattle.search.specs.Leaves.{Searches}
use Rattle.search.proofs.Demands.{PassedTests, passed, search_count}
use Rattle.search_theory.specs.Stop.{pair_task}
use Rattle.search_theory.specs.Made.{node_count}
use Rattle.question.specs.Answers.{Answered, reached}
use Rattle.question.specs.Question.{state_right, question_of}
use Rattle.question.specs.Meaning.{NamesPairs, Tells}
use Rattle.question.proofs.Theorem.{question_tells, question_reached, question_not_reached}

module _ (f : List ℕ) (before after : Lent) (l : Listing) (s : Searches f before after (Ok l)) where
  abbrev p : PassedTests f before l
  p = passed f before l s.answers

  counted : l.nodes ≡ node_count (pair_task (task_of f))
  unfolding listing_of
  counted = ap (λ (x : Listing). x.nodes) p.listing

  pair_lists_lem : pairs_wrong (length before.costs) (length before.steps) (length before.sets) (length before.wanted) ≡ false
  unfolding any_wrong
  pair_lists_lem = (or_neither _ _ p.permitted).0

  node_lists : lists_wrong (length before.bit) (length before.low) (length before.high) ≡ false
  unfolding any_wrong
  node_lists = (or_neither _ _ (or_neither _ _ p.permitted).1).0

  -- the lists that a search leaves pass the question's tests, and hold the pairs
  pub leaves_pairs : NamesPairs (task_of f) after.costs after.steps after.sets after.wanted after.bit after.low after.high l.nodes l.pairs
  leaves_pairs =
      let n = s.leaves.lengths in
      let w = s.leaves.pairs_written in
      let count = search_count f before after l s in
      record {
        equal = rw (n.costs, n.steps, n.sets, n.wanted) pair_lists_lem;
        right = rw (n.bit, n.low, n.high) node_lists;
        passes = rw (counted, count) s.leaves.passes;
        number = count;
        cost = λ i lt. w.costs i (omega (arith, count));
        step = λ i lt. w.steps i (omega (arith, count));
        names = λ i lt. rw counted (w.sets i (omega (arith, count)));
      }

  module _ (state : List ℕ) (right : state_right (task_of f).sizes state ≡ true) where
    -- the answer of the question about the state, over these lists
    abbrev pub asked : Answered
    asked = question_of f state after.costs after.steps after.sets after.wanted after.bit after.low after.high l.nodes l.pairs

    tells : Tells (task_of f) state asked
    unfolding task_of
    tells = question_tells f p.sound after.costs after.steps after.sets after.wanted after.bit after.low after.high l.nodes l.pairs leaves_pairs state right

    -- it is a cost and steps exactly if these are the state's place, and the search makes that pair
    pub search_then_question : (c k : ℕ) → (asked ≡ Ok (reached c k)) ↔ (Place (task_of f) state c k × Due (task_of f) c k)
    unfolding task_of
    search_then_question c k = (
      λ e. subst (Tells (task_of f) state) e tells,
      λ h. question_reached f p.sound after.costs after.steps after.sets after.wanted after.bit after.low after.high l.nodes l.pairs leaves_pairs state right c k h.0 h.1,
    )

    -- and "not reached" exactly if the state's place is no such pair
    pub search_then_not_reached : (asked ≡ Ok None) ↔ ((c k : ℕ) → Place (task_of f) state c k → Due (task_of f) c k → ⊥)
    unfolding task_of
    search_then_not_reached = (
      λ e. subst (Tells (task_of f) state) e tells,
      λ none. question_not_reached f p.sound after.costs after.steps after.sets after.wanted after.bit after.low after.high l.nodes l.pairs leaves_pairs state right none,
    )
