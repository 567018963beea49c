-- The starred stand cases P and Q, computed from the definitions by pairs.
use Prim.Native.Nat.{ℕ}
use mathlib.Core.Path.{◌≡◌, refl}
use mathlib.Core.List.{List, [], ◌∷◌}
use lib.ListN.{length}
use Rattle.diagrams.specs.Tree.{den, same, mk_t, end_t, has, insert, grow, bit_at, member, diagram, grow_all}
use Rattle.planning.specs.Connectives.{◌and◌, pick}
use Rattle.planning.specs.Model.{Task, with_bound, value_of, holds, state_utility}
use Rattle.planning.specs.Ceiling.{greatest_below, greatest_over, ceiling}
use Rattle.planning.specs.Cases.{fact, P, Q}
use Rattle.planning.specs.Pairs.{stride, pair_cost, pair_steps, pair_operator, by_pairs}
use Rattle.planning.specs.Coding.{wide, width, bits, offset, bin, code, same_bit, fits, put, lits, fact_lits, facts_lits, same_bits, bits_of}
use Rattle.search_theory.specs.Sets.{set_of, is_empty, demand, forget, forgets, union, less, meet, moved}
use Rattle.search_theory.specs.Bits.{bit_operator_at, bit_operator, bit_task, bit_utility, reward}
use Rattle.search_theory.specs.Passes.{forgotten, moved_sets, pass_union, pass_sets, gather, gather_sets}
use Rattle.search_theory.specs.Levels.{level_pass, start_set, reached, forward, levels_to, closed, level}
use Rattle.search_theory.specs.Optimum.{larger, most, raise, optimum_to, best_utility, best_cost}
use Rattle.search_theory.specs.Stop.{stop_to, last_pair, pair_task}
use Rattle.search_theory.specs.Wanted.{of_utility, wanted_pass, target, leading, wants_from, want}
use Rattle.search_theory.specs.Made.{level_sets, forward_sets, want_sets, backward_sets, sets_made, node_count}
use Rattle.search_theory.specs.Pairs.{pair_at, pairs_to, pairs}
use Rattle.search_theory.specs.Plan.{scan, and_then, can_bits, next_bits, cost_bits, leads, plan_from, plan_left, plan_of}

-- what the documents say of a case, from the sets by pairs: plan, utility, cost, node count, number of pairs
pub record SetsRow (t : Task) (plan : List ℕ) (utility cost nodes count : ℕ) : Type 0 where
  pub plan_is : plan_of (pair_task t) ≡ plan
  pub utility_is : best_utility (pair_task t) ≡ utility
  pub cost_is : pair_cost t (best_cost (pair_task t)) ≡ cost
  pub nodes_are : node_count (pair_task t) ≡ nodes
  pub pairs_are : length (pairs t) ≡ count

-- task and bound; plan, utility, cost, nodes, pairs
rows :
    SetsRow (P 0) [] 0 0 2 1
    × SetsRow (P 1) (1 ∷ []) 2 1 8 2
    × SetsRow (P 2) (1 ∷ 2 ∷ []) 3 2 10 3
    × SetsRow (Q 3) [] 0 0 5 2
    × SetsRow (Q 4) (3 ∷ []) 7 4 8 3
    × SetsRow (Q 5) (3 ∷ []) 7 4 8 3
unfolding den same mk_t end_t has insert grow bit_at member diagram grow_all fact P Q ◌and◌ pick wide width bits offset bin code same_bit fits put lits fact_lits facts_lits set_of is_empty demand forget forgets union less meet bits_of moved bit_operator_at bit_operator bit_task bit_utility reward same_bits forgotten moved_sets pass_union pass_sets gather gather_sets level_pass start_set reached forward levels_to closed level larger most raise optimum_to best_utility best_cost of_utility wanted_pass target leading wants_from want level_sets forward_sets want_sets backward_sets sets_made node_count scan and_then can_bits next_bits cost_bits leads plan_from plan_left plan_of stride pair_cost pair_operator by_pairs with_bound value_of holds state_utility greatest_below greatest_over ceiling stop_to last_pair pair_task pair_at pairs_to pairs
rows = (
  record { plan_is = refl; utility_is = refl; cost_is = refl; nodes_are = refl; pairs_are = refl },
  record { plan_is = refl; utility_is = refl; cost_is = refl; nodes_are = refl; pairs_are = refl },
  record { plan_is = refl; utility_is = refl; cost_is = refl; nodes_are = refl; pairs_are = refl },
  record { plan_is = refl; utility_is = refl; cost_is = refl; nodes_are = refl; pairs_are = refl },
  record { plan_is = refl; utility_is = refl; cost_is = refl; nodes_are = refl; pairs_are = refl },
  record { plan_is = refl; utility_is = refl; cost_is = refl; nodes_are = refl; pairs_are = refl },
)

pub p_0 : SetsRow (P 0) [] 0 0 2 1
p_0 = rows.0

pub p_1 : SetsRow (P 1) (1 ∷ []) 2 1 8 2
p_1 = rows.1

pub p_2 : SetsRow (P 2) (1 ∷ 2 ∷ []) 3 2 10 3
p_2 = rows.2

pub q_3 : SetsRow (Q 3) [] 0 0 5 2
q_3 = rows.3

pub q_4 : SetsRow (Q 4) (3 ∷ []) 7 4 8 3
q_4 = rows.4

pub q_5 : SetsRow (Q 5) (3 ∷ []) 7 4 8 3
q_5 = rows.5

-- ---- where the search stops

-- one variable of three values, starting at the first, with a move of cost 1 from each to the next, and a weight for each value: only one of
-- the terms can hold
unfoldable pub R : ℕ → ℕ → ℕ → ℕ → Task
R x y z b = record {
  sizes = 3 ∷ [];
  start = 0 ∷ [];
  operators = record { cost = 1; pre = fact 0 0 ∷ []; eff = fact 0 1 ∷ [] } ∷ record { cost = 1; pre = fact 0 1 ∷ []; eff = fact 0 2 ∷ [] } ∷ [];
  terms = record { weight = x; facts = fact 0 0 ∷ [] } ∷ record { weight = y; facts = fact 0 1 ∷ [] } ∷ record { weight = z; facts = fact 0 2 ∷ [] } ∷ [];
  bound = b;
}

-- the ceiling, the cost and the steps of the last pair that is made, and the number of pairs that are not empty
pub record StopRow (t : Task) (top cost steps count : ℕ) : Type 0 where
  pub ceiling_is : ceiling t ≡ top
  pub last_cost : pair_cost t (last_pair t) ≡ cost
  pub last_steps : pair_steps t (last_pair t) ≡ steps
  pub pairs_are : length (pairs t) ≡ count

-- the ceiling is attained at the first pair, at one with pairs left, at one of two that attain it, at the last, and never: then the last pair is
-- the last of all within the bound, where there is nothing
pub stops : StopRow (R 5 3 2 2) 5 0 0 1 × StopRow (R 1 5 2 2) 5 1 1 2 × StopRow (R 1 5 5 2) 5 1 1 2 × StopRow (R 1 2 5 2) 5 2 2 3 × StopRow (R 1 2 5 1) 5 1 4 2 × StopRow (R 0 0 0 2) 0 0 0 1
unfolding den same mk_t end_t has insert grow bit_at member diagram grow_all fact R ◌and◌ pick wide width bits offset bin code same_bit fits put lits fact_lits facts_lits set_of is_empty demand forget forgets union less meet bits_of moved bit_operator_at bit_operator bit_task bit_utility reward same_bits forgotten moved_sets pass_union pass_sets gather gather_sets level_pass start_set reached forward levels_to closed level larger most raise optimum_to best_utility best_cost of_utility wanted_pass target leading wants_from want level_sets forward_sets want_sets backward_sets sets_made node_count scan and_then can_bits next_bits cost_bits leads plan_from plan_left plan_of stride pair_cost pair_steps pair_operator by_pairs with_bound value_of holds state_utility greatest_below greatest_over ceiling stop_to last_pair pair_task pair_at pairs_to pairs
stops = (
  record { ceiling_is = refl; last_cost = refl; last_steps = refl; pairs_are = refl },
  record { ceiling_is = refl; last_cost = refl; last_steps = refl; pairs_are = refl },
  record { ceiling_is = refl; last_cost = refl; last_steps = refl; pairs_are = refl },
  record { ceiling_is = refl; last_cost = refl; last_steps = refl; pairs_are = refl },
  record { ceiling_is = refl; last_cost = refl; last_steps = refl; pairs_are = refl },
  record { ceiling_is = refl; last_cost = refl; last_steps = refl; pairs_are = refl },
)
