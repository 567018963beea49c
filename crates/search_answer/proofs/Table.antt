-- The starred stand cases of the search: figures, and the refusals 14, 15 and 23 at lists one too short. Assumes nothing.
use Prim.Native.Nat.{ℕ}
use mathlib.Core.Path.{◌≡◌, refl}
use mathlib.Core.List.{[]}
use native.Mathlib.Omega.{arith}
use lib.ListN.{replicate}
use Rattle.planning.specs.Connectives.{◌and◌, pick}
use Rattle.planning.specs.Model.{value_of, holds, state_utility}
use Rattle.planning.specs.Ceiling.{greatest_below, greatest_over, ceiling}
use Rattle.planning.specs.Cases.{fact, P, Q}
use Rattle.search_theory.proofs.Table.{p_0, p_1, p_2, q_3, q_4, q_5}
use Rattle.utility.proofs.Cases.{entries_p, entries_q}
use Rattle.std.proofs.Common.{Result, Ok, Err}
use Rattle.refusal.specs.declared.Refusal.{Refusal}
use Rattle.refusal.specs.declared.Refusal.TheVariants.{NodesFull, PlanFull, PairsFull}
use Rattle.search_answer.specs.declared.Listing.{Listing}
use Rattle.search_answer.specs.Lent.{Lent, lent}
use Rattle.search_answer.specs.Search.{listing_of, sets_of, made_of}
use Rattle.search_answer.proofs.Refusals.{none_met, sets_14, sets_23}

-- lists of m pairs, n node entries, six utility entries and p steps
abbrev lists : ℕ → ℕ → ℕ → Lent
lists m n p =
    lent (replicate m 0) (replicate m 0) (replicate m 0) (replicate m 0) (replicate n 0) (replicate n 0) (replicate n 0) (replicate 6 0) (replicate 6 0) (replicate 6 0) [] [] [] (replicate p 0)

abbrev figures : ℕ → ℕ → ℕ → ℕ → ℕ → ℕ → ℕ → ℕ → Result Listing Refusal
figures u c g b n e m k = Ok (record { utility = u; ceiling = c; cost = g; bound = b; nodes = n; entries = e; pairs = m; steps = k })

ceiling_p : (b : ℕ) → ceiling (P b) ≡ 3
unfolding ◌and◌ pick value_of holds state_utility greatest_below greatest_over ceiling P fact
ceiling_p b = refl

bound_p : (b : ℕ) → (P b).bound ≡ b
unfolding P
bound_p b = refl

ceiling_q : (b : ℕ) → ceiling (Q b) ≡ 7
unfolding ◌and◌ pick value_of holds state_utility greatest_below greatest_over ceiling Q fact
ceiling_q b = refl

bound_q : (b : ℕ) → (Q b).bound ≡ b
unfolding Q
bound_q b = refl

pub p_with_0 : made_of (P 0) (lists 1 2 0) ≡ figures 0 3 0 0 2 6 1 0
unfolding made_of sets_of listing_of pick
p_with_0 =
    let none = none_met (P 0) (lists 1 2 0) (omega (arith, p_0.nodes_are)) (omega (arith, p_0.pairs_are)) in
    rw (entries_p 0, none, p_0.nodes_are, p_0.plan_is, p_0.utility_is, p_0.cost_is, p_0.pairs_are, ceiling_p 0, bound_p 0)

pub p_with_1 : made_of (P 1) (lists 2 8 1) ≡ figures 2 3 1 1 8 6 2 1
unfolding made_of sets_of listing_of pick
p_with_1 =
    let none = none_met (P 1) (lists 2 8 1) (omega (arith, p_1.nodes_are)) (omega (arith, p_1.pairs_are)) in
    rw (entries_p 1, none, p_1.nodes_are, p_1.plan_is, p_1.utility_is, p_1.cost_is, p_1.pairs_are, ceiling_p 1, bound_p 1)

pub p_with_2 : made_of (P 2) (lists 3 10 2) ≡ figures 3 3 2 2 10 6 3 2
unfolding made_of sets_of listing_of pick
p_with_2 =
    let none = none_met (P 2) (lists 3 10 2) (omega (arith, p_2.nodes_are)) (omega (arith, p_2.pairs_are)) in
    rw (entries_p 2, none, p_2.nodes_are, p_2.plan_is, p_2.utility_is, p_2.cost_is, p_2.pairs_are, ceiling_p 2, bound_p 2)

pub p_nodes_7 : made_of (P 1) (lists 2 7 1) ≡ Err NodesFull
unfolding made_of pick
p_nodes_7 = rw (entries_p 1) (sets_14 (P 1) (lists 2 7 1) (omega (arith, p_1.nodes_are)) (omega (arith, p_1.pairs_are)))

pub p_pairs_1 : made_of (P 1) (lists 1 8 1) ≡ Err PairsFull
unfolding made_of pick
p_pairs_1 = rw (entries_p 1) (sets_23 (P 1) (lists 1 8 1) (omega (arith, p_1.nodes_are)) (omega (arith, p_1.pairs_are)))

pub p_plan_0 : made_of (P 1) (lists 2 8 0) ≡ Err PlanFull
unfolding made_of sets_of pick
p_plan_0 =
    let none = none_met (P 1) (lists 2 8 0) (omega (arith, p_1.nodes_are)) (omega (arith, p_1.pairs_are)) in
    rw (entries_p 1, none, p_1.plan_is)

pub q_with_5 : made_of (Q 5) (lists 3 8 1) ≡ figures 7 7 4 5 8 4 3 1
unfolding made_of sets_of listing_of pick
q_with_5 =
    let none = none_met (Q 5) (lists 3 8 1) (omega (arith, q_5.nodes_are)) (omega (arith, q_5.pairs_are)) in
    rw (entries_q 5, none, q_5.nodes_are, q_5.plan_is, q_5.utility_is, q_5.cost_is, q_5.pairs_are, ceiling_q 5, bound_q 5)

pub q_with_4 : made_of (Q 4) (lists 3 8 1) ≡ figures 7 7 4 4 8 4 3 1
unfolding made_of sets_of listing_of pick
q_with_4 =
    let none = none_met (Q 4) (lists 3 8 1) (omega (arith, q_4.nodes_are)) (omega (arith, q_4.pairs_are)) in
    rw (entries_q 4, none, q_4.nodes_are, q_4.plan_is, q_4.utility_is, q_4.cost_is, q_4.pairs_are, ceiling_q 4, bound_q 4)

pub q_with_3 : made_of (Q 3) (lists 2 5 0) ≡ figures 0 7 0 3 5 4 2 0
unfolding made_of sets_of listing_of pick
q_with_3 =
    let none = none_met (Q 3) (lists 2 5 0) (omega (arith, q_3.nodes_are)) (omega (arith, q_3.pairs_are)) in
    rw (entries_q 3, none, q_3.nodes_are, q_3.plan_is, q_3.utility_is, q_3.cost_is, q_3.pairs_are, ceiling_q 3, bound_q 3)
