-- The stand cases of the engine that lists states: figures, and the refusals 24 and 15 at lists one too short. Assumes nothing.
use Prim.Native.Nat.{ℕ, ◌≤◌, ◌<◌}
use mathlib.Core.Path.{◌≡◌, refl}
use mathlib.Core.List.{List, [], ◌∷◌}
use native.Mathlib.Omega.{arith}
use borrow.Author.Tests.{lt-ltb, le-ltb}
use lib.ListN.{length, replicate}
use Rattle.planning.specs.Connectives.{◌and◌, ◌or◌, pick}
use Rattle.planning.specs.Model.{Task, value_of, holds, apply}
use Rattle.planning.specs.Coding.{wide, width, bits}
use Rattle.planning.specs.Scan.{tab}
use Rattle.planning.specs.Cases.{fact, P, Q, PlanRow}
use Rattle.planning.proofs.Cases.{plan_rows}
use Rattle.states_within.specs.Within.{same_state, any_operator, reaches, before, joined, all_states, those, states_within}
use Rattle.std.proofs.Common.{Result, Ok, Err}
use Rattle.refusal.specs.declared.Refusal.{Refusal}
use Rattle.refusal.specs.declared.Refusal.TheVariants.{PlanFull, StatesFull}
use Rattle.states_answer.specs.declared.Summary.{Summary}
use Rattle.states_answer.specs.Lent.{Lent, lent}
use Rattle.states_answer.specs.States.{best_plan, state_count, summary_of, listed_of}

-- lists of n states and p steps, and working lists without an entry
abbrev lists : ℕ → ℕ → Lent
lists n p = lent (replicate n 0) (replicate n 0) (replicate n 0) [] [] (replicate p 0)

abbrev figures : ℕ → ℕ → ℕ → ℕ → ℕ → Result Summary Refusal
figures u g b n k = Ok (record { utility = u; cost = g; bound = b; states = n; steps = k })

-- a task whose states within the bound are these, over any lists
module _ (t : Task) (l : Lent) {ss : List (List ℕ)} (are : states_within t ≡ ss) where
  -- states and steps fit
  fits :
      {p : List ℕ} {u top c : ℕ}
      → PlanRow t p u top c
      → length ss ≤ length l.states
      → length p ≤ length l.plan
      → listed_of t l ≡ figures u c t.bound (length ss) (length p)
  unfolding listed_of summary_of state_count best_plan pick
  fits {p} r s k = rw (are, r.found, le-ltb (length l.states) (length ss) s, le-ltb (length l.plan) (length p) k, r.utility, r.costs)

  -- the states do not, whether the steps do or not
  no_room : length l.states < length ss → listed_of t l ≡ Err StatesFull
  unfolding listed_of state_count pick
  no_room s = rw (are, lt-ltb (length l.states) (length ss) s)

  -- the steps do not
  no_steps :
      {p : List ℕ} {u top c : ℕ}
      → PlanRow t p u top c
      → length ss ≤ length l.states
      → length l.plan < length p
      → listed_of t l ≡ Err PlanFull
  unfolding listed_of state_count best_plan pick
  no_steps {p} r s k = rw (are, r.found, le-ltb (length l.states) (length ss) s, lt-ltb (length l.plan) (length p) k)

-- the states within the bound, by trying every sequence
pub states_are :
    (states_within (P 0) ≡ (0 ∷ 0 ∷ []) ∷ [])
    × (states_within (P 1) ≡ (0 ∷ 0 ∷ []) ∷ (0 ∷ 1 ∷ []) ∷ (1 ∷ 0 ∷ []) ∷ [])
    × (states_within (P 2) ≡ (0 ∷ 0 ∷ []) ∷ (0 ∷ 1 ∷ []) ∷ (1 ∷ 0 ∷ []) ∷ (1 ∷ 1 ∷ []) ∷ [])
    × (states_within (Q 3) ≡ (0 ∷ []) ∷ (1 ∷ []) ∷ [])
    × (states_within (Q 4) ≡ (0 ∷ []) ∷ (1 ∷ []) ∷ (2 ∷ []) ∷ [])
    × (states_within (Q 5) ≡ (0 ∷ []) ∷ (1 ∷ []) ∷ (2 ∷ []) ∷ [])
unfolding ◌and◌ ◌or◌ pick value_of holds apply tab wide width bits same_state any_operator reaches before joined all_states those states_within fact P Q
states_are = (refl, refl, refl, refl, refl, refl)

pub p_with_0 : listed_of (P 0) (lists 1 0) ≡ figures 0 0 0 1 0
unfolding P
p_with_0 = fits (P 0) (lists 1 0) states_are.0 plan_rows.0 (omega arith) (omega arith)

pub p_with_1 : listed_of (P 1) (lists 3 1) ≡ figures 2 1 1 3 1
unfolding P
p_with_1 = fits (P 1) (lists 3 1) states_are.1 plan_rows.1 (omega arith) (omega arith)

pub p_with_2 : listed_of (P 2) (lists 4 2) ≡ figures 3 2 2 4 2
unfolding P
p_with_2 = fits (P 2) (lists 4 2) states_are.2 plan_rows.2 (omega arith) (omega arith)

pub q_with_3 : listed_of (Q 3) (lists 2 0) ≡ figures 0 0 3 2 0
unfolding Q
q_with_3 = fits (Q 3) (lists 2 0) states_are.3 plan_rows.3 (omega arith) (omega arith)

pub q_with_4 : listed_of (Q 4) (lists 3 1) ≡ figures 7 4 4 3 1
unfolding Q
q_with_4 = fits (Q 4) (lists 3 1) states_are.4 plan_rows.4 (omega arith) (omega arith)

pub q_with_5 : listed_of (Q 5) (lists 3 1) ≡ figures 7 4 5 3 1
unfolding Q
q_with_5 = fits (Q 5) (lists 3 1) states_are.5 plan_rows.5 (omega arith) (omega arith)

pub p_0_states_0 : listed_of (P 0) (lists 0 0) ≡ Err StatesFull
p_0_states_0 = no_room (P 0) (lists 0 0) states_are.0 (omega arith)

pub p_1_states_2 : listed_of (P 1) (lists 2 1) ≡ Err StatesFull
p_1_states_2 = no_room (P 1) (lists 2 1) states_are.1 (omega arith)

pub p_2_states_3 : listed_of (P 2) (lists 3 2) ≡ Err StatesFull
p_2_states_3 = no_room (P 2) (lists 3 2) states_are.2 (omega arith)

pub q_3_states_1 : listed_of (Q 3) (lists 1 0) ≡ Err StatesFull
q_3_states_1 = no_room (Q 3) (lists 1 0) states_are.3 (omega arith)

pub q_4_states_2 : listed_of (Q 4) (lists 2 1) ≡ Err StatesFull
q_4_states_2 = no_room (Q 4) (lists 2 1) states_are.4 (omega arith)

pub q_5_states_2 : listed_of (Q 5) (lists 2 1) ≡ Err StatesFull
q_5_states_2 = no_room (Q 5) (lists 2 1) states_are.5 (omega arith)

-- 24 before 15
pub p_1_both_short : listed_of (P 1) (lists 2 0) ≡ Err StatesFull
p_1_both_short = no_room (P 1) (lists 2 0) states_are.1 (omega arith)

pub p_1_steps_0 : listed_of (P 1) (lists 3 0) ≡ Err PlanFull
p_1_steps_0 = no_steps (P 1) (lists 3 0) states_are.1 plan_rows.1 (omega arith) (omega arith)

pub p_2_steps_1 : listed_of (P 2) (lists 4 1) ≡ Err PlanFull
p_2_steps_1 = no_steps (P 2) (lists 4 1) states_are.2 plan_rows.2 (omega arith) (omega arith)

pub q_4_steps_0 : listed_of (Q 4) (lists 3 0) ≡ Err PlanFull
q_4_steps_0 = no_steps (Q 4) (lists 3 0) states_are.4 plan_rows.4 (omega arith) (omega arith)

pub q_5_steps_0 : listed_of (Q 5) (lists 3 0) ≡ Err PlanFull
q_5_steps_0 = no_steps (Q 5) (lists 3 0) states_are.5 plan_rows.5 (omega arith) (omega arith)
