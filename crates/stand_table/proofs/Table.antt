-- Document 01's stand cases as one table, a line for each case; a listing has document 02's time. The rows speak of `search_of`, `states_of` and
-- `walk_of` on the bytes of the stand's files: these are what the contracts of `search::search`, `states::list_states` and `walk::walk` say the
-- code answers; `time_of` is what that of `shift_time::time_of` says. Assumes nothing.
use Prim.Native.Nat.{ℕ, zero, suc}
use mathlib.Core.Path.{◌≡◌, refl, sym, ap, subst, ◌∙◌}
use mathlib.Core.Bool.{false}
use mathlib.Core.List.{List, [], ◌∷◌, ◌++◌}
use lib.ListN.{length, replicate}
use Rattle.std.proofs.Common.{Result, Ok, Err}
use Rattle.planning.specs.Connectives.{pick, ◌or◌}
use Rattle.planning.specs.Model.{Task}
use Rattle.planning.specs.Cases.{PlanRow}
use Rattle.planning.specs.Best.{Best}
use Rattle.planning.proofs.Cases.{plan_rows}
use Rattle.task.specs.Check.{check_of}
use Rattle.task.specs.Decode.{task_of}
use Rattle.lent_lists.specs.Lists.{lists_wrong, pairs_wrong}
use Rattle.search_theory.specs.Stop.{pair_task}
use Rattle.search_theory.specs.Plan.{plan_of}
use Rattle.search_theory.proofs.Table as sets
use Rattle.task.specs.Cases.{header, operator, file_p, file_q, file_of}
use Rattle.refusal.specs.declared.Fault.TheVariants.{Operator, Precondition, Bound}
use Rattle.refusal.specs.declared.Refusal.{Refusal}
use Rattle.refusal.specs.declared.Refusal.TheVariants.{NodesFull, PlanFull, PairsFull, StatesFull}
use Rattle.walk.specs.Walk.{walk_of, stops_at, reaches}
use Rattle.walk.specs.Answers.{numbers}
use Rattle.walk.proofs.Cases.{checks, walks}
use Rattle.search_answer.specs.declared.Listing.{Listing}
use Rattle.search_answer.specs.Lent.{Lent, lent}
use Rattle.search_answer.specs.Search.{any_wrong, made_of, search_of}
use Rattle.search_answer.proofs.Table as searches
use Rattle.states_answer.specs.Lent as states-lent
use Rattle.states_answer.specs.States.{best_plan, listed_of, states_of}
use Rattle.states_answer.proofs.Table as listings
use Rattle.shift_time.specs.Time.{time_of}
use Rattle.stand_table.proofs.Files.{Holds, files}

-- m entries for pairs, n node entries, e utility entries and p steps are lent, and working lists without an entry
abbrev pub lists : ℕ → ℕ → ℕ → ℕ → Lent
lists m n e p =
    lent (replicate m 0) (replicate m 0) (replicate m 0) (replicate m 0) (replicate n 0) (replicate n 0) (replicate n 0) (replicate e 0) (replicate e 0) (replicate e 0) [] [] [] (replicate p 0)

-- the figures of the listing, and the number of pairs
abbrev pub figures : ℕ → ℕ → ℕ → ℕ → ℕ → ℕ → ℕ → ℕ → Result Listing Refusal
figures u c g b n e m k = Ok (record { utility = u; ceiling = c; cost = g; bound = b; nodes = n; entries = e; pairs = m; steps = k })

-- the listing's lines: the search answers with utility and ceiling, cost and bound, the two counts of nodes, and the number of pairs;
-- minutes, units left over and units unused are those of cost and bound; the plan that it hands over is this one, and this is the best plan
pub record Finds (f : List ℕ) (l : Lent) (utility cost : ℕ × ℕ) (time : ℕ × ℕ × ℕ) (nodes : ℕ × ℕ) (pairs : ℕ) (plan : List ℕ) : Type 0 where
  pub answers : search_of f l ≡ figures utility.0 utility.1 cost.0 cost.1 nodes.0 nodes.1 pairs (length plan)
  pub takes : time_of cost.0 cost.1 ≡ record { minutes = time.0; units = time.1; unused = time.2 }
  pub hands_over : plan_of (pair_task (task_of f)) ≡ plan
  pub best : Best (task_of f) plan

-- n entries for states and p steps are lent to the engine that lists states, and working lists without an entry
abbrev pub state_lists : ℕ → ℕ → states-lent.Lent
state_lists n p = states-lent.lent (replicate n 0) (replicate n 0) (replicate n 0) [] [] (replicate p 0)

-- the engine that lists states answers with utility, cost and bound, and the number of states; the time is that of cost and bound; the plan
-- that it hands over is this one, and this is the best plan
pub record Lists (f : List ℕ) (l : states-lent.Lent) (utility : ℕ) (cost : ℕ × ℕ) (time : ℕ × ℕ × ℕ) (states : ℕ) (plan : List ℕ) : Type 0 where
  pub answers : states_of f l ≡ Ok (record { utility = utility; cost = cost.0; bound = cost.1; states = states; steps = length plan })
  pub takes : time_of cost.0 cost.1 ≡ record { minutes = time.0; units = time.1; unused = time.2 }
  pub hands_over : best_plan (task_of f) ≡ plan
  pub best : Best (task_of f) plan

-- so many variables of 16 values, starting at 0
unfoldable pub sixteens : ℕ → List ℕ
sixteens zero = []
sixteens (suc n) = 16 ∷ 0 ∷ sixteens n

-- The starred cases. A walked plan has two bytes a step.
pub record Starred : Type 0 where
  -- P, b = 0: no steps, utility 0, nodes 2 6
  pub p_0 : Finds (file_p 0) (lists 1 2 6 0) (0, 3) (0, 0) (0, 0, 0) (2, 6) 1 []
  -- P, b = 1 with 8 node entries: accepted, the listing of osp-list, time 0 1 0
  pub p_1 : Finds (file_p 1) (lists 2 8 6 1) (2, 3) (1, 1) (0, 1, 0) (8, 6) 2 (1 ∷ [])
  -- P, b = 2: plan 1, 2; utility 3; cost 2
  pub p_2 : Finds (file_p 2) (lists 3 10 6 2) (3, 3) (2, 2) (0, 2, 0) (10, 6) 3 (1 ∷ 2 ∷ [])
  -- P, b = 1 with 7 node entries: refused 14
  pub nodes_7 : search_of (file_p 1) (lists 2 7 6 1) ≡ Err NodesFull
  -- P, b = 1 with a plan list of 0: refused 15
  pub steps_0 : search_of (file_p 1) (lists 2 8 6 0) ≡ Err PlanFull
  -- walk 1, 2 with b = 2: cost 2, utility 3
  pub walk_1_2 : numbers (walk_of (file_p 2) (1 ∷ 0 ∷ 2 ∷ 0 ∷ [])) ≡ (0, 2, 3)
  -- walk 1, 2 with b = 1: 19 at step 1
  pub walk_above : numbers (walk_of (file_p 1) (1 ∷ 0 ∷ 2 ∷ 0 ∷ [])) ≡ (19, 1, 0)
  -- walk 1, 1: 18 at step 1
  pub walk_1_1 : numbers (walk_of (file_p 2) (1 ∷ 0 ∷ 1 ∷ 0 ∷ [])) ≡ (18, 1, 0)
  -- Q, b = 5: operator 3 at cost 4
  pub q_5 : Finds (file_q 5) (lists 3 8 6 1) (7, 7) (4, 5) (0, 4, 1) (8, 4) 3 (3 ∷ [])
  -- Q, b = 4: the same
  pub q_4 : Finds (file_q 4) (lists 3 8 6 1) (7, 7) (4, 4) (0, 4, 0) (8, 4) 3 (3 ∷ [])
  -- Q, b = 3: no steps
  pub q_3 : Finds (file_q 3) (lists 2 5 6 0) (0, 7) (0, 3) (0, 0, 3) (5, 4) 2 []

-- The others, and those of the engine that lists states.
pub record Unstarred : Type 0 where
  -- P, b = 1 with one entry for pairs: refused 23
  pub pairs_1 : search_of (file_p 1) (lists 1 8 6 1) ≡ Err PairsFull
  -- walk 3: 17 at step 0
  pub walk_3 : numbers (walk_of (file_p 2) (3 ∷ 0 ∷ [])) ≡ (17, 0, 0)
  -- 16 values accepted, 17 refused 7
  pub values_16 : check_of (file_of 1 (16 ∷ 15 ∷ [])) ≡ (0, 0)
  pub values_17 : check_of (file_of 1 (17 ∷ 0 ∷ [])) ≡ (7, 0)
  -- cost 0 accepted
  pub cost_0 : check_of (header 1 1 0 0 ++ (2 ∷ 0 ∷ []) ++ operator 0 0 0 [] []) ≡ (0, 0)
  -- 48 bits accepted, 49 refused 8
  pub bits_48 : check_of (file_of 12 (sixteens 12)) ≡ (0, 0)
  pub bits_49 : check_of (file_of 13 (sixteens 12 ++ (2 ∷ 0 ∷ []))) ≡ (8, 0)
  -- the same plans and figures by listing states, which are 1, 3 and 4 of P, and 2, 3 and 3 of Q
  pub states_p_0 : Lists (file_p 0) (state_lists 1 0) 0 (0, 0) (0, 0, 0) 1 []
  pub states_p_1 : Lists (file_p 1) (state_lists 3 1) 2 (1, 1) (0, 1, 0) 3 (1 ∷ [])
  pub states_p_2 : Lists (file_p 2) (state_lists 4 2) 3 (2, 2) (0, 2, 0) 4 (1 ∷ 2 ∷ [])
  pub states_q_3 : Lists (file_q 3) (state_lists 2 0) 0 (0, 3) (0, 0, 3) 2 []
  pub states_q_4 : Lists (file_q 4) (state_lists 3 1) 7 (4, 4) (0, 4, 0) 3 (3 ∷ [])
  pub states_q_5 : Lists (file_q 5) (state_lists 3 1) 7 (4, 5) (0, 4, 1) 3 (3 ∷ [])
  -- P, b = 1 with two entries for states: refused 24, also with a plan list of 0; with three and a plan list of 0: refused 15
  pub states_2 : states_of (file_p 1) (state_lists 2 1) ≡ Err StatesFull
  pub states_2_steps_0 : states_of (file_p 1) (state_lists 2 0) ≡ Err StatesFull
  pub states_steps_0 : states_of (file_p 1) (state_lists 3 0) ≡ Err PlanFull

-- an accepted file and lists that pass 12 leave the later refusals
due : {f : List ℕ} {t : Task} (l : Lent) → Holds f t → any_wrong l ≡ false → search_of f l ≡ made_of t l
unfolding search_of pick
due l h w = rw (h.sound, h.task, w)

finds :
    {f : List ℕ} {t : Task} {l : Lent} {utility cost : ℕ × ℕ} {time : ℕ × ℕ × ℕ} {nodes : ℕ × ℕ} {pairs : ℕ} {plan : List ℕ}
    → Holds f t
    → search_of f l ≡ figures utility.0 utility.1 cost.0 cost.1 nodes.0 nodes.1 pairs (length plan)
    → time_of cost.0 cost.1 ≡ record { minutes = time.0; units = time.1; unused = time.2 }
    → plan_of (pair_task t) ≡ plan
    → Best t plan
    → Finds f l utility cost time nodes pairs plan
finds {plan = plan} h a m r s = record {
  answers = a;
  takes = m;
  hands_over = ap (λ x. plan_of (pair_task x)) h.task ∙ r;
  best = subst (λ x. Best x plan) (sym h.task) s;
}

due_states :
    {f : List ℕ} {t : Task} (l : states-lent.Lent) → Holds f t → lists_wrong (length l.states) (length l.costs) (length l.steps) ≡ false → states_of f l ≡ listed_of t l
unfolding states_of pick
due_states l h w = rw (h.sound, h.task, w)

lists_states :
    {f : List ℕ} {t : Task} {l : states-lent.Lent} {utility : ℕ} {cost : ℕ × ℕ} {time : ℕ × ℕ × ℕ} {states top : ℕ} {plan : List ℕ}
    → Holds f t
    → states_of f l ≡ Ok (record { utility = utility; cost = cost.0; bound = cost.1; states = states; steps = length plan })
    → time_of cost.0 cost.1 ≡ record { minutes = time.0; units = time.1; unused = time.2 }
    → PlanRow t plan utility top cost.0
    → Lists f l utility cost time states plan
unfolding best_plan
lists_states {plan = plan} h a m r = record {
  answers = a;
  takes = m;
  hands_over = ap best_plan h.task ∙ r.found;
  best = subst (λ x. Best x plan) (sym h.task) r.plan;
}

w12 : walk_of (file_p 2) (1 ∷ 0 ∷ 2 ∷ 0 ∷ []) ≡ reaches 2 3
w12 = cc walks

above : walk_of (file_p 1) (1 ∷ 0 ∷ 2 ∷ 0 ∷ []) ≡ stops_at 1 Bound
above = cc walks

w11 : walk_of (file_p 2) (1 ∷ 0 ∷ 1 ∷ 0 ∷ []) ≡ stops_at 1 Precondition
w11 = cc walks

w3 : walk_of (file_p 2) (3 ∷ 0 ∷ []) ≡ stops_at 0 Operator
w3 = cc walks

pub starred : Starred
unfolding lists_wrong pairs_wrong any_wrong ◌or◌
starred = record {
  p_0 = finds files.0 (due (lists 1 2 6 0) files.0 refl ∙ searches.p_with_0) refl (sets.p_0).plan_is plan_rows.0.plan;
  p_1 = finds files.1 (due (lists 2 8 6 1) files.1 refl ∙ searches.p_with_1) refl (sets.p_1).plan_is plan_rows.1.plan;
  p_2 = finds files.2 (due (lists 3 10 6 2) files.2 refl ∙ searches.p_with_2) refl (sets.p_2).plan_is plan_rows.2.plan;
  nodes_7 = due (lists 2 7 6 1) files.1 refl ∙ searches.p_nodes_7;
  steps_0 = due (lists 2 8 6 0) files.1 refl ∙ searches.p_plan_0;
  walk_1_2 = ap numbers w12;
  walk_above = ap numbers above;
  walk_1_1 = ap numbers w11;
  q_5 = finds files.5 (due (lists 3 8 6 1) files.5 refl ∙ searches.q_with_5) refl (sets.q_5).plan_is plan_rows.5.plan;
  q_4 = finds files.4 (due (lists 3 8 6 1) files.4 refl ∙ searches.q_with_4) refl (sets.q_4).plan_is plan_rows.4.plan;
  q_3 = finds files.3 (due (lists 2 5 6 0) files.3 refl ∙ searches.q_with_3) refl (sets.q_3).plan_is plan_rows.3.plan;
}

pub unstarred : Unstarred
unfolding lists_wrong pairs_wrong any_wrong ◌or◌ sixteens
unstarred = record {
  pairs_1 = due (lists 1 8 6 1) files.1 refl ∙ searches.p_pairs_1;
  walk_3 = ap numbers w3;
  values_16 = cc checks;
  values_17 = cc checks;
  cost_0 = cc checks;
  bits_48 = cc checks;
  bits_49 = cc checks;
  states_p_0 = lists_states files.0 (due_states (state_lists 1 0) files.0 refl ∙ listings.p_with_0) refl plan_rows.0;
  states_p_1 = lists_states files.1 (due_states (state_lists 3 1) files.1 refl ∙ listings.p_with_1) refl plan_rows.1;
  states_p_2 = lists_states files.2 (due_states (state_lists 4 2) files.2 refl ∙ listings.p_with_2) refl plan_rows.2;
  states_q_3 = lists_states files.3 (due_states (state_lists 2 0) files.3 refl ∙ listings.q_with_3) refl plan_rows.3;
  states_q_4 = lists_states files.4 (due_states (state_lists 3 1) files.4 refl ∙ listings.q_with_4) refl plan_rows.4;
  states_q_5 = lists_states files.5 (due_states (state_lists 3 1) files.5 refl ∙ listings.q_with_5) refl plan_rows.5;
  states_2 = due_states (state_lists 2 1) files.1 refl ∙ listings.p_1_states_2;
  states_2_steps_0 = due_states (state_lists 2 0) files.1 refl ∙ listings.p_1_both_short;
  states_steps_0 = due_states (state_lists 3 0) files.1 refl ∙ listings.p_1_steps_0;
}
