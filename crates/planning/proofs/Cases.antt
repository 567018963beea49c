-- The starred plan rows of document 01's stand cases, by computation.
use Prim.Native.Nat.{ℕ, zero, suc, ◌<◌}
use mathlib.Core.Path.{◌≡◌, refl, subst}
use mathlib.Core.List.{List, [], ◌∷◌}
use native.Mathlib.Omega.{arith}
use lib.ListN.{length}
use Rattle.planning.specs.Connectives.{◌and◌, ◌or◌, pick}
use Rattle.planning.specs.Model.{Task, value_of, holds, apply, state_utility, operator_at, can_apply, next, applicable, end, cost, utility}
use Rattle.planning.specs.Ceiling.{greatest_below, greatest_over, ceiling}
use Rattle.planning.specs.Coding.{wide, width, bits, Facts}
use Rattle.planning.specs.Best.{Best}
use Rattle.planning.specs.Pairs.{stride, pair_operator, by_pairs}
use Rattle.planning.specs.Good.{Good}
use Rattle.planning.specs.Exhaustive.{prefix, beginning, sequences, no_later, better, choose, best}
use Rattle.planning.specs.Cases.{fact, P, Q, PlanRow}
use Rattle.planning.proofs.Theorems.{best_exists}

p_good : (b : ℕ) → Good (P b)
unfolding P operator_at fact
p_good b = record { start = omega arith; pres = λ o h. pres o h; effs = λ o h. effs o h; terms = omega arith }
  where
    pres : (o : ℕ) → o < length (P b).operators → Facts (P b).sizes 0 (operator_at (P b).operators o).pre
    pres zero h = omega arith
    pres (suc zero) h = omega arith
    pres (suc (suc zero)) h = omega arith
    pres (suc (suc (suc o))) h = absurd (omega arith)

    effs : (o : ℕ) → o < length (P b).operators → Facts (P b).sizes 0 (operator_at (P b).operators o).eff
    effs zero h = omega arith
    effs (suc zero) h = omega arith
    effs (suc (suc zero)) h = omega arith
    effs (suc (suc (suc o))) h = absurd (omega arith)

q_good : (b : ℕ) → Good (Q b)
unfolding Q operator_at fact
q_good b = record { start = omega arith; pres = λ o h. pres o h; effs = λ o h. effs o h; terms = omega arith }
  where
    pres : (o : ℕ) → o < length (Q b).operators → Facts (Q b).sizes 0 (operator_at (Q b).operators o).pre
    pres zero h = omega arith
    pres (suc zero) h = omega arith
    pres (suc (suc zero)) h = omega arith
    pres (suc (suc (suc zero))) h = omega arith
    pres (suc (suc (suc (suc o)))) h = absurd (omega arith)

    effs : (o : ℕ) → o < length (Q b).operators → Facts (Q b).sizes 0 (operator_at (Q b).operators o).eff
    effs zero h = omega arith
    effs (suc zero) h = omega arith
    effs (suc (suc zero)) h = omega arith
    effs (suc (suc (suc zero))) h = omega arith
    effs (suc (suc (suc (suc o)))) h = absurd (omega arith)

row : (t : Task) (p : List ℕ) (u top c : ℕ) → Good t → best (by_pairs t) ≡ p → utility t p ≡ u → ceiling t ≡ top → cost t p ≡ c → PlanRow t p u top c
row t p u top c 𝓖 e f g h = record { plan = subst (Best t) e (best_exists t 𝓖); found = e; utility = f; most = g; costs = h }

-- task and bound; plan, utility of the ceiling, cost
pub plan_rows :
    PlanRow (P 0) [] 0 3 0
    × PlanRow (P 1) (1 ∷ []) 2 3 1
    × PlanRow (P 2) (1 ∷ 2 ∷ []) 3 3 2
    × PlanRow (Q 3) [] 0 7 0
    × PlanRow (Q 4) (3 ∷ []) 7 7 4
    × PlanRow (Q 5) (3 ∷ []) 7 7 4
unfolding ◌and◌ ◌or◌ pick value_of holds apply state_utility greatest_below greatest_over ceiling operator_at can_apply next applicable end cost utility prefix beginning sequences no_later better choose best wide width bits stride pair_operator by_pairs fact P Q
plan_rows = (
  row (P 0) [] 0 3 0 (p_good 0) refl refl refl refl,
  row (P 1) (1 ∷ []) 2 3 1 (p_good 1) refl refl refl refl,
  row (P 2) (1 ∷ 2 ∷ []) 3 3 2 (p_good 2) refl refl refl refl,
  row (Q 3) [] 0 7 0 (q_good 3) refl refl refl refl,
  row (Q 4) (3 ∷ []) 7 7 4 (q_good 4) refl refl refl refl,
  row (Q 5) (3 ∷ []) 7 7 4 (q_good 5) refl refl refl refl,
)
