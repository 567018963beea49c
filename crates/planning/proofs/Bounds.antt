-- A task with another bound: applicability, cost and utility are the same, and a lower bound has the same best plan if that plan attains a
-- utility that no applicable sequence exceeds.
use Prim.Native.Nat.{ℕ, ◌+◌, ◌≤◌, ◌<◌}
use mathlib.Core.Path.{◌≡◌, refl, ap}
use mathlib.Core.List.{List, [], ◌∷◌}
use mathlib.Core.Logic.{◌⊎◌, inl, inr}
use native.Mathlib.Decide.{dec_le}
use native.Mathlib.Omega.{arith}
use lib.Dec.{T}
use Rattle.planning.specs.Connectives.{◌and◌}
use Rattle.planning.specs.Model.{Task, with_bound, state_utility, operator_at, can_apply, next, applicable, end, cost, utility}
use Rattle.planning.specs.Best.{Plan}
use Rattle.planning.specs.ByCost.{BetterByCost, BestByCost}
use Rattle.planning.specs.Good.{GoodByCost}

module _ (t : Task) (b : ℕ) where
  bound_applicable : (s p : List ℕ) → applicable (with_bound t b) s p ≡ applicable t s p
  unfolding applicable can_apply next with_bound
  bound_applicable s [] = refl
  bound_applicable s (o ∷ p) = ap (λ x. can_apply t o s and x) (bound_applicable (next t o s) p)

  bound_end : (s p : List ℕ) → end (with_bound t b) s p ≡ end t s p
  unfolding end next with_bound
  bound_end s [] = refl
  bound_end s (o ∷ p) = bound_end (next t o s) p

  pub bound_cost : (p : List ℕ) → cost (with_bound t b) p ≡ cost t p
  unfolding cost with_bound
  bound_cost [] = refl
  bound_cost (o ∷ p) = ap (λ x. (operator_at t.operators o).cost + x) (bound_cost p)

  pub bound_utility : (p : List ℕ) → utility (with_bound t b) p ≡ utility t p
  unfolding utility with_bound
  bound_utility p = ap (state_utility t.terms) (bound_end t.start p)

  pub bound_good : GoodByCost t → GoodByCost (with_bound t b)
  unfolding with_bound
  bound_good 𝓖 = record { good = record { start = 𝓖.good.start; pres = 𝓖.good.pres; effs = 𝓖.good.effs; terms = 𝓖.good.terms }; costs = 𝓖.costs }

  plan_out : (p : List ℕ) → b ≤ t.bound → Plan (with_bound t b) p → Plan t p
  unfolding with_bound
  plan_out p le h = record { applies = rw (bound_applicable t.start p) at h.applies; within = omega (arith, h.within, bound_cost p) }

  plan_in : (p : List ℕ) → cost t p ≤ b → Plan t p → Plan (with_bound t b) p
  unfolding with_bound
  plan_in p le h = record { applies = rw (bound_applicable t.start p) h.applies; within = omega (arith, bound_cost p) }

  better_out : (p q : List ℕ) → BetterByCost (with_bound t b) p q → BetterByCost t p q
  better_out p q h = rw (bound_utility p, bound_utility q, bound_cost p, bound_cost q) at h

  -- no applicable sequence has more utility than c, and the best plan within the lower bound has c, or the bound is not lower
  module _ (c : ℕ) (le : b ≤ t.bound) (most : (p : List ℕ) → T (applicable t t.start p) → utility t p ≤ c) where
    pub best_within : (p : List ℕ) → BestByCost (with_bound t b) p → (b ≡ t.bound) ⊎ (utility t p ≡ c) → BestByCost t p
    unfolding with_bound
    best_within p h stop = record { plan = plan_out p le h.plan; wins = wins }
      where
        past : (q : List ℕ) → Plan t q → b < cost t q → (b ≡ t.bound) ⊎ (utility t p ≡ c) → BetterByCost t p q
        past q j lt (inl e) = absurd (omega (arith, j.within))
        past q j lt (inr e) = by (dec_le c (utility t q))
          where
            by : Dec (c ≤ utility t q) → BetterByCost t p q
            by (yes k) = inr (inl (omega (arith, most q j.applies), omega (arith, h.plan.within, bound_cost p)))
            by (no k) = inl (omega arith)

        wins : (q : List ℕ) → Plan t q → (q ≡ p → ⊥) → BetterByCost t p q
        wins q j ne = by (dec_le (cost t q) b)
          where
            by : Dec (cost t q ≤ b) → BetterByCost t p q
            by (yes k) = better_out p q (h.wins q (plan_in q k j) ne)
            by (no k) = past q j (omega arith) stop
