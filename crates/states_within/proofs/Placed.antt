-- The states within the bound are exactly those with a place of a cost that is at most the bound.
use Prim.Native.Nat.{ℕ, zero, suc, ◌≤◌, ◌<◌}
use mathlib.Core.Path.{◌≡◌, refl, ◌∙◌}
use mathlib.Core.Bool.{Bool, true, false}
use mathlib.Core.List.{List, [], ◌∷◌, Memᴰ}
use mathlib.Core.Logic.{◌⊎◌, inl, inr}
use native.Mathlib.Decide.{dec_le}
use native.Mathlib.Omega.{arith}
use lib.Dec.{T}
use lib.ListN.{length}
use Rattle.planning.specs.Model.{Task, can_apply, next, applicable, end, cost}
use Rattle.planning.specs.Best.{Place}
use Rattle.planning.specs.ByCost.{Cheapest}
use Rattle.planning.specs.Good.{Good}
use Rattle.planning.specs.Pairs.{pair_cost, pair_steps, by_pairs}
use Rattle.planning.proofs.Connectives.{t_true, t_and, cases_lt}
use Rattle.planning.proofs.Moves.{can_below}
use Rattle.planning.proofs.Pairs.{good_pairs, pair_applies, pair_ends, place_is}
use Rattle.states_within.specs.Within.{reaches, states_within}
use Rattle.states_within.proofs.Within.{Leads, reaches_in, reaches_out, mem_within}

-- the lowest number below n of which the test holds, or none
record Lowest (test : ℕ → Bool) (m : ℕ) : Type 0 where
  holds : T (test m)
  lowest : (j : ℕ) → j < m → T (test j) → ⊥

lowest_below : (test : ℕ → Bool) (n : ℕ) → ((m : ℕ) × Lowest test m) ⊎ ((j : ℕ) → j < n → T (test j) → ⊥)
lowest_below test zero = inr (λ j lt h. absurd (omega arith))
lowest_below test (suc n) = step (lowest_below test n) (test n) refl
  where
    step : ((m : ℕ) × Lowest test m) ⊎ ((j : ℕ) → j < n → T (test j) → ⊥) → (v : Bool) → test n ≡ v → ((m : ℕ) × Lowest test m) ⊎ ((j : ℕ) → j < suc n → T (test j) → ⊥)
    step (inl x) v e = inl x
    step (inr none) true e = inl (n, record { holds = (t_true (test n)).1 e; lowest = none })
    step (inr none) false e = inr (λ j lt h. by j h (cases_lt j n) lt)
      where
        by : (j : ℕ) → T (test j) → (j < n) ⊎ (j ≡ n) ⊎ (n < j) → j < suc n → ⊥
        by j h (inl x) lt = none j x h
        by j h (inr (inl x)) lt = rw (x, e) at h
        by j h (inr (inr x)) lt = omega arith

module _ (t : Task) (𝓖 : Good t) where
  abbrev u : Task
  u = by_pairs t

  -- every operator adds at least 1
  length_le : (s p : List ℕ) → T (applicable u s p) → length p ≤ cost u p
  unfolding applicable cost
  length_le s [] a = omega arith
  length_le s (o ∷ p) a =
      let c = (t_and (can_apply u o s) (applicable u (next u o s) p)).0 a in
      omega (arith, (good_pairs t 𝓖).costs o (can_below u o s c.0), length_le (next u o s) p c.1)

  -- some sequence leads to s whose number is at most k
  abbrev Reaches : List ℕ → ℕ → Bool
  Reaches s k = reaches u.operators k k u.start s

  reached : (s p : List ℕ) → T (applicable u u.start p) → end u u.start p ≡ s → T (Reaches s (cost u p))
  reached s p a e = rw e at (reaches_in u (cost u p) (cost u p) u.start p a (omega arith) (length_le u.start p a))

  cheapest : (s : List ℕ) (m : ℕ) → Lowest (Reaches s) m → Cheapest u s m
  cheapest s m λm = let x = reaches_out u m m u.start s λm.holds in record {
    path = x.0;
    applies = x.1.applies;
    ends = x.1.ends;
    costs = exact x.0 x.1 (dec_le m (cost u x.0));
    least = λ q a e. low q a e (dec_le m (cost u q));
  }
    where
      low : (q : List ℕ) → T (applicable u u.start q) → end u u.start q ≡ s → Dec (m ≤ cost u q) → m ≤ cost u q
      low q a e (yes h) = h
      low q a e (no h) = absurd (λm.lowest (cost u q) (omega arith) (reached s q a e))

      exact : (q : List ℕ) → Leads u m u.start s q → Dec (m ≤ cost u q) → cost u q ≡ m
      exact q x d = let h = low q x.applies x.ends d in omega (arith, x.within)

  -- a state within the bound has a place of such a cost (the other way round is within_place)
  pub within_has_place : (s : List ℕ) → Memᴰ s (states_within t) → (c : ℕ) × (k : ℕ) × Place t s c k × (c ≤ t.bound)
  within_has_place s mem = on (lowest_below (Reaches s) (suc (cost u p)))
    where
      x : (p : List ℕ) × T (applicable t t.start p) × (end t t.start p ≡ s) × (cost t p ≤ t.bound)
      x = (mem_within t 𝓖 s mem).1

      p : List ℕ
      p = x.0

      on : ((m : ℕ) × Lowest (Reaches s) m) ⊎ ((j : ℕ) → j < suc (cost u p) → T (Reaches s j) → ⊥) → (c : ℕ) × (k : ℕ) × Place t s c k × (c ≤ t.bound)
      on (inl y) =
          let π = (place_is t 𝓖 s y.0).0 (cheapest s y.0 y.1) in
          (pair_cost t y.0, pair_steps t y.0, π, within π (dec_le (pair_cost t y.0) (cost t p)))
        where
          within : Place t s (pair_cost t y.0) (pair_steps t y.0) → Dec (pair_cost t y.0 ≤ cost t p) → pair_cost t y.0 ≤ t.bound
          within π (yes h) = omega (arith, x.3)
          within π (no h) = absurd (π.least p x.1 x.2 (inl (omega arith)))
      on (inr none) = absurd (none (cost u p) (omega arith) (reached s p (rw (pair_applies t p) x.1) (pair_ends t p ∙ x.2)))
