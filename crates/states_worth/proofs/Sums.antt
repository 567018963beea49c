-- What a sum of terms is and how great, and the greatest of some. Assumes nothing.
use Prim.Native.Nat.{ℕ, ◌+◌, ◌*◌, ◌≤◌, ◌<◌}
use mathlib.Core.Path.{◌≡◌, refl, sym}
use mathlib.Core.Bool.{Bool, true, false}
use mathlib.Core.List.{List}
use native.Mathlib.Omega.{arith}
use native.Mathlib.Numerals.{add-one}
use borrow.Author.Count.{below_more}
use lib.ListN.{get_or}
use Rattle.planning.specs.Connectives.{pick}
use Rattle.states_moves.specs.Words.{meets}
use Rattle.states_worth.specs.declared.Weighted.{Weighted}
use Rattle.states_worth.specs.Worth.{nothing, weight_at, care_at, value_at, gain_at, worth_of, Weighed, Greatest}

module _ (table : List Weighted) (j s : ℕ) where
  -- what the code finds of term j
  pub gain_is : (w : Weighted) → w ≡ get_or table j nothing → pick (meets w.facts.care w.facts.value s) w.weight 0 ≡ gain_at table j s
  unfolding gain_at weight_at care_at value_at
  gain_is w e = rw e

  -- a term is worth its weight at most
  gain_most : gain_at table j s ≤ weight_at table j
  unfolding gain_at pick
  gain_most = by (meets (care_at table j) (value_at table j) s)
    where
      by : (b : Bool) → pick b (weight_at table j) 0 ≤ weight_at table j
      by true = omega arith
      by false = omega arith

module _ (table : List Weighted) (n s : ℕ) where
  -- the sum of the first j of n terms
  abbrev pub SumTo : ℕ → ℕ → Type 0
  SumTo sum j = (sum ≡ worth_of table j s) × (sum ≤ 65535 * j)

  pub sum_none : SumTo 0 0
  unfolding worth_of
  sum_none = (refl, omega arith)

  pub sum_more : (sum j more : ℕ) → Weighed table n → j < n → SumTo sum j → more ≡ gain_at table j s → SumTo (sum + more) (j + 1)
  unfolding worth_of
  sum_more sum j more h lt inv e =
      (rw (inv.0, e, add-one), omega (arith, gain_most table j s, h.small j lt))

  -- so the sum fits
  pub gain_small : (j more : ℕ) → Weighed table n → j < n → more ≡ gain_at table j s → more ≤ 65535
  gain_small j more h lt e = omega (arith, gain_most table j s, h.small j lt)

-- ---- the greatest of the first i states
module _ (table : List Weighted) (n : ℕ) (states : List ℕ) where
  abbrev value : ℕ → ℕ
  value i = worth_of table n (get_or states i 0)

  abbrev pub TopOf : ℕ → ℕ → ℕ → Type 0
  TopOf i u k = Greatest table n states i record { utility = u; at = k }

  pub top_one : (u : ℕ) → u ≡ value 0 → TopOf 1 u 0
  top_one u e =
      record {
        below = omega arith;
        attains = sym e;
        most = λ i lt. let z : i ≡ 0 = omega arith in rw (z, e) (omega arith);
        first = λ i lt. absurd (omega arith);
      }

  module _ (i u k v : ℕ) (top : TopOf i u k) (e : v ≡ value i) where
    pub top_new : u < v → TopOf (i + 1) v i
    top_new lt =
        record {
          below = omega arith;
          attains = sym e;
          most = below_more (λ (h : ℕ). value h ≤ v) i (λ h l. omega (arith, top.most h l)) (omega arith);
          first = λ h l. omega (arith, top.most h l);
        }

    pub top_old : v ≤ u → TopOf (i + 1) u k
    top_old le =
        record {
          below = omega (arith, top.below);
          attains = top.attains;
          most = below_more (λ (h : ℕ). value h ≤ u) i top.most (omega arith);
          first = top.first;
        }

  pub top_all : (i count u k : ℕ) → i ≡ count → TopOf i u k → TopOf count u k
  top_all i count u k e top = rw e at top
