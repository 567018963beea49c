-- The ceiling: the greatest utility of any state whose variables have permitted values, reached or not; and the pairs of cost and steps up to
-- the first that attains it.
use Rattle.std.specs.Prelude.{ℕ, zero, suc, ◌≤◌, ◌<◌, max, ◌≡◌, List, [], ◌∷◌}
use Rattle.planning.specs.Model.{Task, state_utility}
use Rattle.planning.specs.Coding.{Valid}
use Rattle.planning.specs.Best.{Before, Place}

-- the greatest of f 0 to f (n − 1)
unfoldable pub greatest_below : ℕ → (ℕ → ℕ) → ℕ
greatest_below zero f = 0
greatest_below (suc n) f = max (greatest_below n f) (f n)

-- the greatest f of a list that has a value below its size for each variable
unfoldable pub greatest_over : List ℕ → (List ℕ → ℕ) → ℕ
greatest_over [] f = f []
greatest_over (d ∷ ds) f = greatest_below d (λ x. greatest_over ds (λ s. f (x ∷ s)))

unfoldable pub ceiling : Task → ℕ
ceiling t = greatest_over t.sizes (state_utility t.terms)

module _ (t : Task) where
  -- a state with permitted values has the utility c, and none has more
  pub record Greatest (c : ℕ) : Type 0 where
    pub state : List ℕ
    pub valid : Valid t.sizes state
    pub attains : state_utility t.terms state ≡ c
    pub most : (s : List ℕ) → Valid t.sizes s → state_utility t.terms s ≤ c

  -- the pair of cost c and steps k is made: its cost is at most the bound, and no state whose place is before it attains the ceiling
  pub record Due (c k : ℕ) : Type 0 where
    pub within : c ≤ t.bound
    pub below : (s : List ℕ) (d m : ℕ) → Valid t.sizes s → Place t s d m → Before d m c k → state_utility t.terms s < ceiling t
