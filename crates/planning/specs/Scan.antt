-- A test, or a value, at each number below n, from i on.
use Rattle.std.specs.Prelude.{ℕ, zero, suc, Bool, true, List, [], ◌∷◌}
use Rattle.planning.specs.Connectives.{◌and◌, pick}

-- the first of the n numbers from i at which the test fails, or the number after them
unfoldable pub first_bad : (ℕ → Bool) → ℕ → ℕ → ℕ
first_bad ok zero i = i
first_bad ok (suc n) i = pick (ok i) (first_bad ok n (suc i)) i

-- whether the test holds at each of the n numbers from i
unfoldable pub every : (ℕ → Bool) → ℕ → ℕ → Bool
every ok zero i = true
every ok (suc n) i = ok i and every ok n (suc i)

-- the values at the n numbers from i
unfoldable pub tab : {A : Type 0} → (ℕ → A) → ℕ → ℕ → List A
tab g zero i = []
tab g (suc n) i = g i ∷ tab g n (suc i)
