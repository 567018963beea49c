-- Laws of rows that are tabulated, each in the direction in which a need asks it.
use Prim.Native.Nat.{ℕ, zero, suc, ◌+◌, ◌-◌, ◌≤◌, ◌<◌}
use mathlib.Core.Path.{◌≡◌, refl, ap, ◌∙◌}
use mathlib.Core.List.{List, [], ◌∷◌, ◌++◌}
use native.Mathlib.Omega.{arith}
use native.Mathlib.Nat.{sub-eq-zero_of_le, add-zero, add-suc, suc-add}
use native.Mathlib.Numerals.{add-one}
use lib.ListN.{length}
use Rattle.planning.specs.Scan.{tab}
use Rattle.planning.proofs.Scan.{left}

module _ {A : Type 0} (g : ℕ → A) where
  pub tab_more : (n k : ℕ) → k < n → tab g (n - k) k ≡ g k ∷ tab g (n - (k + 1)) (k + 1)
  unfolding tab
  tab_more n k h = rw (left n k h, add-one)

  pub tab_done : (n k : ℕ) → n ≤ k → tab g (n - k) k ≡ []
  unfolding tab
  tab_done n k h = ap (λ (m : ℕ). tab g m k) (sub-eq-zero_of_le h)

  pub length_tab : (n i : ℕ) → length (tab g n i) ≡ n
  unfolding tab
  length_tab zero i = refl
  length_tab (suc n) i = ap suc (length_tab n (suc i))

  pub tab_snoc : (n i : ℕ) → tab g (suc n) i ≡ tab g n i ++ (g (i + n) ∷ [])
  unfolding tab
  tab_snoc zero i = rw add-zero
  tab_snoc (suc n) i = rw (add-suc i n, ← suc-add i n) (ap (λ (l : List A). g i ∷ l) (tab_snoc n (suc i)))

-- equal values at each number make equal rows
module _ {A : Type 0} (g h : ℕ → A) where
  tab_from : (n i : ℕ) → ((k : ℕ) → i ≤ k → k < i + n → g k ≡ h k) → tab g n i ≡ tab h n i
  unfolding tab
  tab_from zero i e = refl
  tab_from (suc n) i e =
      rw (e i (omega arith) (omega arith)) (ap (λ (l : List A). h i ∷ l) (tab_from n (suc i) (λ k from to. e k (omega arith) (omega arith))))

  pub tab_same : (m n : ℕ) → m ≡ n → ((k : ℕ) → k < m → g k ≡ h k) → tab g m 0 ≡ tab h n 0
  tab_same m n c e = tab_from m 0 (λ k from to. e k (omega arith)) ∙ rw c
