-- The first pair whose set holds a state. In a loop: what is left of the pairs, from k on, decides.
use Prim.Native.Nat.{ℕ, zero, suc, ◌+◌, ◌-◌, ◌≤◌, ◌<◌}
use mathlib.Core.Path.{◌≡◌, refl, sym, ap, ◌∙◌}
use mathlib.Core.Bool.{Bool, true, false}
use mathlib.Core.List.{List}
use native.Mathlib.Omega.{arith}
use native.Mathlib.Nat.{sub-zero, sub-eq-zero_of_le}
use native.Mathlib.Numerals.{add-one}
use lib.ListN.{get_or}
use Rattle.planning.specs.Connectives.{pick}
use Rattle.planning.specs.Coding.{word}
use Rattle.planning.proofs.Scan.{left}
use Rattle.diagrams.specs.Tree.{Tree, named}
use Rattle.search_theory.proofs.Bits.{member_word}
use Rattle.question.specs.Question.{in_set, place_from}
use Rattle.question.specs.PairSets.{held_at}
use Rattle.question.specs.Answers.{reached}
use Rattle.std.proofs.Common.{None}

module _ (costs steps : List ℕ) (holds : ℕ → Bool) (n : ℕ) where
  abbrev pub LeftFrom : ℕ → Type 0
  LeftFrom k = (k ≤ n) × (place_from costs steps holds n 0 ≡ place_from costs steps holds (n - k) k)

  pub place_none : LeftFrom 0
  place_none = (omega arith, rw sub-zero)

  pub place_more : (k : ℕ) → k < n → LeftFrom k → holds k ≡ false → LeftFrom (k + 1)
  unfolding place_from pick
  place_more k h inv e = (omega arith, inv.1 ∙ rw (left n k h, add-one) (ap (λ (t : Bool). pick t (reached (get_or costs k 0) (get_or steps k 0)) (place_from costs steps holds (n - suc k) (suc k))) e))

  pub place_stop : (k : ℕ) → k < n → LeftFrom k → holds k ≡ true → reached (get_or costs k 0) (get_or steps k 0) ≡ place_from costs steps holds n 0
  unfolding place_from pick
  place_stop k h inv e = sym (inv.1 ∙ rw (left n k h) (ap (λ (t : Bool). pick t (reached (get_or costs k 0) (get_or steps k 0)) (place_from costs steps holds (n - suc k) (suc k))) e))

  pub place_done : (k : ℕ) → n ≤ k → LeftFrom k → None ≡ place_from costs steps holds n 0
  unfolding place_from
  place_done k h inv = sym (inv.1 ∙ ap (λ (m : ℕ). place_from costs steps holds m k) (sub-eq-zero_of_le h))

-- two tests that agree find the same pair
pub place_same : (costs steps : List ℕ) (p q : ℕ → Bool) → ((i : ℕ) → p i ≡ q i) → (n i : ℕ) → place_from costs steps p n i ≡ place_from costs steps q n i
unfolding place_from
place_same costs steps p q e zero i = refl
place_same costs steps p q e (suc n) i = rw (e i, place_same costs steps p q e n (suc i))

-- ---- a state given as a number
pub held_in : (sets : List ℕ) (entries : List Tree) (σ : List Bool) (i : ℕ) → held_at sets entries (word σ) i ≡ in_set sets entries σ i
unfolding held_at in_set
held_in sets entries σ i = member_word (named entries (get_or sets i 0)) σ
