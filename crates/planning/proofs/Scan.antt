-- Laws of a scan. In a loop: what is left of it, from k on, is the whole. Of a scan that passes: each test holds.
use Prim.Native.Nat.{ℕ, zero, suc, ◌+◌, ◌-◌, ◌≤◌, ◌<◌}
use mathlib.Core.Path.{◌≡◌, refl, sym, ap, ◌∙◌}
use mathlib.Core.Bool.{Bool, true, false}
use mathlib.Core.Logic.{⊎_elim}
use native.Mathlib.Omega.{arith}
use native.Mathlib.Nat.{sub-zero, sub-eq-zero_of_le, eq-or-lt_of_le}
use native.Mathlib.Numerals.{add-one}
use Rattle.planning.specs.Connectives.{◌and◌, pick}
use Rattle.planning.specs.Scan.{first_bad, every}
use Rattle.planning.proofs.Guards.{and_both}

module _ (n k : ℕ) (h : k < n) where
  pub left : n - k ≡ suc (n - suc k)
  left = omega arith

module _ (ok : ℕ → Bool) (n : ℕ) where
  abbrev pub EveryFrom : ℕ → Type 0
  EveryFrom k = (k ≤ n) × (every ok n 0 ≡ every ok (n - k) k)

  pub every_none : EveryFrom 0
  every_none = (omega arith, rw sub-zero)

  pub every_more : (k : ℕ) → k < n → EveryFrom k → ok k ≡ true → EveryFrom (k + 1)
  unfolding every ◌and◌
  every_more k h inv e = (omega arith, inv.1 ∙ rw (left n k h, add-one) (ap (λ (t : Bool). t and every ok (n - suc k) (suc k)) e))

  pub every_stop : (k : ℕ) → k < n → EveryFrom k → ok k ≡ false → false ≡ every ok n 0
  unfolding every ◌and◌
  every_stop k h inv e = sym (inv.1 ∙ rw (left n k h) (ap (λ (t : Bool). t and every ok (n - suc k) (suc k)) e))

  pub every_done : (k : ℕ) → n ≤ k → EveryFrom k → true ≡ every ok n 0
  unfolding every
  every_done k h inv = sym (inv.1 ∙ ap (λ (m : ℕ). every ok m k) (sub-eq-zero_of_le h))

  abbrev pub BadFrom : ℕ → Type 0
  BadFrom k = (k ≤ n) × (first_bad ok n 0 ≡ first_bad ok (n - k) k)

  pub bad_none : BadFrom 0
  bad_none = (omega arith, rw sub-zero)

  pub bad_more : (k : ℕ) → k < n → BadFrom k → ok k ≡ true → BadFrom (k + 1)
  unfolding first_bad pick
  bad_more k h inv e = (omega arith, inv.1 ∙ rw (left n k h, add-one) (ap (λ (t : Bool). pick t (first_bad ok (n - suc k) (suc k)) k) e))

  pub bad_stop : (k : ℕ) → k < n → BadFrom k → ok k ≡ false → k ≡ first_bad ok n 0
  unfolding first_bad pick
  bad_stop k h inv e = sym (inv.1 ∙ rw (left n k h) (ap (λ (t : Bool). pick t (first_bad ok (n - suc k) (suc k)) k) e))

  pub bad_done : (k : ℕ) → n ≤ k → BadFrom k → k ≡ first_bad ok n 0
  unfolding first_bad
  bad_done k h inv = sym (inv.1 ∙ ap (λ (m : ℕ). first_bad ok m k) (sub-eq-zero_of_le h))

-- ---- a scan passes just where each test holds
pub every_at : (ok : ℕ → Bool) (n i : ℕ) → every ok n i ≡ true → (k : ℕ) → i ≤ k → k < i + n → ok k ≡ true
unfolding every
every_at ok zero i h k from to = absurd (omega arith)
every_at ok (suc n) i h k from to =
    let both = and_both (ok i) (every ok n (suc i)) h in
    ⊎_elim
    (λ (e : i ≡ k). rw (← e) both.0)
    (λ (lt : i < k). every_at ok n (suc i) both.1 k lt (omega arith))
    (eq-or-lt_of_le from)

pub every_all : (ok : ℕ → Bool) (n i : ℕ) → ((k : ℕ) → i ≤ k → k < i + n → ok k ≡ true) → every ok n i ≡ true
unfolding every ◌and◌
every_all ok zero i h = refl
every_all ok (suc n) i h =
    rw (h i (omega arith) (omega arith)) (every_all ok n (suc i) (λ k from to. h k (omega arith) (omega arith)))

-- ---- tests that agree at each number fail first at the same one
module _ (p q : ℕ → Bool) where
  first_from : (n i : ℕ) → ((k : ℕ) → i ≤ k → k < i + n → p k ≡ q k) → first_bad p n i ≡ first_bad q n i
  unfolding first_bad
  first_from zero i e = refl
  first_from (suc n) i e =
      rw (e i (omega arith) (omega arith)) (ap (λ (m : ℕ). pick (q i) m i) (first_from n (suc i) (λ k from to. e k (omega arith) (omega arith))))

  pub first_same : (m n : ℕ) → m ≡ n → ((k : ℕ) → k < m → p k ≡ q k) → first_bad p m 0 ≡ first_bad q n 0
  first_same m n c e = first_from m 0 (λ k from to. e k (omega arith)) ∙ rw c
