-- The ceiling is the utility of a state with permitted values, and no such state, so no applicable sequence, has more.
use Prim.Native.Nat.{ℕ, zero, suc, ◌≤◌, ◌<◌, max}
use mathlib.Core.Path.{◌≡◌, refl, ◌∙◌}
use mathlib.Core.List.{List, [], ◌∷◌}
use native.Mathlib.Decide.{ℕ_discrete, dec_le}
use native.Mathlib.Omega.{arith}
use lib.Dec.{T}
use Rattle.planning.specs.Model.{Task, state_utility, can_apply, next, applicable, end, utility}
use Rattle.planning.specs.Coding.{Valid}
use Rattle.planning.specs.Ceiling.{greatest_below, greatest_over, ceiling, Greatest}
use Rattle.planning.specs.Good.{Good}
use Rattle.planning.proofs.Moves.{next_valid}
use Rattle.planning.proofs.Connectives.{t_and}

-- ---- the greatest of some numbers

below_above : (n : ℕ) (f : ℕ → ℕ) (x : ℕ) → x < n → f x ≤ greatest_below n f
unfolding greatest_below
below_above zero f x lt = absurd (omega arith)
below_above (suc n) f x lt = by (ℕ_discrete x n) (below_above n f x)
  where
    by : Dec (x ≡ n) → (x < n → f x ≤ greatest_below n f) → f x ≤ max (greatest_below n f) (f n)
    by (yes e) rec = rw e (omega arith)
    by (no d) rec = omega (arith, rec (omega arith))

below_attained : (n : ℕ) (f : ℕ → ℕ) → 0 < n → (x : ℕ) × (x < n) × (f x ≡ greatest_below n f)
unfolding greatest_below
below_attained zero f lt = absurd (omega arith)
below_attained (suc n) f lt = by (dec_le (greatest_below n f) (f n)) (below_attained n f)
  where
    first : (m : ℕ) → n ≡ m → (f n < greatest_below n f) → 0 < n
    first zero e h = let z : greatest_below n f ≡ 0 = rw e in absurd (omega arith)
    first (suc m) e h = omega arith

    by : Dec (greatest_below n f ≤ f n) → (0 < n → (x : ℕ) × (x < n) × (f x ≡ greatest_below n f)) → (x : ℕ) × (x < suc n) × (f x ≡ max (greatest_below n f) (f n))
    by (yes le) rec = (n, omega arith, omega arith)
    by (no gt) rec = let r = rec (first n refl (omega arith)) in (r.0, omega (arith, r.1), omega (arith, r.2))

-- ---- over the states with permitted values

over_above : (ds : List ℕ) (f : List ℕ → ℕ) (s : List ℕ) → Valid ds s → f s ≤ greatest_over ds f
unfolding greatest_over
over_above [] f [] v = omega arith
over_above [] f (x ∷ s) v = absurd v
over_above (d ∷ ds) f [] v = absurd v
over_above (d ∷ ds) f (x ∷ s) v =
    omega (arith, over_above ds (λ r. f (x ∷ r)) s v.1, below_above d (λ y. greatest_over ds (λ r. f (y ∷ r))) x v.0)

-- some state has permitted values, so one attains the greatest
over_attained : (ds : List ℕ) (f : List ℕ → ℕ) (s : List ℕ) → Valid ds s → (r : List ℕ) × Valid ds r × (f r ≡ greatest_over ds f)
unfolding greatest_over
over_attained [] f [] v = ([], tt, refl)
over_attained [] f (x ∷ s) v = absurd v
over_attained (d ∷ ds) f [] v = absurd v
over_attained (d ∷ ds) f (x ∷ s) v =
    let y = below_attained d (λ z. greatest_over ds (λ r. f (z ∷ r))) (omega (arith, v.0)) in
    let r = over_attained ds (λ r. f (y.0 ∷ r)) s v.1 in
    (y.0 ∷ r.0, (y.1, r.1), r.2 ∙ y.2)

module _ (t : Task) where
  -- no state with permitted values exceeds the ceiling
  pub ceiling_above : (s : List ℕ) → Valid t.sizes s → state_utility t.terms s ≤ ceiling t
  unfolding ceiling
  ceiling_above s v = over_above t.sizes (state_utility t.terms) s v

  module _ (𝓖 : Good t) where
    -- and one attains it
    pub ceiling_attained : (s : List ℕ) × Valid t.sizes s × (state_utility t.terms s ≡ ceiling t)
    unfolding ceiling
    ceiling_attained = over_attained t.sizes (state_utility t.terms) t.start 𝓖.start

    pub ceiling_greatest : Greatest t (ceiling t)
    ceiling_greatest = let a = ceiling_attained in record { state = a.0; valid = a.1; attains = a.2; most = ceiling_above }

    -- an applicable sequence ends in a state with permitted values
    end_valid : (s p : List ℕ) → Valid t.sizes s → T (applicable t s p) → Valid t.sizes (end t s p)
    unfolding applicable end
    end_valid s [] v a = v
    end_valid s (o ∷ p) v a =
        let b = (t_and (can_apply t o s) (applicable t (next t o s) p)).0 a in
        end_valid (next t o s) p (next_valid t 𝓖 o s v b.0) b.1

    -- so none has more utility
    pub utility_ceiling : (p : List ℕ) → T (applicable t t.start p) → utility t p ≤ ceiling t
    unfolding utility
    utility_ceiling p a = ceiling_above (end t t.start p) (end_valid t.start p 𝓖.start a)
