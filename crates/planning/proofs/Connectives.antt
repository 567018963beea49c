-- What the connectives of the definitions say when they pass; and the three cases of two numbers.
use Prim.Native.Nat.{ℕ, ◌<◌}
use mathlib.Core.Path.{◌≡◌, refl}
use mathlib.Core.Bool.{Bool, true, false, false≢true}
use mathlib.Core.Logic.{◌⊎◌, inl, inr, ◌↔◌}
use native.Mathlib.Decide.{dec_lt}
use native.Mathlib.Omega.{arith}
use lib.Dec.{T}
use Rattle.planning.specs.Connectives.{◌and◌, ◌or◌}

pub t_true : (b : Bool) → T b ↔ (b ≡ true)
t_true true = (λ h. refl, λ h. tt)
t_true false = (λ h. absurd h, λ h. absurd (false≢true h))

pub t_and : (a b : Bool) → T (a and b) ↔ (T a × T b)
unfolding ◌and◌
t_and true b = (λ h. (tt, h), λ h. h.1)
t_and false b = (λ h. absurd h, λ h. h.0)

pub t_or : (a b : Bool) → T (a or b) ↔ (T a ⊎ T b)
unfolding ◌or◌
t_or true b = (λ h. inl tt, λ h. tt)
t_or false b = (λ h. inr h, λ h. by h)
  where
    by : ⊥ ⊎ T b → T b
    by (inl x) = absurd x
    by (inr x) = x

pub and_assoc : (a b c : Bool) → ((a and b) and c) ≡ (a and (b and c))
unfolding ◌and◌
and_assoc true b c = refl
and_assoc false b c = refl

pub cases_lt : (a b : ℕ) → (a < b) ⊎ (a ≡ b) ⊎ (b < a)
cases_lt a b = by (dec_lt a b) (dec_lt b a)
  where
    by : Dec (a < b) → Dec (b < a) → (a < b) ⊎ (a ≡ b) ⊎ (b < a)
    by (yes h) k = inl h
    by (no h) (yes k) = inr (inr k)
    by (no h) (no k) = inr (inl (omega arith))
