-- The test of a state (20): the code's reads give it, and a state that passes has a value below its number of values for each variable.
use Prim.Native.Nat.{ℕ, suc, ◌≤◌, ◌<◌}
use mathlib.Core.Path.{◌≡◌, refl, sym, ◌∙◌}
use mathlib.Core.Bool.{Bool, true, false}
use mathlib.Core.List.{List, [], ◌∷◌}
use native.Mathlib.Omega.{arith}
use lib.Dec.{ltb}
use lib.ListN.{length, get_or}
use borrow.Author.Tests.{eqb-true, ltb-true, eq-eqb, ne_eqb}
use Rattle.planning.specs.Coding.{bits, Valid}
use Rattle.planning.proofs.Guards.{and_both, and_go, and_stop}
use Rattle.planning.proofs.Scan.{every_at}
use Rattle.planning.specs.Scan.{every}
use Rattle.task.specs.Bytes.{byte}
use Rattle.task.specs.Format.{variables, size}
use Rattle.task.specs.Decode.{sizes}
use Rattle.task.proofs.Goodness.{size_at, length_sizes}
use Rattle.task.proofs.Acceptance.{sound}
use Rattle.task.specs.Limits.{most_bits}
use Rattle.task.specs.Check.{accepted}
use Rattle.question.specs.Question.{value_right, state_right}

pub value_is : (f state : List ℕ) (v x d : ℕ) → v < variables f → x ≡ byte state v → d ≡ size f v → ltb x d ≡ value_right (sizes f) state v
unfolding value_right byte
value_is f state v x d h e q = rw (e, q, size_at f v h) refl

valid : (ds s : List ℕ) → length s ≡ length ds → ((v : ℕ) → v < length ds → get_or s v 0 < get_or ds v 0) → Valid ds s
valid [] [] l h = tt
valid [] (x ∷ s) l h = absurd (omega arith)
valid (d ∷ ds) [] l h = absurd (omega arith)
valid (d ∷ ds) (x ∷ s) l h = (h 0 (omega arith), valid ds s (omega arith) (λ v lt. h (suc v) (omega arith)))

pub state_valid : (ds s : List ℕ) → state_right ds s ≡ true → Valid ds s
unfolding state_right value_right
state_valid ds s h =
    let p = and_both _ _ h in
    valid ds s (eqb-true _ _ p.0) (λ v lt. ltb-true _ _ (every_at (value_right ds s) (length ds) 0 p.1 v (omega arith) (omega arith)))

pub state_length : (ds s : List ℕ) → state_right ds s ≡ true → length s ≡ length ds
unfolding state_right
state_length ds s h = eqb-true _ _ (and_both _ _ h).0

-- ---- what the state's word asks, of an accepted file and a state that passes
pub few_bits : (f : List ℕ) → accepted f ≡ true → bits (sizes f) ≤ most_bits
few_bits f a = (sound f a).few_bits

pub state_long : (f state : List ℕ) → state_right (sizes f) state ≡ true → length state ≡ variables f
state_long f state right = state_length (sizes f) state right ∙ length_sizes f

-- ---- the scan of the values: of a state that has not one for each variable, and of one that has
module _ (f state : List ℕ) where
  pub state_short : (length state ≡ variables f → ⊥) → false ≡ state_right (sizes f) state
  unfolding state_right
  state_short d = and_stop _ _ _ (ne_eqb _ _ (λ q. d (q ∙ length_sizes f))) refl

  pub state_scanned : length state ≡ variables f → (r : Bool) → r ≡ every (value_right (sizes f) state) (length state) 0 → r ≡ state_right (sizes f) state
  unfolding state_right
  state_scanned long r e =
      let q : length state ≡ length (sizes f) = long ∙ sym (length_sizes f) in
      and_go _ _ _ (eq-eqb _ _ q) (rw (← q) e)
