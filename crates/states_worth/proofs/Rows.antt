-- The terms of a file in the table. Assumes nothing.
use Prim.Native.Nat.{ℕ, ◌≤◌}
use mathlib.Core.Path.{◌≡◌}
use mathlib.Core.Bool.{true}
use mathlib.Core.List.{List}
use Rattle.task.specs.Format.{terms}
use Rattle.task.specs.Check.{accepted}
use Rattle.task.proofs.Acceptance.{sound}

-- an accepted file has few terms
pub few_terms : (f : List ℕ) → accepted f ≡ true → terms f ≤ 256
few_terms f a = (sound f a).few_terms
