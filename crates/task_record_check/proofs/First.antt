-- A search among fewer than 65,536 records finds a number below that.
use Prim.Native.Nat.{ℕ, ◌<◌}
use mathlib.Core.Path.{◌≡◌}
use native.Mathlib.Omega.{arith}
use Rattle.std.specs.Prelude.{Option, Some, None, MatchOption}
use Rattle.task_record_check.specs.First.{IsFirst}

pub first_small : (found : Option ℕ) (first n : ℕ) → n < 65536 → MatchOption found (first ≡ n) (λ i. (i ≡ first) × (i < n)) → IsFirst found first n
first_small None first n few h = h
first_small (Some i) first n few h = (h.0, h.1, omega (arith, h.1))
