use Prim.Native.Nat.{ℕ, ◌<◌}
use lib.ListN.{get_or}
use Rattle.states_worth.specs.Worth.{nothing, IsTerm}
use Rattle.states_worth.proofs.tabulate.Given as goal

abbrev pub invariant-loop-j : goal.invariant-loop-j
invariant-loop-j l =
    (k : ℕ) → k < l.j → IsTerm l.file (get_or l.table k nothing) k
