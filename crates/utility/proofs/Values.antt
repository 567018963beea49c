-- The value of the utility diagram at the bits of a state is the state's utility. Assumes nothing.
use Prim.Native.Nat.{ℕ, ◌≤◌}
use mathlib.Core.Path.{◌≡◌, ◌∙◌}
use mathlib.Core.List.{List}
use native.Mathlib.Omega.{arith}
use Rattle.planning.specs.Model.{Task, state_utility}
use Rattle.planning.specs.Good.{Terms}
use Rattle.planning.specs.Coding.{bits, code, Valid}
use Rattle.planning.proofs.Values.{length_code}
use Rattle.search_theory.specs.Bits.{reward}
use Rattle.search_theory.proofs.Task.{all_terms}
use Rattle.utility.specs.Values.{value_at}
use Rattle.utility.specs.Stages.{utility_tree}
use Rattle.utility.proofs.Shapes.{value_diagram}

pub value_utility : (t : Task) (s : List ℕ) → Valid t.sizes s → Terms t.sizes t.terms → bits t.sizes ≤ 64 → value_at (utility_tree t) (code t.sizes s) ≡ state_utility t.terms s
unfolding utility_tree reward
value_utility t s v h le =
    value_diagram (bits t.sizes) 0 (reward t) (code t.sizes s) (omega (arith, length_code t.sizes s)) (omega arith) ∙ all_terms t.sizes t.terms s h v
