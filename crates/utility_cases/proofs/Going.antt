-- One set made after another: the lists can be gone on with, and earlier names stay. Assumes nothing.
use Prim.Native.Nat.{ℕ, ◌+◌, ◌<◌}
use mathlib.Core.Path.{refl}
use mathlib.Core.List.{List}
use native.Mathlib.Omega.{arith}
use Rattle.std.specs.Prelude.{Result, Ok, Err, IfOk}
use Rattle.diagrams.specs.Tree.{Tree}
use Rattle.diagrams.specs.Store.{Table, Store}
use Rattle.diagrams.specs.Memo.{MakesWith}
use Rattle.diagrams.specs.declared.Full.{Full}
use Rattle.diagrams.proofs.Steps.{done_count}
use Rattle.diagram_apply.specs.Operations.{Operands}
use Rattle.utility_cases.specs.Ready.{Ready}

module _ (s s' : Table) (memo' : List ℕ) (name : ℕ) (t : Tree) (m : MakesWith s s' memo' (Ok name) t) where
  pub goes : Ready s' memo' name
  goes = let d = m.makes.done refl in record { store = d.store; within = d.within; right = m.keeps refl }

  pub stays : Store s → (a : ℕ) → a < s.count + 2 → a < s'.count + 2
  stays st a h = omega (arith, done_count s s' st name t (m.makes.done refl))

-- what goes on after a set is made, if it is
pub goes_on : (s s' : Table) (memo' : List ℕ) (r : Result ℕ Full) (t : Tree) → MakesWith s s' memo' r t → IfOk r (λ n. Ready s' memo' n)
goes_on s s' memo' (Ok n) t m = goes s s' memo' n t m
goes_on s s' memo' (Err e) t m = tt

-- a set made, and the name of an earlier one
pub operands : (s s' : Table) (memo' : List ℕ) (name : ℕ) (t : Tree) → MakesWith s s' memo' (Ok name) t → Store s → (a : ℕ) → a < s.count + 2 → Operands s' memo' a name
operands s s' memo' name t m st a h =
    let g = goes s s' memo' name t m in
    record { store = g.store; right = g.right; a_below = stays s s' memo' name t m st a h; b_below = g.within }
