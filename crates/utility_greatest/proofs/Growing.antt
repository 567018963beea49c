-- The results that the walk for the greatest value remembers, from one walk to the next: a fresh stamp has none, and they stay right as the table of sets grows. Assumes nothing.
use Prim.Native.Nat.{ℕ, ◌+◌, ◌≤◌, ◌<◌}
use mathlib.Core.Path.{◌≡◌}
use mathlib.Core.List.{List}
use native.Mathlib.Omega.{arith}
use Rattle.diagrams.specs.Tree.{Under}
use Rattle.diagrams.specs.Store.{Table, tree}
use Rattle.diagrams.specs.Memo.{Memo, Stamped, Stamps}
use Rattle.diagrams.proofs.Memos.{memo_extends, stamped_weaken, stamp_fresh}
use Rattle.utility_greatest.specs.Greatest.{MostOf}

-- a fresh stamp has no results yet
pub most_begins : (s x : Table) (memo memo' : List ℕ) (stamp : ℕ) → Memo s memo → Stamps memo memo' stamp → Stamped s memo' stamp (MostOf s x)
most_begins s x memo memo' stamp m st = stamp_fresh s memo memo' stamp (MostOf s x) m st

-- a result stays right as entries are added
most_of_grows : (s s' x : Table) → s.count ≤ s'.count → ((m : ℕ) → m < s.count + 2 → tree s' m ≡ tree s m) → (a d r : ℕ) → MostOf s x a d r → MostOf s' x a d r
most_of_grows s s' x more old a d r q = record { below = omega (arith, q.below); is = rw (old a q.below) q.is }

-- so do all under the stamp
pub most_grows : (s s' x : Table) (memo : List ℕ) (stamp : ℕ) → s.count ≤ s'.count → ((m : ℕ) → m < s.count + 2 → tree s' m ≡ tree s m) → ((n : ℕ) → Under 64 (tree s' n)) → Stamped s memo stamp (MostOf s x) → Stamped s' memo stamp (MostOf s' x)
most_grows s s' x memo stamp more old low m = stamped_weaken s s' memo stamp (MostOf s x) (MostOf s' x) (most_of_grows s s' x more old) (memo_extends s s' more old low memo m.base) m
