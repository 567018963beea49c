use Prim.Native.Nat.{ℕ, ◌≤◌, ◌<◌}
use mathlib.Core.Path.{◌≡◌}
use lib.ListN.{length, get_or}
use Rattle.states_table.specs.Chains.{Reach}
use Rattle.states_table.proofs.TableView.seek.Given as goal

abbrev pub invariant-loop-link : goal.invariant-loop-link
invariant-loop-link l =
    (l.link ≤ l.self.count) × (l.link ≤ length l.self.links.now) × ((k : ℕ) → k < l.self.count → k < length l.self.links.now → get_or l.self.words.now k 0 ≡ l.s → Reach l.self.links.now l.link k)

abbrev pub decreases-loop-link : goal.decreases-loop-link
decreases-loop-link l =
    l.link
