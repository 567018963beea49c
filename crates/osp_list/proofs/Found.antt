-- A plan that a search found fits its list.
use Prim.Native.Nat.{ℕ, ◌≤◌}
use mathlib.Core.List.{List}
use lib.ListN.{length}
use Rattle.std.proofs.Common.{Ok}
use Rattle.search_answer.specs.declared.Listing.{Listing}
use Rattle.search_answer.specs.Lent.{Lent}
use Rattle.search.specs.Leaves.{Searches}
use Rattle.search.proofs.Demands.{passed}

pub fits : (f : List ℕ) (before after : Lent) (l : Listing) → Searches f before after (Ok l) → l.steps ≤ length before.plan
fits f before after l s = (passed f before l s.answers).steps
