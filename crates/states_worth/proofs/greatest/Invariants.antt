use Rattle.states_worth.proofs.Sums.{TopOf}
use lib.ListN.{length}
use Rattle.states_worth.proofs.greatest.Given as goal

abbrev pub invariant-loop-i : goal.invariant-loop-i
invariant-loop-i l =
    TopOf l.table (length l.table) l.states l.i l.utility l.at
