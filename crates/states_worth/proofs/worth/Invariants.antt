use lib.ListN.{length}
use Rattle.states_worth.proofs.Sums.{SumTo}
use Rattle.states_worth.proofs.worth.Given as goal

abbrev pub invariant-loop-term : goal.invariant-loop-term
invariant-loop-term l =
    SumTo l.table (length l.table) l.s l.sum l.term-index
