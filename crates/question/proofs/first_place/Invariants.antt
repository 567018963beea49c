use Rattle.diagrams.specs.Tree.{trees}
use Rattle.question.specs.PairSets.{held_at}
use Rattle.question.proofs.Places.{LeftFrom}
use Rattle.question.proofs.first_place.Given as goal

abbrev pub invariant-loop-i : goal.invariant-loop-i
invariant-loop-i l =
    LeftFrom l.pairs.costs.now l.pairs.steps.now (held_at l.pairs.sets.now (trees l.nodes.bit.now l.nodes.low.now l.nodes.high.now l.nodes.count) l.state) l.pairs.count l.i
