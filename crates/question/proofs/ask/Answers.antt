use native.Mathlib.Omega.{arith}
use Rattle.question.proofs.Walking.{pair_sets}
use Rattle.question.proofs.ask.Goals as goal

pub first_place-requires : goal.first_place-requires
first_place-requires c =
    grind (arith, pair_sets c.bits.result c.args.pairs.costs.now c.args.pairs.steps.now c.args.pairs.sets.now c.args.pairs.wanted.now c.args.nodes.bit.now c.args.nodes.low.now c.args.nodes.high.now c.args.nodes.count c.args.pairs.count)
