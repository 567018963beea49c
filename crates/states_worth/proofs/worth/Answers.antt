use mathlib.Core.Path.{refl, ◌∙◌}
use native.Mathlib.Omega.{arith}
use Rattle.states_worth.proofs.Sums.{gain_is, sum_none, sum_more, gain_small}
use Rattle.states_worth.proofs.worth.Goals as goal

pub loop-term-init : goal.loop-term-init
loop-term-init c =
    sum_none c.args.table.now 0 c.args.s

pub overflow_add-sum : goal.overflow_add-sum
overflow_add-sum c =
    let g = gain_small _ _ c.args.s c.loop-term.term-index c.gain-sum.result c.requires c.loop-term-test.true (c.gain-sum.ensures ∙ gain_is _ _ _ _ refl) in
    omega (arith, g, c.requires.few)

pub loop-term-preserved : goal.loop-term-preserved
loop-term-preserved c =
    sum_more _ _ _ _ _ _ c.requires c.loop-term-test.true c.loop-term.invariant (c.gain-sum.ensures ∙ gain_is _ _ _ _ refl)
