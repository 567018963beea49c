use mathlib.Core.Path.{sym}
use native.Mathlib.Omega.{arith}
use Rattle.planning.proofs.Guards.{wrong, right}
use Rattle.std.proofs.lemmas.Bool.{not_from_false, not_from_true}
use Rattle.walk.proofs.Steps.{step_17, step_18, step_19, step_on, applied, pre_is, cost_is, state_is}
use Rattle.walk.proofs.step.Goals as goal

pub returns-then-count-o-clause-answer : goal.returns-then-count-o-clause-answer
returns-then-count-o-clause-answer c =
    step_17 _ _ _ _ (omega (arith, c.requires.header.0))

pub returns-then-not-holds-clause-answer : goal.returns-then-not-holds-clause-answer
returns-then-not-holds-clause-answer c =
    step_18 _ _ _ _ (omega (arith, c.requires.header.0)) _ (pre_is _ _ _ c.operator_record-record.ensures _ _ c.preconditions.ensures c.precondition_count.ensures.is)
    (sym (wrong _ _ c.holds.ensures (not_from_false _ c.if-not-holds.true)))

pub returns-then-limit-cost-clause-answer : goal.returns-then-limit-cost-clause-answer
returns-then-limit-cost-clause-answer c =
    step_19 _ _ _ _ (omega (arith, c.requires.header.0)) _ (pre_is _ _ _ c.operator_record-record.ensures _ _ c.preconditions.ensures c.precondition_count.ensures.is)
    (sym (right _ _ c.holds.ensures (not_from_true _ c.if-not-holds.false)))
    _ (cost_is _ _ _ c.operator_record-record.ensures _ _ c.cost.ensures.is)
    (omega (arith, c.requires.header.1.is))

pub returns-clause-answer : goal.returns-clause-answer
returns-clause-answer c =
    step_on _ _ _ _ (omega (arith, c.requires.header.0)) _ (pre_is _ _ _ c.operator_record-record.ensures _ _ c.preconditions.ensures c.precondition_count.ensures.is)
    (sym (right _ _ c.holds.ensures (not_from_true _ c.if-not-holds.false)))
    _ (cost_is _ _ _ c.operator_record-record.ensures _ _ c.cost.ensures.is)
    (omega (arith, c.requires.header.1.is))

pub returns-clause-applied : goal.returns-clause-applied
returns-clause-applied c =
    applied _ _ 0 _ (omega (arith, c.requires.header.0)) _ (state_is _ _ _ c.operator_record-record.ensures _ _ _ _ c.apply.ensures c.effects.ensures c.effect_count.ensures.is)
