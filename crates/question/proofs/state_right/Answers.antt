use mathlib.Core.Path.{◌∙◌}
use borrow.Author.Rules.{rules}
use borrow.Author.Tests.{tests}
use lib.ListN.{length}
use Rattle.planning.proofs.Ranges.{every_ran}
use Rattle.task.specs.Decode.{sizes}
use Rattle.question.specs.Question.{value_right}
use Rattle.question.proofs.States.{state_scanned}
use Rattle.question.proofs.state_right.Goals as goal

pub returns-then-state-variables : goal.returns-then-state-variables
returns-then-state-variables c =
    state_scanned c.args.file.now c.args.state.now (c.if-state-variables.true ∙ c.variables.ensures.is) c.all.result
    (every_ran (value_right (sizes c.args.file.now) c.args.state.now) (length c.args.state.now) _ _ c.all.result c.all.ensures.ran (λ x q k. search (rules, tests)) (λ x q k. search (rules, tests)))
