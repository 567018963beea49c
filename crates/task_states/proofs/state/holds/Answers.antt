use mathlib.Core.Path.{◌∙◌}
use borrow.Author.Rules.{rules}
use borrow.Author.Tests.{tests}
use Rattle.planning.proofs.Ranges.{every_ran}
use Rattle.task_states.proofs.StateLaws.{holds_every}
use Rattle.task_states.specs.States.{met}
use Rattle.task_states.proofs.state.holds.Goals as goal

pub returns : goal.returns
returns c =
    every_ran (met c.args.state.now c.args.row.now) c.args.n _ _ c.all.result c.all.ensures.ran (λ x q k. search (rules, tests)) (λ x q k. search (rules, tests))
    ∙ holds_every _ _ _
