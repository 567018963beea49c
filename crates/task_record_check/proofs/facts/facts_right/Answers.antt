use borrow.Author.Rules.{rules}
use borrow.Author.Tests.{tests}
use Rattle.planning.proofs.Ranges.{every_ran}
use Rattle.task.specs.Check.{fact_right, facts_right}
use Rattle.task_record_check.proofs.facts.facts_right.Goals as goal

pub returns : goal.returns
unfolding facts_right
returns c =
    every_ran (fact_right c.args.file.now c.args.facts.now c.args.used) c.args.places _ _ c.all.result c.all.ensures.ran (λ x q k. search (rules, tests)) (λ x q k. search (rules, tests))
