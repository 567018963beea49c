use borrow.Author.Rules.{rules}
use borrow.Author.Tests.{tests}
use Rattle.planning.proofs.Ranges.{first_ran}
use Rattle.task.specs.Check.{variable_right}
use Rattle.task_record_check.proofs.First.{first_small}
use Rattle.task_record_check.proofs.first_bad_variable.Goals as goal

pub returns : goal.returns
returns c =
    let found = first_ran (variable_right c.args.file.now) c.variables.result _ _ c.find.result c.find.ensures.ran (λ x q k. search (rules, tests)) (λ x q k. search (rules, tests)) in
    rw (← c.variables.ensures.is) (first_small _ _ _ c.variables.ensures.small found)
