use borrow.Author.Rules.{rules}
use borrow.Author.Tests.{tests}
use Rattle.planning.proofs.Ranges.{every_ran}
use Rattle.lent_lists.specs.Lists.{set_right, names_right}
use Rattle.lent_lists.proofs.names_right.Goals as goal

pub returns : goal.returns
unfolding names_right
returns c =
    every_ran (set_right c.args.sets.now c.args.count) c.args.pairs _ _ c.all.result c.all.ensures.ran (λ x q k. search (rules, tests)) (λ x q k. search (rules, tests))
