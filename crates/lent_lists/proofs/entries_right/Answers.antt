use borrow.Author.Rules.{rules}
use borrow.Author.Tests.{tests}
use Rattle.planning.proofs.Ranges.{every_ran}
use Rattle.lent_lists.specs.Lists.{entry_right, entries_right}
use Rattle.lent_lists.proofs.entries_right.Goals as goal

pub returns : goal.returns
unfolding entries_right
returns c =
    every_ran (entry_right c.args.n c.args.bit.now c.args.low.now c.args.high.now) c.args.count _ _ c.all.result c.all.ensures.ran (λ x q k. search (rules, tests)) (λ x q k. search (rules, tests))
