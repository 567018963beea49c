use native.Mathlib.Omega.{arith}
use Rattle.diagrams.specs.Store.{table_of, blank}
use Rattle.diagrams.proofs.Memos.{stamp_fresh}
use Rattle.diagrams.proofs.Rows.{widened_memo}
use Rattle.task.specs.Decode.{task_of, sizes}
use Rattle.utility_add.specs.Adds.{Added}
use Rattle.utility_build.proofs.Terms.{term_small, term_asks, term_added}
use Rattle.utility_build.proofs.add_term.Goals as goal

pub term_weight-weight-requires : goal.term_weight-weight-requires
term_weight-weight-requires c =
    omega (arith, term_small c.args.file.now c.requires.0.right c.args.t c.requires.1)

pub add-requires-clause-asks : goal.add-requires-clause-asks
unfolding task_of sizes
add-requires-clause-asks c =
    term_asks c.args.file.now c.requires.0.right c.args.t c.requires.1 c.term_cube-facts.result c.term_cube-facts.ensures c.term_weight-weight.result c.term_weight-weight.ensures.is c.term_weight-weight.ensures.small (table_of c.args.nodes.now) c.args.memo.now c.args.a c.requires.0

pub add-requires-clause-fact : goal.add-requires-clause-fact
add-requires-clause-fact c =
    stamp_fresh blank c.widen.new.memo c.stamp-stamp.new.memo c.stamp-stamp.result (Added (table_of c.args.nodes.now) c.term_cube-facts.result.care c.term_cube-facts.result.value c.term_weight-weight.result) (widened_memo c.args.memo.now c.widen.new.memo c.widen.ensures blank c.requires.0.slots) c.stamp-stamp.ensures

pub returns-clause-adds : goal.returns-clause-adds
unfolding task_of sizes
returns-clause-adds c =
    term_added c.args.file.now c.requires.0.right c.args.t c.requires.1 c.term_cube-facts.result c.term_cube-facts.ensures c.term_weight-weight.result c.term_weight-weight.ensures.is c.term_weight-weight.ensures.small (table_of c.args.nodes.now) c.args.memo.now c.args.a c.requires.0 (table_of c.add.new.nodes) c.add.new.memo c.stamp-stamp.result c.add.result c.add.ensures.adds
