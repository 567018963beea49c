-- The random set begins in lists without entries.
use Rattle.std.proofs.Common.{arith, refl}
use Rattle.diagrams.specs.Store.{table}
use Rattle.diagrams.proofs.Empty.{store_empty}
use Rattle.diagrams.proofs.Unders.{under_none}
use Rattle.utility_cases.proofs.within.Goals as goal

pub random_set-requires-clause-ready : goal.random_set-requires-clause-ready
random_set-requires-clause-ready g c =
    let e = c.requires.even in
    let n = c.args.sets.now in
    let s = table n.bit.now n.low.now n.high.now n.heads.now n.chain.now 0 in
    record { store = store_empty _ _ _ _ _ e.low_length e.high_length e.short; within = omega arith; right = c.begin.ensures.for s (under_none 64 s refl) }
