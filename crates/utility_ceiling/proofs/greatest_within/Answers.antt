use Rattle.diagrams.proofs.Rows.{widened_memo}
use Rattle.utility_ceiling.proofs.greatest_within.Goals as goal

pub greatest-requires-clause-memo : goal.greatest-requires-clause-memo
greatest-requires-clause-memo c = widened_memo _ _ c.widen.ensures _ (c.begin.ensures.for _ c.requires.by_index)
