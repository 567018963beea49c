use Rattle.utility_greatest.proofs.Growing.{most_begins}
use Rattle.utility_greatest.proofs.greatest.Goals as goal

pub most-requires-clause-fact : goal.most-requires-clause-fact
most-requires-clause-fact c = most_begins _ _ _ _ _ c.requires.memo c.stamp-stamp.ensures
