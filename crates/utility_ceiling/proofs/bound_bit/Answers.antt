use native.Mathlib.Omega.{arith}
use Rattle.diagrams.specs.Tree.{named, Canon}
use Rattle.utility_ceiling.proofs.Making.{node_fits, adds_one, adds_zero}
use Rattle.utility_ceiling.proofs.bound_bit.Goals as goal

pub unwrap-requires : goal.unwrap-requires
unwrap-requires c =
    let p = c.requires in
    node_fits _ _ _ _ _ p.filled p.next_within p.tight_within _ c.mk.ensures.made

pub returns-then-one-clause-adds : goal.returns-then-one-clause-adds
returns-then-one-clause-adds c =
    adds_one _ _ _ c.args.b c.args.next c.args.tight c.args.one c.if-one.true c.requires (rw c.unwrap.ensures at c.mk.ensures.made) c.mk.ensures.lists.bit_length

pub mk-requires-2-clause-fact : goal.mk-requires-2-clause-fact
unfolding named Canon
mk-requires-2-clause-fact c = (c.requires.tight_from, tt)

pub unwrap-requires-2 : goal.unwrap-requires-2
unwrap-requires-2 c =
    let p = c.requires in
    node_fits _ _ _ _ _ p.filled p.tight_within (omega arith) _ c.mk-2.ensures.made

pub returns-clause-adds : goal.returns-clause-adds
returns-clause-adds c =
    adds_zero _ _ _ c.args.b c.args.next c.args.tight c.args.one c.if-one.false c.requires (rw c.unwrap-2.ensures at c.mk-2.ensures.made) c.mk-2.ensures.lists.bit_length
