use native.Mathlib.Omega.{arith}
use Rattle.writer.proofs.Writing.{put_none, put_room, put_more, put_done}
use Rattle.writer.proofs.put_sections.Goals as goal

pub loop-k-init : goal.loop-k-init
loop-k-init c =
    put_none _ _

pub copy-requires : goal.copy-requires
copy-requires c =
    rw (c.section.ensures, c.begin.ensures.is) (put_room _ _ _ _ c.requires.1 c.loop-k-test.true c.loop-k.invariant)

pub loop-k-preserved : goal.loop-k-preserved
loop-k-preserved c =
    rw (c.copy.ensures, c.section.ensures, c.begin.ensures.is) (put_more _ _ _ _ c.requires.1 c.loop-k-test.true c.loop-k.invariant)

pub returns : goal.returns
returns c =
    put_done _ _ _ _ (omega arith) c.loop-k.invariant
