use native.Mathlib.Omega.{arith}
use mathlib.Core.Path.{◌≡◌}
use Rattle.writer.proofs.Sections.{begin_first}
use Rattle.writer.proofs.Writing.{next_begin, begin_read}
use Rattle.writer.proofs.begin.Goals as goal

pub loop-i-init : goal.loop-i-init
loop-i-init c =
    begin_first _

pub overflow_add-at : goal.overflow_add-at
overflow_add-at c =
    let next = next_begin _ c.requires.0 _ _ _ (omega arith) c.loop-i.invariant c.section.ensures in
    omega (arith, next.1)

pub loop-i-preserved : goal.loop-i-preserved
loop-i-preserved c =
    (next_begin _ c.requires.0 _ _ _ (omega arith) c.loop-i.invariant c.section.ensures).0

pub returns : goal.returns
returns c =
    let e : c.loop-i.i ≡ c.args.k = omega arith in
    begin_read _ c.requires.0 _ _ c.requires.1 (rw (← e) c.loop-i.invariant)
