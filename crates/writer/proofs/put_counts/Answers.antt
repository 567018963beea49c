use mathlib.Core.Path.{refl}
use mathlib.Core.List.{flat_map}
use native.Mathlib.Omega.{arith}
use Rattle.task.specs.Bytes.{bytes16}
use Rattle.writer.specs.Canonical.{counts}
use Rattle.writer.proofs.Writing.{put_behind}
use Rattle.writer.proofs.put_counts.Goals as goal

pub returns : goal.returns
unfolding counts flat_map
returns c =
    let h1 = c.copy.ensures in
    let h2 = put_behind _ _ _ _ bytes16 0 4 _ _ h1 c.put16.ensures c.variables.ensures.is refl (omega arith) in
    let h3 = put_behind _ _ _ _ bytes16 0 6 _ _ h2 c.put16-2.ensures c.operators.ensures.is refl (omega arith) in
    let h4 = put_behind _ _ _ _ bytes16 0 8 _ _ h3 c.put16-3.ensures c.terms.ensures.is refl (omega arith) in
    put_behind _ _ _ _ bytes16 0 10 _ _ h4 c.put16-4.ensures c.bound.ensures.is refl (omega arith)
