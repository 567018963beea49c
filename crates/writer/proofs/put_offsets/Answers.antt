use mathlib.Core.Path.{refl}
use mathlib.Core.List.{flat_map}
use native.Mathlib.Omega.{arith}
use Rattle.task.specs.Bytes.{bytes32}
use Rattle.writer.specs.Canonical.{offsets}
use Rattle.writer.proofs.Overlays.{overlay_nothing}
use Rattle.writer.proofs.Writing.{put_behind}
use Rattle.writer.proofs.put_offsets.Goals as goal

pub returns : goal.returns
unfolding offsets flat_map
returns c =
    let h0 = overlay_nothing _ 12 in
    let h1 = put_behind _ _ _ _ bytes32 12 12 _ _ h0 c.put32.ensures c.begin.ensures.is refl (omega arith) in
    let h2 = put_behind _ _ _ _ bytes32 12 16 _ _ h1 c.put32-2.ensures c.begin-2.ensures.is refl (omega arith) in
    let h3 = put_behind _ _ _ _ bytes32 12 20 _ _ h2 c.put32-3.ensures c.begin-3.ensures.is refl (omega arith) in
    put_behind _ _ _ _ bytes32 12 24 _ _ h3 c.put32-4.ensures c.begin-4.ensures.is refl (omega arith)
