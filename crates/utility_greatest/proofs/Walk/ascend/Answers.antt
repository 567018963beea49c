use native.Mathlib.Omega.{arith}
use Prim.Native.Nat.{max}
use mathlib.Core.Path.{◌≡◌, sym, ◌∙◌}
use Rattle.diagram_loops.specs.Stacks.{waiting}
use Rattle.diagram_loops.proofs.Tops.{length_top}
use Rattle.diagram_loops.proofs.Ways.{first_is, first_some, first_none, low_none, low_some}
use Rattle.utility_greatest.proofs.Walking.{risen_deep, risen_end, risen_turn, risen_number, risen_less, risen_larger, kept_ready}
use Rattle.utility_greatest.proofs.Walk.ascend.Goals as goal

pub last-requires : goal.last-requires
last-requires c =
    omega (arith, risen_deep c.loop-frame.invariant.risen c.requires.rises, length_top c.loop-frame.stack.frames c.loop-frame.stack.depth)

pub turn-requires-clause-some : goal.turn-requires-clause-some
turn-requires-clause-some c =
    let f = first_some (waiting c.loop-frame.stack) c.in-Some.frame (sym c.in-Some.ensures) in
    let r = risen_deep c.loop-frame.invariant.risen c.requires.rises in
    let n = length_top c.loop-frame.stack.frames c.loop-frame.stack.depth in
    (omega arith, omega arith)

pub returns-in_default-low-clause-turned : goal.returns-in_default-low-clause-turned
returns-in_default-low-clause-turned c =
    risen_turn c.loop-frame.invariant.risen c.requires.rises c.in-Some.frame _ (first_is _ _ (sym c.in-Some.ensures)) (low_none c.in-Some.frame (sym c.in_default-low.ensures)) _ c.loop-frame.invariant.ready _ c.turn.ensures.turned

pub pop-requires : goal.pop-requires
pop-requires c =
    omega (arith, first_some (waiting c.loop-frame.stack) c.in-Some.frame (sym c.in-Some.ensures), length_top c.loop-frame.stack.frames c.loop-frame.stack.depth)

pub loop-frame-smaller : goal.loop-frame-smaller
loop-frame-smaller c =
    let l = low_some c.in-Some.frame _ (sym c.in-Some-low.ensures) in
    risen_less c.loop-frame.invariant.risen c.requires.rises c.in-Some.frame _ (first_is _ _ (sym c.in-Some.ensures)) l.0 _ c.pop.ensures.less

pub loop-frame-preserved : goal.loop-frame-preserved
loop-frame-preserved c =
    let l = low_some c.in-Some.frame _ (sym c.in-Some-low.ensures) in
    let k = c.loop-frame.invariant in
    let e = first_is _ _ (sym c.in-Some.ensures) in
    let is : c.max-number.result ≡ max c.in-Some.frame.lo c.loop-frame.number = rw l.1 c.max-number.ensures in
    record {
      risen = risen_larger k.risen c.requires.rises c.in-Some.frame _ e l.0 _ is _ c.pop.ensures.less;
      ready = kept_ready _ _ _ _ _ _ (risen_number k.risen c.requires.rises c.in-Some.frame _ e l.0 _ is) c.keep.ensures k.ready;
      size = c.pop.ensures.size ∙ k.size;
    }

pub returns-clause-turned : goal.returns-clause-turned
returns-clause-turned c = risen_end c.loop-frame.invariant.risen c.requires.rises (first_none _ (sym c.in_default.ensures))
