use Rattle.writer.proofs.Overlays.{Copied}
use Rattle.writer.proofs.copy.Given as goal

abbrev pub invariant-loop-i : goal.invariant-loop-i
invariant-loop-i l =
    Copied l.initial.out l.at l.bytes l.out l.i
