use mathlib.Core.Path.{◌≡◌}
use Rattle.writer.specs.Canonical.{begin}
use Rattle.writer.proofs.begin.Given as goal

abbrev pub invariant-loop-i : goal.invariant-loop-i
invariant-loop-i l =
    l.at ≡ begin l.file l.i
