-- What is left to write, from i on, makes the whole.
use Rattle.stand.proofs.Writes.{Copied}
use Rattle.stand.proofs.copy.Given as goal

abbrev pub invariant-loop-i : goal.invariant-loop-i
invariant-loop-i l = Copied l.initial.file l.bytes l.at l.file l.i
