-- What is left to write, from v on, makes the whole.
use Rattle.stand.proofs.Writes.{Sized}
use Rattle.stand.proofs.variables.Given as goal

abbrev pub invariant-loop-v : goal.invariant-loop-v
invariant-loop-v l = Sized l.initial.file l.d l.n l.file l.v
