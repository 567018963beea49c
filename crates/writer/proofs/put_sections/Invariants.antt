use Rattle.writer.proofs.Writing.{Put}
use Rattle.writer.proofs.put_sections.Given as goal

abbrev pub invariant-loop-k : goal.invariant-loop-k
invariant-loop-k l =
    Put l.file l.initial.out l.out l.k
