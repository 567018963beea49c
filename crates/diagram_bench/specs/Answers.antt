-- An answer for C says what an operation made.
use Rattle.std.specs.Prelude.{ℕ, cond, Result, Ok, Err}
use Rattle.diagrams.specs.declared.Full.{Full}
use Rattle.diagram_bench.specs.declared.Answer.{Answer}

abbrev pub made_of : Answer → Result ℕ Full
made_of r = cond r.full (Err (record {})) (Ok r.name)
