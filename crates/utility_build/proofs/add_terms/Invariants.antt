use Rattle.diagrams.specs.Store.{table_of, SameLists}
use Rattle.utility_build.proofs.Stages.{TermsAdded}
use Rattle.utility_build.proofs.add_terms.Given as goal

abbrev pub invariant-loop-t : goal.invariant-loop-t
invariant-loop-t l =
    TermsAdded l.file (table_of l.initial.nodes) (table_of l.nodes) l.memo l.name l.t × SameLists l.initial.nodes l.nodes
