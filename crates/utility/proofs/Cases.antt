-- The entry counts of document 01's stand cases P and Q, by computation.
use Prim.Native.Nat.{ℕ}
use mathlib.Core.Path.{◌≡◌, refl}
use mathlib.Core.List.{[]}
use Rattle.planning.specs.Connectives.{◌and◌, pick}
use Rattle.planning.specs.Cases.{fact, P, Q}
use Rattle.planning.specs.Coding.{wide, width, bits, offset, bin, same_bit, fits, lits, fact_lits, facts_lits}
use Rattle.diagrams.specs.Tree.{same, mk_t, value_end, diagram, has, insert, grow, grow_all}
use Rattle.utility.specs.Stages.{plus_term, stages_from, stages, entry_count}

pub entries_p : (b : ℕ) → entry_count (P b) ≡ 6
unfolding entry_count stages stages_from plus_term value_end grow_all grow insert has diagram mk_t same fits same_bit facts_lits fact_lits lits bin width wide offset bits pick ◌and◌ P fact
entries_p b = refl

pub entries_q : (b : ℕ) → entry_count (Q b) ≡ 4
unfolding entry_count stages stages_from plus_term value_end grow_all grow insert has diagram mk_t same fits same_bit facts_lits fact_lits lits bin width wide offset bits pick ◌and◌ Q fact
entries_q b = refl

-- no terms: the constant 0 alone
pub entries_bare : entry_count (record { sizes = []; start = []; operators = []; terms = []; bound = 0 }) ≡ 1
unfolding entry_count stages stages_from value_end grow_all grow insert has diagram bits
entries_bare = refl
