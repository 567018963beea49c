-- The utility diagram of a task: "made as the constant 0, then with each term added in turn; its entry count is the different nodes over all these stages,
-- end values included".
use Rattle.std.specs.Prelude.{ℕ, ◌+◌, Bool, List, [], ◌∷◌, length}
use Rattle.planning.specs.Connectives.{pick}
use Rattle.planning.specs.Model.{Term, Task}
use Rattle.planning.specs.Coding.{bits, fits, facts_lits}
use Rattle.diagrams.specs.Tree.{Tree, value_end, diagram, grow_all}
use Rattle.search_theory.specs.Bits.{reward}

-- the function f with the term's weight added where its facts hold
unfoldable pub plus_term : List ℕ → Term → (List Bool → ℕ) → List Bool → ℕ
plus_term ds t f σ = f σ + pick (fits (facts_lits ds t.facts) σ) t.weight 0

-- the functions of the stages after f, f among them
unfoldable pub stages_from : List ℕ → List Term → (List Bool → ℕ) → List Tree
stages_from ds [] f = diagram value_end (bits ds) 0 f ∷ []
stages_from ds (t ∷ ts) f = diagram value_end (bits ds) 0 f ∷ stages_from ds ts (plus_term ds t f)

unfoldable pub stages : Task → List Tree
stages t = stages_from t.sizes t.terms (λ σ. 0)

-- the entry count
unfoldable pub entry_count : Task → ℕ
entry_count t = length (grow_all [] (stages t))

-- the last stage
unfoldable pub utility_tree : Task → Tree
utility_tree t = diagram value_end (bits t.sizes) 0 (reward t)
