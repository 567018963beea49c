-- The last stage is the diagram of the utility of lists of bits; each stage is the one before with a term's cube added. Assumes nothing.
use Prim.Native.Nat.{ℕ, ◌+◌, ◌/◌, ◌≤◌}
use mathlib.Core.Path.{◌≡◌, refl, ◌∙◌}
use mathlib.Core.Bool.{Bool, true, false}
use mathlib.Core.List.{List, [], ◌∷◌}
use native.Mathlib.Omega.{arith}
use native.Mathlib.Nat.{div-one}
use Rattle.planning.specs.Connectives.{pick}
use Rattle.planning.specs.Model.{Term, Task, with_bound}
use Rattle.planning.specs.Pairs.{by_pairs}
use Rattle.planning.specs.Coding.{bits, offset, fits, fits_words, facts_lits, care_word, value_word, Facts, Rising}
use Rattle.planning.proofs.Facts.{facts_rising}
use Rattle.planning.proofs.Cubes.{fits_words_lem}
use Rattle.diagrams.specs.Tree.{Tree, none, value_end, diagram}
use Rattle.diagrams.proofs.Diagrams.{diagram_same}
use Rattle.search_theory.specs.Bits.{bit_utility, reward}
use Rattle.search_theory.specs.Stop.{pair_task}
use Rattle.utility.specs.Adding.{add_t}
use Rattle.utility.specs.Stages.{plus_term, stages_from, stages, utility_tree}
use Rattle.utility.proofs.Adds.{add_diagram}

-- the last of several trees
unfoldable pub last_of : Tree → List Tree → Tree
last_of t [] = t
last_of t (u ∷ us) = last_of u us

stages_last : (ds : List ℕ) (ts : List Term) (f : List Bool → ℕ) (t : Tree) → last_of t (stages_from ds ts f) ≡ diagram value_end (bits ds) 0 (λ σ. f σ + bit_utility ds ts σ)
unfolding last_of stages_from bit_utility plus_term
stages_last ds [] f t = diagram_same value_end (bits ds) 0 f (λ σ. f σ + 0) (λ σ _. omega arith)
stages_last ds (x ∷ xs) f t =
    stages_last ds xs (plus_term ds x f) (diagram value_end (bits ds) 0 f)
    ∙ diagram_same value_end (bits ds) 0 (λ σ. plus_term ds x f σ + bit_utility ds xs σ) (λ σ. f σ + bit_utility ds (x ∷ xs) σ) (λ σ _. omega arith)

-- the utility diagram is the last stage
pub last_stage : (t : Task) → last_of none (stages t) ≡ utility_tree t
unfolding stages utility_tree reward
last_stage t = stages_last t.sizes t.terms (λ σ. 0) none ∙ diagram_same value_end (bits t.sizes) 0 (λ σ. 0 + bit_utility t.sizes t.terms σ) (reward t) (λ σ _. omega arith)

-- the task that is searched has the task's
pub same_utility : (t : Task) → utility_tree (pair_task t) ≡ utility_tree t
unfolding utility_tree pair_task with_bound by_pairs reward
same_utility t = refl

pub at_most : (b : Bool) (w : ℕ) → pick b w 0 ≤ w
unfolding pick
at_most true w = omega arith
at_most false w = omega arith

-- what the stage after one with the function f is made of: the term's cube, added to the diagram of f
pub add_term : (ds : List ℕ) (t : Term) (f : List Bool → ℕ) → Facts ds 0 t.facts → bits ds ≤ 64 → add_t (bits ds) 0 (care_word (facts_lits ds t.facts)) (value_word (facts_lits ds t.facts)) t.weight (diagram value_end (bits ds) 0 f) ≡ diagram value_end (bits ds) 0 (plus_term ds t f)
unfolding plus_term offset
add_term ds t f h le =
    let ls = facts_lits ds t.facts in
    let r : Rising 0 (bits ds) ls = facts_rising ds 0 t.facts h in
    add_diagram (care_word ls) (value_word ls) t.weight (bits ds) 0 f (omega arith)
    ∙ diagram_same value_end (bits ds) 0 (λ σ. f σ + pick (fits_words (care_word ls / 1) (value_word ls / 1) σ) t.weight 0) (λ σ. f σ + pick (fits ls σ) t.weight 0)
    (λ σ e. rw (div-one (care_word ls), div-one (value_word ls), fits_words_lem σ ls (rw e r)))
