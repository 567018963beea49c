-- The entry count is the number of different entries of the stages, end values included: any list that has each of them once, and nothing
-- else, is as long; and an end value is an entry of a stage exactly if the stage's function takes that value.
use Prim.Native.Nat.{ℕ, zero, suc, ◌+◌, ◌≤◌, ◌<◌}
use mathlib.Core.Path.{◌≡◌, refl, ap}
use mathlib.Core.Bool.{Bool, true, false, ◌&&◌, ◌||◌, false≢true}
use mathlib.Core.List.{List, [], ◌∷◌}
use mathlib.Core.Logic.{⊎_elim, ◌↔◌}
use native.Mathlib.Omega.{arith}
use lib.Dec.{eqb}
use lib.ListN.{length}
use borrow.Author.Tests.{eq-eqb, ne_eqb, eqb-true}
use Rattle.diagrams.specs.Tree.{Tree, node, same, mk_t, has, diagram, value_end}
use Rattle.diagrams.proofs.Trees.{mk_t_same, mk_t_node}
use Rattle.diagrams.proofs.Counting.{Apart}
use Rattle.planning.specs.Model.{Task}
use Rattle.search_theory.specs.Made.{inner, has_inner}
use Rattle.search_theory.proofs.Counted.{count_grow_all}
use Rattle.utility.specs.Stages.{stages, entry_count}
use Rattle.utility.proofs.Shapes.{equal}

-- the entry count is the length of any list that has each node and end value of the stages once
pub entry_count_lem : (t : Task) (ns : List Tree) → Apart ns → ((x : Tree) → has ns x ≡ has_inner (stages t) x) → length ns ≡ entry_count t
unfolding entry_count
entry_count_lem t ns a s = count_grow_all (stages t) ns a s

-- an end value has itself alone for an entry
inner_end : (u v : ℕ) → (inner (value_end u) (value_end v) ≡ true) ↔ (u ≡ v)
unfolding inner same value_end
inner_end u v = (λ h. into (eqb (64 + u) (64 + v)) refl h, λ e. rw (e, eq-eqb (64 + v) (64 + v) refl))
  where
    into : (b : Bool) → eqb (64 + u) (64 + v) ≡ b → ((b && (true && true)) || (false || false)) ≡ true → u ≡ v
    into true e h = omega (arith, eqb-true (64 + u) (64 + v) e)
    into false e h = absurd (false≢true h)

-- a node of a state's bit is no end value
inner_node : (k : ℕ) (l h : Tree) (v : ℕ) → k < 64 → inner (node k l h) (value_end v) ≡ (inner l (value_end v) || inner h (value_end v))
unfolding inner same value_end
inner_node k l h v lt = rw (ne_eqb k (64 + v) (λ e. absurd (omega arith)))

-- a node made of two sides has the end values of both, also where it is left out because they are equal
inner_mk_t : (k : ℕ) (l h : Tree) (v : ℕ) → k < 64 → inner (mk_t k l h) (value_end v) ≡ (inner l (value_end v) || inner h (value_end v))
inner_mk_t k l h v lt =
    ⊎_elim
    (λ (e : l ≡ h). rw (mk_t_same k l h e, e) (twice (inner h (value_end v))))
    (λ (n : l ≡ h → ⊥). rw (mk_t_node k l h n) (inner_node k l h v lt))
    (equal l h)
  where
    twice : (a : Bool) → a ≡ (a || a)
    twice true = refl
    twice false = refl

-- the function takes the value v at some list of n bits
abbrev pub Takes : ℕ → (List Bool → ℕ) → ℕ → Type 0
Takes n f v = (σ : List Bool) × (length σ ≡ n) × (f σ ≡ v)

-- it does so exactly if it does with one first bit or the other
takes_either : (n : ℕ) (f : List Bool → ℕ) (v : ℕ) (a b : Bool) → (a ≡ true) ↔ Takes n (λ σ. f (false ∷ σ)) v → (b ≡ true) ↔ Takes n (λ σ. f (true ∷ σ)) v
    → ((a || b) ≡ true) ↔ Takes (suc n) f v
takes_either n f v true b low high = (λ h. let p = low.0 refl in (false ∷ p.0, ap suc p.1, p.2), λ h. refl)
takes_either n f v false b low high = (λ h. let p = high.0 h in (true ∷ p.0, ap suc p.1, p.2), λ h. back h.0 h.1 h.2)
  where
    back : (σ : List Bool) → length σ ≡ suc n → f σ ≡ v → b ≡ true
    back [] e h = absurd (omega arith)
    back (false ∷ σ) e h = absurd (false≢true (low.1 (σ, omega arith, h)))
    back (true ∷ σ) e h = high.1 (σ, omega arith, h)

-- an end value is an entry of the diagram of a function exactly if the function takes that value
pub end_value : (n k : ℕ) (f : List Bool → ℕ) (v : ℕ) → k + n ≤ 64 → (inner (diagram value_end n k f) (value_end v) ≡ true) ↔ Takes n f v
unfolding diagram
end_value zero k f v le = (λ h. ([], refl, (inner_end (f []) v).0 h), λ h. (inner_end (f []) v).1 (empty h.0 h.1 h.2))
  where
    empty : (σ : List Bool) → length σ ≡ 0 → f σ ≡ v → f [] ≡ v
    empty [] e h = h
    empty (b ∷ σ) e h = absurd (omega arith)
end_value (suc n) k f v le =
    rw (inner_mk_t k (diagram value_end n (suc k) (λ σ. f (false ∷ σ))) (diagram value_end n (suc k) (λ σ. f (true ∷ σ))) v (omega arith))
    (takes_either n f v _ _ (end_value n (suc k) (λ σ. f (false ∷ σ)) v (omega arith)) (end_value n (suc k) (λ σ. f (true ∷ σ)) v (omega arith)))
