-- What a utility diagram has within a set of states: its greatest value there, and the states that have a given value.
use Rattle.std.specs.Prelude.{ℕ, suc, ◌-◌, max, cond, ltb, eqb}
use Rattle.std.proofs.Math.Option.{Option, some}
use Rattle.diagrams.specs.Tree.{Tree, none, all, node, same, mk_t}

-- a walk through a set and a utility diagram: `end` is what it gives of the states of a set that all have one value,
-- `join` what it gives of a bit from what it gave of the two sides
module _ {A : Type 0} (end : Tree → ℕ → A) (join : ℕ → A → A → A) where
  unfoldable pub whole_t : Tree → A
  whole_t none = end all 0
  whole_t all = end all 0
  whole_t (node c m k) = cond (ltb c 64) (join c (whole_t m) (whole_t k)) (end all (c - 64))

  unfoldable pub within_t : Tree → Tree → A
  within_t none u = end none 0
  within_t all u = whole_t u
  within_t (node b l h) u =
      elim u [
        | none ↦ end (node b l h) 0
        | all ↦ end (node b l h) 0
        | node c (m → fm) (k → fk) ↦
            cond (ltb c 64)
            (cond (ltb b c) (join b (within_t l (node c m k)) (within_t h (node c m k)))
            (cond (ltb c b) (join c fm fk) (join b (within_t l m) (within_t h k))))
            (end (node b l h) (c - 64))
      ]

-- 0 for no states, else the value and 1
unfoldable pub most_end : Tree → ℕ → ℕ
most_end t v = cond (same t none) 0 (suc v)

-- the greatest value, and 1, that the diagram u has at the states of t; 0 where t has none
unfoldable pub most_t : Tree → Tree → ℕ
most_t t u = within_t most_end (λ _ x y. max x y) t u

unfoldable pub select_end : ℕ → Tree → ℕ → Tree
select_end x t v = cond (eqb v x) t none

-- the states of t at which the diagram u has the value x
unfoldable pub select_t : ℕ → Tree → Tree → Tree
select_t x t u = within_t (select_end x) mk_t t u

-- 0 for nothing, else the value and 1
unfoldable pub as_number : Option ℕ → ℕ
as_number Option.none = 0
as_number (some v) = suc v
