-- A weight added at the states of a cube, of which the next bit is told that it cares for.
use Rattle.std.specs.Prelude.{ℕ, ◌-◌, min, cond, eqb}
use Rattle.diagrams.specs.Tree.{Tree, none, all, node}
use Rattle.utility.specs.Adding.{add_t}

-- the lesser of the tree's root bit and k
unfoldable pub level_t : ℕ → Tree → ℕ
level_t k none = k
level_t k all = k
level_t k (node b l h) = min b k

-- the tree with w added at the states of the cube, where k is the next bit that the cube cares for, 64 where it cares for none, 65 where it has none of the states
unfoldable pub add_from : ℕ → ℕ → ℕ → ℕ → Tree → Tree
add_from care value w k t = cond (eqb k 65) t (add_t (48 - level_t k t) (level_t k t) care value w t)
