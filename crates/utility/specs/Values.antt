-- The utility diagram is a tree as the state sets are: an end value v is the node with the bit 64 + v. No bit of a state has the number 64, so end values stand
-- below all bits of states, are ordered and reduced like any node, and are counted as entries.
use Rattle.std.specs.Prelude.{ℕ, ◌-◌, Bool, cond, List, ltb}
use Rattle.diagrams.specs.Tree.{Tree, none, all, node, bit_at}

-- the value at a state's bits
unfoldable pub value_at : Tree → List Bool → ℕ
value_at none σ = 0
value_at all σ = 0
value_at (node b l h) σ = cond (ltb b 64) (cond (bit_at σ b) (value_at h σ) (value_at l σ)) (b - 64)
