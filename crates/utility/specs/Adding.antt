-- A weight added at the states of a cube. The cube is two numbers, the bits that it names and those of them that are to be 1; bit k is worth 2 ^ k.
use Rattle.std.specs.Prelude.{ℕ, zero, suc, ◌+◌, ◌-◌, ◌/◌, ◌%◌, ◌^◌, Bool, cond, ltb, leb, eqb}
use Rattle.diagrams.specs.Tree.{Tree, none, all, node, mk_t, low_t, high_t}

-- the tree with w added to every end value
unfoldable pub plus_t : ℕ → Tree → Tree
plus_t w none = none
plus_t w all = all
plus_t w (node b l h) = cond (ltb b 64) (mk_t b (plus_t w l) (plus_t w h)) (node (b + w) none all)

-- bit k of a number
unfoldable pub digit : ℕ → ℕ → ℕ
digit x k = x / 2 ^ k % 2

-- the cube has states whose bit k is 0: it does not name the bit, or wants it to be 0
unfoldable pub low_in : ℕ → ℕ → ℕ → Bool
low_in care value k = ltb (digit care k + digit value k) 2

-- the cube has states whose bit k is 1
unfoldable pub high_in : ℕ → ℕ → ℕ → Bool
high_in care value k = leb (digit care k) (digit value k)

-- a tree whose bits are k or more, of which m are bits of states, with w added at the states of the cube
unfoldable pub add_t : ℕ → ℕ → ℕ → ℕ → ℕ → Tree → Tree
add_t zero k care value w t = plus_t w t
add_t (suc m) k care value w t =
    cond (eqb (care / 2 ^ k) 0) (plus_t w t)
    (mk_t k (cond (low_in care value k) (add_t m (suc k) care value w (low_t k t)) (low_t k t)) (cond (high_in care value k) (add_t m (suc k) care value w (high_t k t)) (high_t k t)))

-- that tree, or the tree itself where the cube has none of its states; no task has more than 48 bits
unfoldable pub add_at : Bool → ℕ → ℕ → ℕ → ℕ → Tree → Tree
add_at fits k care value w t = cond fits (add_t (48 - k) k care value w t) t
