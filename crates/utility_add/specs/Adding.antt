-- The addition of a weight at the states of a cube, as a loop goes through it.
use Rattle.std.specs.Prelude.{ℕ, ◌+◌, ◌-◌, ◌≤◌, ◌<◌, ◌≡◌, ◌⊎◌, cond, List, get_or, eqb, ltb, Option, Some, None}
use Rattle.diagrams.specs.Tree.{Canon, Under}
use Rattle.diagrams.specs.Store.{Table, blank, tree}
use Rattle.diagrams.specs.Memo.{Stamped}
use Rattle.cube_bits.specs.Following.{Following}
use Rattle.diagram_loops.specs.Loops.{Meaning}
use Rattle.utility_add.specs.Adds.{Added}
use Rattle.utility_add.specs.Sums.{add_from}

-- a name whose bits are n or more, and the bit that the cube cares for next
pub record Addable (care w : ℕ) (s : Table) (n x k : ℕ) : Type 0 where
  pub below : x < s.count + 2
  pub level : ℕ
  pub from : n ≤ level
  pub order : Canon level (tree s x)
  pub room : Under (4294967296 - w) (tree s x)
  pub next : (k ≡ 65) ⊎ Following care level k

-- the cube has bits of states only, and the memo has right results of the operation with this stamp
pub record Right (care value w stamp : ℕ) (s : Table) (memo : List ℕ) : Type 0 where
  pub small : care < 281474976710656
  pub stamped : Stamped blank memo stamp (Added s care value w)

abbrev pub adding : ℕ → ℕ → ℕ → ℕ → Meaning
adding care value w stamp =
    record {
      result = λ s x k. add_from care value w k (tree s x);
      Fit = Addable care w;
      Own = λ s f. Unit {0};
      rank = λ x k. x + (65 - k);
      Right = Right care value w stamp;
    }

-- the root bit of an end value that takes the weight
abbrev pub ending_of : List ℕ → ℕ → ℕ → Option ℕ
ending_of bit x k =
    let b = get_or bit (x - 2) 0 in
    cond (eqb k 64) (cond (ltb x 2) None (cond (ltb b 64) None (Some b))) None
