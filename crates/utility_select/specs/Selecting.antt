-- The states of a value, as a loop goes through a set and a utility diagram.
use Rattle.std.specs.Prelude.{ℕ, ◌+◌, List}
use Rattle.diagrams.specs.Store.{Table, tree, Store}
use Rattle.diagrams.specs.Memo.{Stamped}
use Rattle.diagram_loops.specs.Loops.{Meaning}
use Rattle.utility.specs.Within.{select_t}
use Rattle.utility.specs.Reading.{Names}
use Rattle.utility_select.specs.Select.{Selected}

-- the utility diagram's lists are a store, and the memo has right results of the operation with this stamp
pub record Right (x : Table) (v stamp : ℕ) (s : Table) (memo : List ℕ) : Type 0 where
  pub values : Store x
  pub stamped : Stamped s memo stamp (Selected x v s)

abbrev pub selecting : Table → ℕ → ℕ → Meaning
selecting x v stamp =
    record {
      result = λ s a d. select_t v (tree s a) (tree x d);
      Fit = λ s n a d. Names s x n a d;
      Own = λ s w. Unit {0};
      rank = λ a d. a + d;
      Right = Right x v stamp;
    }
