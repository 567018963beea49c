-- The addition keeps the laws of the loop. Assumes nothing.
use Rattle.std.specs.Prelude.{ℕ, ◌-◌, ◌≤◌, ◌≡◌, List}
use mathlib.Core.Logic.{⊎_elim}
use native.Mathlib.Omega.{arith}
use borrow.Author.Tests.{eq-eqb, ne_eqb}
use Rattle.diagrams.specs.Tree.{Tree, none, all, node, Canon}
use Rattle.diagrams.specs.Store.{Table, blank, tree, Store, Done}
use Rattle.diagrams.proofs.Canonical.{canon_weaken}
use Rattle.diagrams.proofs.Steps.{done_tree, done_count}
use Rattle.diagrams.proofs.Memos.{stamped_weaken}
use Rattle.cube_bits.specs.Following.{Following}
use Rattle.diagram_loops.specs.Loops.{Lawful, Steady}
use Rattle.utility.proofs.Adds.{canon_add}
use Rattle.utility_add.specs.Adds.{Added}
use Rattle.utility_add.specs.Adding.{adding, Right}
use Rattle.utility_add.specs.Sums.{level_t, add_from}

pub level_range : (n k : ℕ) (t : Tree) → Canon n t → n ≤ k → Canon (level_t k t) t × ((n ≤ level_t k t) × (level_t k t ≤ k))
unfolding Canon level_t
level_range n k none c le = (tt, (le, omega arith))
level_range n k all c le = (tt, (le, omega arith))
level_range n k (node b l h) c le = ((omega arith, c.1, c.2, c.3), (omega (arith, c.0), omega arith))

-- the sum's bits are those of the tree
from_canon : (care value w n k : ℕ) (t : Tree) → Canon n t → Following care n k → Canon n (add_from care value w k t)
unfolding add_from
from_canon care value w n k t c y =
    let r = level_range n k t c y.from in
    rw (ne_eqb k 65 (omega (arith, y.upto))) (canon_weaken n (level_t k t) _ r.1.0 (canon_add care value w (48 - level_t k t) (level_t k t) t r.0))

outside_canon : (care value w n k : ℕ) (t : Tree) → Canon n t → k ≡ 65 → Canon n (add_from care value w k t)
unfolding add_from
outside_canon care value w n k t c e = rw (eq-eqb k 65 e) c

-- results stay as entries are added
added_grow : (s s' : Table) (st : Store s) (n : ℕ) (t : Tree) (d : Done s s' n t) (care value w a k r : ℕ) → Added s care value w a k r → Added s' care value w a k r
added_grow s s' st n t d care value w a k r q =
    let up = done_count s s' st n t d in
    record {
      a_below = omega (arith, q.a_below);
      r_below = omega (arith, q.r_below);
      means = rw (done_tree s s' st n t d a q.a_below, done_tree s s' st n t d r q.r_below) q.means;
    }

pub right_grow : (care value w stamp : ℕ) (s s' : Table) (memo : List ℕ) (st : Store s) (n : ℕ) (t : Tree) (d : Done s s' n t) → Right care value w stamp s memo → Right care value w stamp s' memo
right_grow care value w stamp s s' memo st n t d q =
    record { small = q.small; stamped = stamped_weaken blank blank memo stamp (Added s care value w) (Added s' care value w) (added_grow s s' st n t d care value w) q.stamped.base q.stamped }

pub add_lawful : (care value w stamp : ℕ) → Lawful (adding care value w stamp)
add_lawful care value w stamp =
    record {
      grows = λ s s' up old n x k f.
          let e = old x f.below in
          (rw e, record { below = omega (arith, f.below); level = f.level; from = f.from; order = rw e f.order; room = rw e f.room; next = f.next });
      owns = λ s s' up old f q. q;
      canon = λ s n x k f.
          canon_weaken n f.level _ f.from
          (⊎_elim (λ (e : k ≡ 65). outside_canon care value w f.level k (tree s x) f.order e) (λ (y : Following care f.level k). from_canon care value w f.level k (tree s x) f.order y) f.next);
    }

pub add_steady : (care value w stamp : ℕ) → Steady (adding care value w stamp)
add_steady care value w stamp =
    record {
      stays = λ s s' memo b l h r lt st d q. right_grow care value w stamp s s' memo st r _ d q;
      turns = λ s f r q. q;
    }
