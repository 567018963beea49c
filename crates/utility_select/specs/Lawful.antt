-- The selection keeps the laws of the loop. Assumes nothing.
use Rattle.std.specs.Prelude.{ℕ}
use native.Mathlib.Omega.{arith}
use Rattle.diagrams.specs.Tree.{Tree, mk_t, Under}
use Rattle.diagrams.specs.Store.{Table, tree, Store, Done}
use Rattle.diagrams.proofs.Steps.{done_tree, done_count}
use Rattle.diagrams.proofs.Unders.{under_mk_t}
use Rattle.diagrams.proofs.Memos.{memo_grow, stamped_weaken}
use Rattle.diagram_loops.specs.Loops.{Lawful, Steady}
use Rattle.utility.proofs.Within.{canon_select}
use Rattle.utility_select.specs.Select.{Selected}
use Rattle.utility_select.specs.Selecting.{selecting}

-- results stay as entries are added
select_grow : (x : Table) (v : ℕ) (s s' : Table) (st : Store s) (n : ℕ) (t : Tree) (dn : Done s s' n t) (a d r : ℕ) → Selected x v s a d r → Selected x v s' a d r
select_grow x v s s' st n t dn a d r q =
    let up = done_count s s' st n t dn in
    record {
      a_below = omega (arith, q.a_below);
      r_below = omega (arith, q.r_below);
      means = rw (done_tree s s' st n t dn a q.a_below, done_tree s s' st n t dn r q.r_below) q.means;
    }

pub select_lawful : (x : Table) (v stamp : ℕ) → Lawful (selecting x v stamp)
select_lawful x v stamp =
    record {
      grows = λ s s' up old n a d f.
          let e = old a f.a_below in
          (rw e, record { a_below = omega (arith, f.a_below); d_below = f.d_below; a_from = rw e f.a_from; d_from = f.d_from });
      owns = λ s s' up old w q. q;
      canon = λ s n a d f. canon_select v n (tree s a) (tree x d) f.a_from f.d_from;
    }

pub select_steady : (x : Table) (v stamp : ℕ) → Steady (selecting x v stamp)
select_steady x v stamp =
    record {
      stays = λ s s' memo b l h r lt st dn q.
          let u : Under 64 (mk_t b (tree s l) (tree s h)) = under_mk_t 64 b (tree s l) (tree s h) lt (q.stamped.base.states l) (q.stamped.base.states h) in
          record {
            values = q.values;
            stamped = stamped_weaken s s' memo stamp (Selected x v s) (Selected x v s') (select_grow x v s s' st r _ dn) (memo_grow s s' st r _ dn u memo q.stamped.base) q.stamped;
          };
      turns = λ s w r q. q;
    }
