-- The loop for the states of a value: what a look shows, how two names are parted, and what the memo has. Assumes nothing.
use Prim.Native.Nat.{ℕ, ◌+◌, ◌<◌}
use mathlib.Core.Path.{◌≡◌, refl, sym, ◌∙◌}
use mathlib.Core.Bool.{Bool, true, false, cond}
use mathlib.Core.List.{List}
use native.Mathlib.Omega.{arith}
use lib.Dec.{eqb}
use borrow.Author.Tests.{eq-eqb, ne_eqb}
use Rattle.std.specs.Prelude.{Some, None}
use Rattle.diagrams.specs.Tree.{Tree, none, mk_t, named}
use Rattle.diagrams.specs.Store.{Table, tree, Store, Done}
use Rattle.diagrams.specs.Memo.{Recalls, Keeps}
use Rattle.diagrams.specs.declared.Split.{Split}
use Rattle.diagrams.proofs.Making.{kept}
use Rattle.diagrams.proofs.Memos.{stamped_recall, stamped_remember}
use Rattle.diagram_loops.specs.Loops.{Parts, Kept}
use Rattle.diagram_loops.specs.declared.Waiting.{Waiting}
use Rattle.utility.specs.Within.{within_t, select_end, select_t}
use Rattle.utility.specs.Reading.{end_of, pair_of, Names}
use Rattle.utility.proofs.Within.{select_walks}
use Rattle.utility.proofs.Pairs.{end_value, no_end, pair, low_names, high_names, pair_from, walk_on}
use Rattle.utility_select.specs.Select.{Selected}
use Rattle.utility_select.specs.Selecting.{selecting, Right}

module _ (x : Table) (v stamp : ℕ) (s : Table) (st : Store s) (memo : List ℕ) (right : Right x v stamp s memo) (a d : ℕ) (la : a < s.count + 2) (ld : d < x.count + 2) where
  abbrev whole : Tree
  whole = select_t v (tree s a) (tree x d)

  shows : (r : ℕ) → r < s.count + 2 → tree s r ≡ whole → Done s s r whole
  shows r lt e = (kept s st r whole lt e).done refl

  -- the empty set
  pub looked_none : a ≡ 0 → Done s s 0 whole
  unfolding named select_t within_t select_end
  looked_none e = shows 0 (omega arith) (rw e (go (eqb 0 v)))
    where
      go : (b : Bool) → none ≡ cond b none none
      go true = refl
      go false = refl

  -- one value, which is the one asked for, or another
  pub looked_all : (w : ℕ) → end_of x.bit d ≡ Some w → w ≡ v → Done s s a whole
  unfolding select_t select_end
  looked_all w is eq = shows a la (sym (end_value (select_end v) mk_t (select_walks v) x right.values (tree s a) d w ld is ∙ rw (eq-eqb w v eq)))

  pub looked_other : (w : ℕ) → end_of x.bit d ≡ Some w → (w ≡ v → ⊥) → Done s s 0 whole
  unfolding select_t select_end named
  looked_other w is ne = shows 0 (omega arith) (sym (end_value (select_end v) mk_t (select_walks v) x right.values (tree s a) d w ld is ∙ rw (ne_eqb w v ne)))

  -- the memo has the result
  pub looked_recalled : (r : ℕ) → Recalls memo stamp a d (Some r) → Done s s r whole
  looked_recalled r rc = let q = stamped_recall s memo stamp (Selected x v s) a d r right.stamped rc in shows r q.r_below q.means

  -- many values: the sides of the pair are awaited
  pub looked_parted : end_of x.bit d ≡ None → (a ≡ 0 → ⊥) → (p : Split) → p ≡ pair_of s.bit s.low s.high x.bit x.low x.high a d → (n : ℕ) → Names s x n a d → Parts (selecting x v stamp) s n a d (record { a = a; b = d; part = p; lo = 4294967295 })
  unfolding select_t
  looked_parted is some p eq n f =
      let hd = no_end x.bit d is in
      let pr = pair s x st right.values a d la ld hd.0 hd.1 some p eq in
      record {
        awaits = refl;
        same = refl;
        node = walk_on s x st right.values a d la ld hd.0 hd.1 some (select_end v) mk_t (select_walks v) p pr;
        from = pair_from s x st right.values a d la ld hd.0 hd.1 some n f p pr;
        upto = pr.below;
        fit = f;
        low_fit = low_names s x n a d f p pr;
        high_fit = high_names s x n a d f p pr;
        low_less = pr.low_falls;
        high_less = pr.high_falls;
        own = tt;
      }

-- a result is put into the memo
pub kept_right : (x : Table) (v stamp : ℕ) (memo memo' : List ℕ) (w : Waiting) (r : ℕ) → Keeps memo memo' stamp w.a w.b r → Kept (selecting x v stamp) memo memo' w r
kept_right x v stamp memo memo' w r k =
    record {
      right = λ s n f o lt e q. record {
        values = q.values;
        stamped = stamped_remember s memo stamp (Selected x v s) memo' w.a w.b r q.stamped (record { a_below = f.a_below; r_below = lt; means = e }) k;
      };
    }
