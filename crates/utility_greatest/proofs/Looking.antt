-- The greatest value within a set: what a look shows, and that no number is as large as the mark of what waits. Assumes nothing.
use Prim.Native.Nat.{ℕ, zero, suc, ◌+◌, ◌-◌, ◌≤◌, ◌<◌, max}
use mathlib.Core.Path.{◌≡◌, refl, sym, ◌∙◌}
use mathlib.Core.Bool.{Bool, true, false, cond}
use mathlib.Core.Logic.{⊎_elim}
use mathlib.Core.List.{List}
use native.Mathlib.Omega.{arith}
use native.Mathlib.Numerals.{add-one}
use lib.ListN.{get_or}
use lib.Dec.{ltb, eqb}
use borrow.Author.Tests.{eqb-true, eqb-false}
use Rattle.std.specs.Prelude.{Some, None}
use Rattle.diagrams.specs.Tree.{Tree, none, same, named}
use Rattle.diagrams.specs.Store.{Table, tree, Store}
use Rattle.diagrams.specs.Memo.{Recalls}
use Rattle.diagrams.specs.declared.Split.{Split}
use Rattle.diagrams.proofs.Trees.{same_false, test}
use Rattle.diagrams.proofs.Memos.{stamped_recall}
use Rattle.utility.specs.Within.{within_t, most_end, most_t}
use Rattle.utility.specs.Reading.{end_of, pair_of, Names}
use Rattle.utility.proofs.Within.{most_walks}
use Rattle.utility.proofs.Pairs.{not_none, end_value, no_end, pair, low_names, high_names, pair_from, walk_on}
use Rattle.utility_greatest.specs.Greatest.{MostOf}
use Rattle.utility_greatest.specs.Walking.{sets, values, number, Ready, Parts}
use Rattle.utility_greatest.specs.declared.Walk.{Walk}

none_most : (s x : Table) (d : ℕ) → 0 ≡ most_t (tree s 0) (tree x d)
unfolding named most_t within_t most_end same
none_most s x d = refl

module _ (w : Walk) (memo : List ℕ) (q : Ready w memo) (a d : ℕ) (la : a < w.set.count + 2) (ld : d < w.utility.count + 2) where
  -- the empty set
  pub looked_none : a ≡ 0 → 0 ≡ number w a d
  looked_none e = rw e (none_most (sets w) (values w) d)

  -- the memo has the number
  pub looked_recalled : (r : ℕ) → Recalls memo w.stamp a d (Some r) → r ≡ number w a d
  looked_recalled r rc = (stamped_recall (sets w) memo w.stamp (MostOf (sets w) (values w)) a d r q.right rc).is

  module _ (some : a ≡ 0 → ⊥) where
    -- one value
    pub looked_end : (v : ℕ) → end_of (values w).bit d ≡ Some v → v + 1 ≡ number w a d
    unfolding most_t most_end
    looked_end v is =
        add-one v
        ∙ sym (end_value most_end (λ _ y z. max y z) most_walks (values w) q.value_store (tree (sets w) a) d v ld is ∙ rw (same_false (tree (sets w) a) none (not_none (sets w) q.set_store a la some)))

    -- many values: the sides of the pair are awaited
    pub looked_parted : end_of (values w).bit d ≡ None → (p : Split) → p ≡ pair_of (sets w).bit (sets w).low (sets w).high (values w).bit (values w).low (values w).high a d → (n : ℕ) → Names (sets w) (values w) n a d → Parts w n a d (record { a = a; b = d; part = p; lo = 4294967295 })
    unfolding most_t
    looked_parted is p eq n f =
        let s = sets w in
        let x = values w in
        let hd = no_end x.bit d is in
        let pr = pair s x q.set_store q.value_store a d la ld hd.0 hd.1 some p eq in
        record {
          a_is = refl;
          d_is = refl;
          awaits = refl;
          joins = sym (walk_on s x q.set_store q.value_store a d la ld hd.0 hd.1 some most_end (λ _ y z. max y z) most_walks p pr);
          from = pair_from s x q.set_store q.value_store a d la ld hd.0 hd.1 some n f p pr;
          upto = pr.below;
          low_names = low_names s x n a d f p pr;
          high_names = high_names s x n a d f p pr;
          low_less = pr.low_falls;
          high_less = pr.high_falls;
        }

-- values are bits, which are 32-bit numbers, less 64
end_most : (t : Tree) (v : ℕ) → most_end t v ≤ suc v
unfolding most_end
end_most t v = go (same t none)
  where
    go : (b : Bool) → cond b 0 (suc v) ≤ suc v
    go true = omega arith
    go false = omega arith

-- a name stands for an end value or for none
data Ending (bit : List ℕ) (d : ℕ) : Type 0 where
  value : (v : ℕ) → end_of bit d ≡ Some v → v < 4294967232 → Ending bit d
  inner : end_of bit d ≡ None → Ending bit d

ending : (bit : List ℕ) → ((i : ℕ) → get_or bit i 0 < 4294967296) → (d : ℕ) → Ending bit d
ending bit narrow d =
    ⊎_elim
    (λ (e : ltb d 2 ≡ true). value 0 (rw e) (omega arith))
    (λ (e : ltb d 2 ≡ false).
    ⊎_elim
    (λ (f : ltb (get_or bit (d - 2) 0) 64 ≡ true). inner (rw (e, f)))
    (λ (f : ltb (get_or bit (d - 2) 0) 64 ≡ false). value (get_or bit (d - 2) 0 - 64) (rw (e, f)) (omega (arith, narrow (d - 2))))
    (test (ltb (get_or bit (d - 2) 0) 64)))
    (test (ltb d 2))

module _ (s x : Table) (st : Store s) (sx : Store x) (narrow : (i : ℕ) → get_or x.bit i 0 < 4294967296) where
  small_to : (k a d : ℕ) → a + d < k → a < s.count + 2 → d < x.count + 2 → most_t (tree s a) (tree x d) < 4294967295
  unfolding most_t
  small_to zero a d lt la ld = absurd (omega arith)
  small_to (suc k) a d lt la ld =
      ⊎_elim
      (λ (z : eqb a 0 ≡ true). rw (eqb-true a 0 z) (omega (arith, none_most s x d)))
      (λ (z : eqb a 0 ≡ false).
      elim (ending x.bit narrow d) [
        | value v is lt ↦ omega (arith, end_value most_end (λ _ y z. max y z) most_walks x sx (tree s a) d v ld is, end_most (tree s a) v)
        | inner is ↦
            let some = eqb-false a 0 z in
            let hd = no_end x.bit d is in
            let p = pair_of s.bit s.low s.high x.bit x.low x.high a d in
            let q = pair s x st sx a d la ld hd.0 hd.1 some p refl in
            omega (
              arith,
              walk_on s x st sx a d la ld hd.0 hd.1 some most_end (λ _ y z. max y z) most_walks p q,
              small_to k p.al p.bl (omega (arith, q.low_falls)) (omega (arith, q.of_set.low_le)) (omega (arith, q.of_values.low_le)),
              small_to k p.ah p.bh (omega (arith, q.high_falls)) (omega (arith, q.of_set.high_le)) (omega (arith, q.of_values.high_le)),
            )
      ])
      (test (eqb a 0))

  -- no number is the mark of what waits
  pub small : (a d : ℕ) → a < s.count + 2 → d < x.count + 2 → most_t (tree s a) (tree x d) < 4294967295
  small a d la ld = small_to (suc (a + d)) a d (omega arith) la ld
