-- What lists that pass 21's test say of their entries and names; and that lists of which all this holds pass it.
use Prim.Native.Nat.{ℕ, ◌+◌, ◌-◌, ◌≤◌, ◌<◌}
use mathlib.Core.Path.{◌≡◌, refl, sym}
use mathlib.Core.Bool.{Bool, true, false, true≢false}
use mathlib.Core.Logic.{⊎_elim}
use mathlib.Core.List.{List}
use native.Mathlib.Omega.{arith}
use native.Mathlib.Decide.{dec_lt}
use lib.Dec.{ltb, leb}
use lib.ListN.{length, get_or}
use borrow.Author.Tests.{lt-ltb, le-ltb, le-leb, ltb-true, ltb-false, leb-true, eqb-true, not-false}
use Rattle.planning.specs.Connectives.{◌and◌, ◌or◌}
use Rattle.planning.proofs.Guards.{and_go, or_go, or_stop, and_both, or_either}
use Rattle.planning.proofs.Scan.{every_at, every_all}
use Rattle.lent_lists.specs.Lists.{most_entries, lists_wrong, pairs_wrong, name_right, child_right, entry_right, entries_right, set_right, names_right, listed}

-- ---- the lengths
-- neither test holds where their disjunction does not
pub or_neither : (a b : Bool) → (a or b) ≡ false → (a ≡ false) × (b ≡ false)
unfolding ◌or◌
or_neither true b h = absurd (true≢false h)
or_neither false b h = (refl, h)

-- three lists that pass 12 are equally long, and not too long
pub equal_lengths : (l m n : ℕ) → lists_wrong l m n ≡ false → (l ≡ m) × (m ≡ n) × (l ≤ most_entries)
unfolding lists_wrong
equal_lengths l m n h =
    let p = or_neither _ _ h in
    let q = or_neither _ _ p.1 in
    (eqb-true _ _ (not-false _ p.0), eqb-true _ _ (not-false _ q.0), ltb-false _ _ q.1)

-- and so are the four lists of pairs
pub equal_pairs : (a b c d : ℕ) → pairs_wrong a b c d ≡ false → (a ≡ b) × (b ≡ c) × (c ≡ d) × (a ≤ most_entries)
unfolding pairs_wrong
equal_pairs a b c d h =
    let p = or_neither _ _ h in
    let q = or_neither _ _ p.1 in
    let r = or_neither _ _ q.1 in
    (eqb-true _ _ (not-false _ p.0), eqb-true _ _ (not-false _ q.0), eqb-true _ _ (not-false _ r.0), ltb-false _ _ r.1)

-- ---- a child
-- a child of the entry k is 0, 1 or an earlier entry
child_earlier : (bit : List ℕ) (k c : ℕ) → child_right bit k c ≡ true → c < k + 2
unfolding child_right
child_earlier bit k c h =
    ⊎_elim
    (λ (e : ltb c 2 ≡ true). omega (arith, ltb-true c 2 e))
    (λ (e : (ltb (c - 2) k and ltb (get_or bit k 0) (get_or bit (c - 2) 0)) ≡ true). omega (arith, ltb-true (c - 2) k (and_both _ _ e).0))
    (or_either _ _ h)

-- a child entry has a higher bit number
child_rises : (bit : List ℕ) (k c : ℕ) → child_right bit k c ≡ true → 2 ≤ c → get_or bit k 0 < get_or bit (c - 2) 0
unfolding child_right
child_rises bit k c h two =
    ⊎_elim
    (λ (e : ltb c 2 ≡ true). absurd (omega (arith, ltb-true c 2 e)))
    (λ (e : (ltb (c - 2) k and ltb (get_or bit k 0) (get_or bit (c - 2) 0)) ≡ true). ltb-true _ _ (and_both _ _ e).1)
    (or_either _ _ h)

child_right_lem : (bit : List ℕ) (k c : ℕ) → c < k + 2 → (2 ≤ c → get_or bit k 0 < get_or bit (c - 2) 0) → child_right bit k c ≡ true
unfolding child_right
child_right_lem bit k c earlier rises = by (dec_lt c 2)
  where
    by : Dec (c < 2) → (ltb c 2 or (ltb (c - 2) k and ltb (get_or bit k 0) (get_or bit (c - 2) 0))) ≡ true
    by (yes h) = sym (or_stop _ _ _ (lt-ltb c 2 h) refl)
    by (no h) = sym (or_go _ _ _ (le-ltb c 2 (omega arith)) (and_go _ _ _ (lt-ltb (c - 2) k (omega arith)) (sym (lt-ltb _ _ (rises (omega arith))))))

-- ---- a name
name_below : (k c : ℕ) → name_right k c ≡ true → c < k + 2
unfolding name_right
name_below k c h =
    ⊎_elim
    (λ (e : ltb c 2 ≡ true). omega (arith, ltb-true c 2 e))
    (λ (e : ltb (c - 2) k ≡ true). omega (arith, ltb-true (c - 2) k e))
    (or_either _ _ h)

name_right_lem : (k c : ℕ) → c < k + 2 → name_right k c ≡ true
unfolding name_right
name_right_lem k c h = by (dec_lt c 2)
  where
    by : Dec (c < 2) → (ltb c 2 or ltb (c - 2) k) ≡ true
    by (yes lt) = sym (or_stop _ _ _ (lt-ltb c 2 lt) refl)
    by (no ge) = sym (or_go _ _ _ (le-ltb c 2 (omega arith)) (sym (lt-ltb (c - 2) k (omega arith))))

-- ---- the whole test
-- the entries are in the lists and of a task of n bits; a child is earlier, and a child entry of a higher bit; the pairs are in their lists, and the
-- names of their sets below the count
pub record RightLists (n pairs : ℕ) (sets bit low high : List ℕ) (count : ℕ) : Type 0 where
  pub room : count ≤ length bit
  pub bit_below : (k : ℕ) → k < count → get_or bit k 0 < n
  pub low_earlier : (k : ℕ) → k < count → get_or low k 0 < k + 2
  pub low_rises : (k : ℕ) → k < count → 2 ≤ get_or low k 0 → get_or bit k 0 < get_or bit (get_or low k 0 - 2) 0
  pub high_earlier : (k : ℕ) → k < count → get_or high k 0 < k + 2
  pub high_rises : (k : ℕ) → k < count → 2 ≤ get_or high k 0 → get_or bit k 0 < get_or bit (get_or high k 0 - 2) 0
  pub pairs_room : pairs ≤ length sets
  pub name_below : (i : ℕ) → i < pairs → get_or sets i 0 < count + 2

module _ (n pairs : ℕ) (sets bit low high : List ℕ) (count : ℕ) where
  module _ (h : listed n pairs sets bit low high count ≡ true) where
    parts : (leb count (length bit) ≡ true) × (entries_right n bit low high count ≡ true) × (leb pairs (length sets) ≡ true) × (names_right sets pairs count ≡ true)
    unfolding listed
    parts =
        let p = and_both _ _ h in
        let q = and_both _ _ p.1 in
        let r = and_both _ _ q.1 in
        (p.0, q.0, r.0, r.1)

    entry : (k : ℕ) → k < count → (ltb (get_or bit k 0) n ≡ true) × (child_right bit k (get_or low k 0) ≡ true) × (child_right bit k (get_or high k 0) ≡ true)
    unfolding entries_right entry_right
    entry k lt =
        let p = and_both _ _ (every_at (entry_right n bit low high) count 0 parts.1 k (omega arith) (omega arith)) in
        let q = and_both _ _ p.1 in
        (p.0, q.0, q.1)

    set_name : (i : ℕ) → i < pairs → get_or sets i 0 < count + 2
    unfolding names_right set_right
    set_name i lt = name_below count (get_or sets i 0) (every_at (set_right sets count) pairs 0 parts.3 i (omega arith) (omega arith))

    pub listed_is : RightLists n pairs sets bit low high count
    listed_is =
        record {
          room = leb-true _ _ parts.0;
          bit_below = λ k lt. ltb-true _ _ (entry k lt).0;
          low_earlier = λ k lt. child_earlier bit k (get_or low k 0) (entry k lt).1;
          low_rises = λ k lt. child_rises bit k (get_or low k 0) (entry k lt).1;
          high_earlier = λ k lt. child_earlier bit k (get_or high k 0) (entry k lt).2;
          high_rises = λ k lt. child_rises bit k (get_or high k 0) (entry k lt).2;
          pairs_room = leb-true _ _ parts.2;
          name_below = set_name;
        }

  module _ (l : RightLists n pairs sets bit low high count) where
    entry_right_lem : (k : ℕ) → k < count → entry_right n bit low high k ≡ true
    unfolding entry_right
    entry_right_lem k lt =
        sym (and_go _ _ _ (lt-ltb _ _ (l.bit_below k lt))
        (and_go _ _ _ (child_right_lem bit k (get_or low k 0) (l.low_earlier k lt) (l.low_rises k lt))
        (sym (child_right_lem bit k (get_or high k 0) (l.high_earlier k lt) (l.high_rises k lt)))))

    pub listed_passes : listed n pairs sets bit low high count ≡ true
    unfolding listed entries_right names_right set_right
    listed_passes =
        sym (and_go _ _ _ (le-leb _ _ l.room)
        (and_go _ _ _ (every_all (entry_right n bit low high) count 0 (λ k from to. entry_right_lem k (omega arith)))
        (and_go _ _ _ (le-leb _ _ l.pairs_room)
        (sym (every_all (set_right sets count) pairs 0 (λ i from to. name_right_lem count (get_or sets i 0) (l.name_below i (omega arith))))))))
