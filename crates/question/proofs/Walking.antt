-- Lists that pass 12 and 21 can be walked.
use Prim.Native.Nat.{ℕ}
use mathlib.Core.Path.{◌≡◌}
use mathlib.Core.Bool.{true, false}
use mathlib.Core.List.{List}
use native.Mathlib.Omega.{arith}
use lib.ListN.{length}
use Rattle.lent_lists.specs.Lists.{lists_wrong, pairs_wrong, listed}
use Rattle.lent_lists.proofs.Passing.{equal_lengths, equal_pairs, listed_is}
use Rattle.question.specs.PairSets.{PairSets}

pub pair_sets : (n : ℕ) (costs steps sets wanted bit low high : List ℕ) (count pairs : ℕ) → pairs_wrong (length costs) (length steps) (length sets) (length wanted) ≡ false → lists_wrong (length bit) (length low) (length high) ≡ false → listed n pairs sets bit low high count ≡ true → PairSets costs steps sets bit low high count pairs
pair_sets n costs steps sets wanted bit low high count pairs equal right passes =
    let l = listed_is n pairs sets bit low high count passes in
    let p = equal_pairs _ _ _ _ equal in
    let e = equal_lengths _ _ _ right in
    record {
      walkable =
          record {
            bit_room = l.room;
            low_room = omega (arith, l.room, e.0);
            high_room = omega (arith, l.room, e.0, e.1);
            low_earlier = l.low_earlier;
            high_earlier = l.high_earlier;
          };
      costs_room = omega (arith, l.pairs_room, p.0, p.1);
      steps_room = omega (arith, l.pairs_room, p.1);
      sets_room = l.pairs_room;
      names = l.name_below;
    }
