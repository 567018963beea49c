-- One term added to a stage: what adding asks, and that it makes the next stage. Assumes nothing.
use Prim.Native.Nat.{ℕ, suc, ◌+◌, ◌-◌, ◌*◌, ◌^◌, ◌≤◌, ◌<◌}
use mathlib.Core.Path.{◌≡◌, ◌∙◌}
use mathlib.Core.Bool.{true}
use mathlib.Core.List.{List}
use native.Mathlib.Omega.{arith}
use native.Mathlib.Nat.{div-eq_of_lt, zero-add}
use Rattle.planning.specs.Coding.{bits, offset, Lit, facts_lits, Facts, Rising}
use Rattle.planning.proofs.Facts.{facts_rising}
use Rattle.planning.proofs.Cubes.{care_lt, rising_more}
use Rattle.task.specs.Format.{terms}
use Rattle.task.specs.Decode.{sizes, term_in}
use Rattle.task.specs.Check.{accepted}
use Rattle.task_states.specs.Cubes.{Means}
use Rattle.task_states.specs.declared.cubes.Cube.{Cube}
use Rattle.task.proofs.Acceptance.{sound}
use Rattle.task.proofs.Goodness.{facts_right_lem}
use Rattle.diagrams.specs.Store.{Table, tree}
use Rattle.std.specs.Prelude.{Result}
use Rattle.diagrams.specs.declared.Full.{Full}
use Rattle.diagrams.proofs.Entries.{tree_canon}
use Rattle.utility.specs.Adding.{add_at}
use Rattle.utility.proofs.Shapes.{value_under, under_more}
use Rattle.utility.proofs.Adds.{add_enough}
use Rattle.utility.proofs.Meaning.{add_term}
use Rattle.utility_add.specs.Adds.{Asks, Adds}
use Rattle.utility_build.specs.Built.{sum_to, stage, Ready, AddsTerm}

module _ (f : List ℕ) (right : accepted f ≡ true) where
  few : bits (sizes f) ≤ 48
  few = (sound f right).few_bits

  module _ (t : ℕ) (lt : t < terms f) where
    pub term_small : t < 256
    term_small = omega (arith, (sound f right).few_terms)

    term_facts_lem : Facts (sizes f) 0 (term_in f t).facts
    term_facts_lem = facts_right_lem f _ _ ((sound f right).term t lt).facts

    abbrev ls : List Lit
    ls = facts_lits (sizes f) (term_in f t).facts

    rising : Rising 0 (bits (sizes f)) ls
    unfolding offset
    rising = facts_rising (sizes f) 0 (term_in f t).facts term_facts_lem

    -- a cube of the term, and its weight
    module _ (c : Cube) (m : Means c ls) (w : ℕ) (weighs : w ≡ (term_in f t).weight) (light : w < 65536) (s : Table) (memo : List ℕ) (a : ℕ) (rd : Ready f s memo a t) where
      small : c.care < 281474976710656
      small = rw m.care (care_lt 48 ls (rising_more 0 (bits (sizes f)) 48 ls few rising))

      within : c.care < 2 ^ (0 + bits (sizes f))
      within = rw (m.care, zero-add (bits (sizes f))) (care_lt (bits (sizes f)) ls rising)

      pub term_asks : Asks s 0 c.care w a
      unfolding stage
      term_asks =
          record {
            below = rd.below;
            last = omega arith;
            small = small;
            order = tree_canon s rd.store a rd.below;
            room = rw rd.means (under_more (4294967296 - w) (65 + 65535 * t) _ (omega (arith, term_small)) (value_under (65535 * t) (bits (sizes f)) 0 (sum_to f t) rd.sums (omega (arith, few))));
          }

      -- the next stage
      term_stage : add_at true 0 c.care c.value w (tree s a) ≡ stage f (suc t)
      unfolding add_at stage sum_to
      term_stage =
          rw (rd.means, weighs)
          (add_enough c.care c.value (term_in f t).weight 48 (bits (sizes f)) 0 _ (div-eq_of_lt small) (div-eq_of_lt within)
          ∙ rw (m.care, m.value) (add_term (sizes f) (term_in f t) (sum_to f t) term_facts_lem (omega (arith, few))))

      pub term_added : (s' : Table) (memo' : List ℕ) (stamp : ℕ) (r : Result ℕ Full) → Adds s s' memo' stamp c.care c.value w r (add_at true 0 c.care c.value w (tree s a)) → AddsTerm f s s' memo' r t
      term_added s' memo' stamp r d = record { makes = rw term_stage at d.makes; keeps = λ x. (d.keeps x).base; light = rw weighs at light }
