-- The bits of a variable of an accepted file, and what the diagram of the permitted states tells of its task. Assumes nothing.
use Prim.Native.Nat.{ℕ, suc, ◌-◌, ◌≤◌, ◌<◌}
use mathlib.Core.Path.{◌≡◌, refl, sym, ap, ◌∙◌}
use mathlib.Core.Bool.{true}
use mathlib.Core.List.{List}
use native.Mathlib.Omega.{arith}
use lib.ListN.{length, get_or, drop}
use Rattle.planning.specs.Coding.{width, bits, offset}
use Rattle.planning.specs.Ceiling.{ceiling}
use Rattle.diagrams.specs.Store.{Table, table, tree, table_of, view_table, Views}
use Rattle.diagrams.specs.declared.Nodes.{Nodes}
use Rattle.diagrams.specs.declared.NodeView.{NodeView}
use Rattle.diagrams.proofs.Empty.{store_empty}
use Rattle.task.specs.Format.{variables, size}
use Rattle.task.specs.Check.{accepted}
use Rattle.task.specs.Decode.{sizes, task_of}
use Rattle.task.proofs.Acceptance.{sound}
use Rattle.task.proofs.Goodness.{length_sizes, size_at, good}
use Rattle.utility.specs.Within.{most_t}
use Rattle.utility.specs.Valued.{Valued}
use Rattle.utility_ceiling.specs.Permitted.{permitted}
use Rattle.utility_ceiling.specs.Sets.{From}
use Rattle.utility_ceiling.proofs.Permitted.{permitted_within}
use Rattle.utility_ceiling.proofs.Making.{Bounding, from_none, from_begins, from_ends}

module _ (f : List ℕ) (ok : accepted f ≡ true) where
  -- before the last variable
  pub none_from : (bit low high heads chain : List ℕ) (v : ℕ) → length bit ≡ 48 → length low ≡ 48 → length high ≡ 48 → v ≡ variables f → From (sizes f) (table bit low high heads chain 0) 1 v
  none_from bit low high heads chain v b l h e =
      rw (e ∙ sym (length_sizes f))
      (from_none (sizes f) (table bit low high heads chain 0) (store_empty bit low high heads chain (l ∙ sym b) (h ∙ sym b) (omega arith)) b refl (sound f ok).few_bits)

  pub few_variables : variables f ≤ 32
  few_variables = (sound f ok).few_variables

  module _ (v d at : ℕ) (lt : v < variables f) (d_is : d ≡ size f v) (at-is : at ≡ offset (sizes f) v) where
    there : v < length (sizes f)
    there = rw (length_sizes f) lt

    d_at : d ≡ get_or (sizes f) v 0
    d_at = d_is ∙ sym (size_at f v lt)

    pub two_values : 2 ≤ d
    two_values = omega (arith, ((sound f ok).variable v lt).least)

    pub variable_begins : (s : Table) (next left : ℕ) → left ≡ width d → From (sizes f) s next (suc v) → Bounding s (bits (drop (suc v) (sizes f))) (permitted (drop (suc v) (sizes f))) next at (width d) (d - 1) (d - 1) left next
    variable_begins s next left e b = rw e (from_begins (sizes f) s v at (width d) there at-is (ap width d_at) next (d - 1) b)

    pub variable_ends : (s : Table) (next rest left tight : ℕ) → Bounding s (bits (drop (suc v) (sizes f))) (permitted (drop (suc v) (sizes f))) next at (width d) (d - 1) rest left tight → left ≤ 0 → From (sizes f) s tight v
    variable_ends s next rest left tight b z =
        from_ends (sizes f) s v at (width d) there at-is (ap width d_at) next (d - 1) rest left tight b z (omega (arith, two_values) ∙ d_at)

  -- the greatest utility within the permitted states, and 1
  pub ceiling_found : (n : Nodes) (e : NodeView) (x : Table) (name root m : ℕ) → Views n e → From (sizes f) (table_of n) name 0 → Valued (task_of f) x root → m ≡ most_t (tree (view_table e) name) (tree x root) → m ≡ suc (ceiling (task_of f))
  unfolding task_of offset
  ceiling_found n e x name root m v b u is =
      is ∙ rw (v.bit_is, v.low_is, v.high_is, v.count_is) (rw (b.stands.means, u.means) (permitted_within (task_of f) (good f ok) (sound f ok).few_bits))
