-- The lists of bits that are permitted are the codes of the states with permitted values, so the greatest utility over them is the ceiling. Assumes nothing.
use Prim.Native.Nat.{ℕ, suc, ◌≤◌}
use mathlib.Core.Path.{◌≡◌, refl, sym, ap, ap₂, ◌∙◌}
use mathlib.Core.Bool.{Bool, true}
use mathlib.Core.List.{List, [], ◌∷◌, ◌++◌}
use mathlib.Core.Option.{some}
use native.Mathlib.Omega.{arith}
use lib.Dec.{T, ltb, ltb→lt}
use lib.ListN.{length, take, drop, length-drop, take-append-drop}
use lib.Seq.{take_at, drop_at, length-take-le}
use borrow.Author.Tests.{lt-ltb}
use Rattle.planning.specs.Model.{Task}
use Rattle.planning.specs.Coding.{width, bits, bin, code, number, values, Valid}
use Rattle.planning.specs.Good.{Good}
use Rattle.planning.specs.Ceiling.{ceiling}
use Rattle.planning.proofs.Connectives.{t_and}
use Rattle.planning.proofs.Widths.{width_fits}
use Rattle.planning.proofs.Values.{length_one, number_bin, length_code}
use Rattle.planning.proofs.Ceiling.{ceiling_above, ceiling_attained}
use Rattle.diagrams.specs.Tree.{end_t, diagram}
use Rattle.search_theory.specs.Bits.{reward}
use Rattle.search_theory.specs.Optimum.{most}
use Rattle.search_theory.proofs.Optimum.{most_is}
use Rattle.search_theory.proofs.Task.{utility_bits}
use Rattle.utility.specs.Within.{most_t, as_number}
use Rattle.utility.specs.Stages.{utility_tree}
use Rattle.utility.proofs.Within.{most_diagram}
use Rattle.utility_ceiling.specs.Permitted.{below, permitted}
use Rattle.utility_ceiling.proofs.Numbers.{bin_number}

-- the bits of a state with permitted values are permitted
pub permitted_code : (ds s : List ℕ) → Valid ds s → T (permitted ds (code ds s))
unfolding permitted below code number
permitted_code [] [] ok = tt
permitted_code [] (x ∷ s) ok = absurd ok
permitted_code (d ∷ ds) [] ok = absurd ok
permitted_code (d ∷ ds) (x ∷ s) ok =
    let front : take (width d) (bin (width d) x [] ++ code ds s) ≡ bin (width d) x [] = take_at (bin (width d) x []) (code ds s) (width d) (length_one d x) in
    let rest : drop (width d) (bin (width d) x [] ++ code ds s) ≡ code ds s = drop_at (bin (width d) x []) (code ds s) (width d) (length_one d x) in
    let n : number 0 (bin (width d) x []) ≡ x = number_bin (width d) x [] (omega (arith, width_fits d, ok.0)) in
    rw (front, rest, n, lt-ltb x d ok.0) ((t_and true (permitted ds (code ds s))).1 (tt, permitted_code ds s ok.1))

-- permitted bits number a state with permitted values, and are its bits
pub permitted_values : (ds : List ℕ) (σ : List Bool) → length σ ≡ bits ds → T (permitted ds σ) → Valid ds (values ds σ) × (code ds (values ds σ) ≡ σ)
unfolding permitted below bits values code
permitted_values [] [] l p = (tt, refl)
permitted_values [] (b ∷ σ) l p = absurd (omega arith)
permitted_values (d ∷ ds) σ l p =
    let front : length (take (width d) σ) ≡ width d = length-take-le (width d) σ (omega arith) in
    let rest : length (drop (width d) σ) ≡ bits ds = length-drop (width d) σ ∙ omega arith in
    let q = (t_and (ltb (number 0 (take (width d) σ)) d) (permitted ds (drop (width d) σ))).0 p in
    let r = permitted_values ds (drop (width d) σ) rest q.1 in
    ((ltb→lt (number 0 (take (width d) σ)) d q.0, r.0), ap₂ (λ (a b : List Bool). a ++ b) (bin_number (width d) (take (width d) σ) front) r.1 ∙ take-append-drop (width d) σ)

module _ (t : Task) (𝓖 : Good t) where
  -- the greatest utility over the permitted lists of bits
  pub permitted_most : most (bits t.sizes) (permitted t.sizes) (reward t) ≡ some (ceiling t)
  permitted_most = sym (most_is (bits t.sizes) (permitted t.sizes) (reward t) (some (ceiling t)) (attained, above))
    where
      attained : (σ : List Bool) × (length σ ≡ bits t.sizes) × T (permitted t.sizes σ) × (reward t σ ≡ ceiling t)
      attained =
          let a = ceiling_attained t 𝓖 in
          (code t.sizes a.0, length_code t.sizes a.0, permitted_code t.sizes a.0 a.1, utility_bits t 𝓖 a.0 a.1 ∙ a.2)

      above : (σ : List Bool) → length σ ≡ bits t.sizes → T (permitted t.sizes σ) → reward t σ ≤ ceiling t
      above σ l p =
          let v = permitted_values t.sizes σ l p in
          let e : reward t σ ≡ _ = ap (reward t) (sym v.1) ∙ utility_bits t 𝓖 (values t.sizes σ) v.0 in
          omega (arith, e, ceiling_above t (values t.sizes σ) v.0)

  -- what the walk gives of their diagram
  pub permitted_within : bits t.sizes ≤ 48 → most_t (diagram end_t (bits t.sizes) 0 (permitted t.sizes)) (utility_tree t) ≡ suc (ceiling t)
  unfolding utility_tree as_number
  permitted_within few = most_diagram (bits t.sizes) 0 (permitted t.sizes) (reward t) (omega arith) ∙ ap as_number permitted_most
