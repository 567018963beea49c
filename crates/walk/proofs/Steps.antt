-- A walk, by the values that the code has: o, the number of a step's operator; pre, its preconditions; d and t, the cost and the state after it.
use Prim.Native.Nat.{ℕ, suc, ◌+◌, ◌-◌, ◌/◌, ◌%◌, ◌≤◌, ◌<◌}
use mathlib.Core.Path.{◌≡◌, refl, sym, ap, ◌∙◌}
use mathlib.Core.Bool.{Bool, true, false}
use mathlib.Core.List.{List, ◌∷◌}
use native.Mathlib.Omega.{arith}
use native.Mathlib.Nat.{sub-zero}
use native.Mathlib.Numerals.{add-one}
use lib.ListN.{length}
use lib.Dec.{ltb}
use borrow.Author.Tests.{eq-eqb, ne_eqb, lt-ltb, le-ltb, le-leb, lt-leb}
use Rattle.planning.specs.Connectives.{pick}
use Rattle.planning.specs.Scan.{tab}
use Rattle.planning.specs.Model.{Fact, holds, apply, state_utility, operator_at}
use Rattle.planning.proofs.Guards.{pick_yes, pick_no}
use Rattle.planning.proofs.Tables.{tab_more, tab_done}
use Rattle.task.specs.Format.{variables, start_value, operators, bound, operator_record, preconditions, precondition_count, cost, effects, effect_count}
use Rattle.task.specs.Decode.{facts, operator_in, task_of}
use Rattle.std.specs.Prelude.{Result, Ok, Err}
use Rattle.refusal.specs.declared.Fault.{Fault}
use Rattle.refusal.specs.declared.Fault.TheVariants.{Operator, Precondition, Bound}
use Rattle.refusal.specs.declared.Refusal.{Refusal}
use Rattle.refusal.specs.declared.Refusal.TheVariants.{PlanOdd}
use Rattle.task.specs.Check.{accepted}
use Rattle.task.proofs.Goodness.{operator_count, operator_at_lem}
use Rattle.task_check.specs.Answers.{refusal_of}
use Rattle.walk.specs.declared.Reached.{Reached}
use Rattle.walk.specs.Walk.{stops_at, reaches, step_of, walk_from, step_at, steps, walk_of}

-- ---- three tests in a row: the first that fails, or what comes then
module _ (a b c : Bool) (d : ℕ) where
  abbrev tested : Result ℕ Fault
  tested = pick a (pick b (pick c (Ok d) (Err Bound)) (Err Precondition)) (Err Operator)

  abbrev walked : Result Reached Refusal → ℕ → Result Reached Refusal
  walked W i = pick a (pick b (pick c W (stops_at i Bound)) (stops_at i Precondition)) (stops_at i Operator)

goes_on : (a b c : Bool) (d e : ℕ) (W : Result Reached Refusal) (i : ℕ) → tested a b c d ≡ Ok e → (d ≡ e) × (walked a b c d W i ≡ W)
unfolding pick
goes_on true true true d e W i h = (cc, refl)
goes_on true true false d e W i h = let z : ◌≡◌ {A = ℕ} 0 1 = cc in absurd (omega arith)
goes_on true false c d e W i h = let z : ◌≡◌ {A = ℕ} 0 1 = cc in absurd (omega arith)
goes_on false b c d e W i h = let z : ◌≡◌ {A = ℕ} 0 1 = cc in absurd (omega arith)

stops_here : (a b c : Bool) (d : ℕ) (W : Result Reached Refusal) (i : ℕ) (x : Fault) → tested a b c d ≡ Err x → walked a b c d W i ≡ stops_at i x
unfolding pick
stops_here true true true d W i x h = let z : ◌≡◌ {A = ℕ} 0 1 = cc in absurd (omega arith)
stops_here true true false d W i x h = let e : Bound ≡ x = cc in ap (stops_at i) e
stops_here true false c d W i x h = let e : Precondition ≡ x = cc in ap (stops_at i) e
stops_here false b c d W i x h = let e : Operator ≡ x = cc in ap (stops_at i) e

-- ---- one step, by what the calls on the operator's record gave
module _ (f s : List ℕ) (c o : ℕ) where
  pub step_17 : operators f ≤ o → Err Operator ≡ step_of (task_of f) s c o
  unfolding step_of
  step_17 l = pick_no _ _ _ _ (rw (operator_count f) (le-ltb _ _ l)) refl

  module _ (l : o < operators f) where
    known : ltb o (length (task_of f).operators) ≡ true
    known = rw (operator_count f) (lt-ltb _ _ l)

    pub step_18 : (pre : List Fact) → pre ≡ (operator_in f o).pre → false ≡ holds s pre → Err Precondition ≡ step_of (task_of f) s c o
    unfolding step_of
    step_18 pre p q = pick_yes _ _ _ _ known (pick_no _ _ _ _ (rw (operator_at_lem f o l, ← p) (sym q)) refl)

    module _ (pre : List Fact) (p : pre ≡ (operator_in f o).pre) (q : true ≡ holds s pre) (d : ℕ) (ed : d ≡ c + (operator_in f o).cost) where
      meets : holds s (operator_at (task_of f).operators o).pre ≡ true
      meets = rw (operator_at_lem f o l, ← p) (sym q)

      pub step_19 : bound f < d → Err Bound ≡ step_of (task_of f) s c o
      unfolding step_of task_of
      step_19 b =
          pick_yes _ _ _ _ known
          (pick_yes _ _ _ _ meets (pick_no _ _ _ _ (rw (operator_at_lem f o l, ← ed) (lt-leb _ _ b)) refl))

      pub step_on : d ≤ bound f → Ok d ≡ step_of (task_of f) s c o
      unfolding step_of task_of
      step_on b =
          pick_yes _ _ _ _ known
          (pick_yes _ _ _ _ meets
          (pick_yes _ _ _ _ (rw (operator_at_lem f o l, ← ed) (le-leb _ _ b)) (rw (operator_at_lem f o l, ← ed))))

    pub applied : (t : List ℕ) → t ≡ apply s (operator_in f o).eff → t ≡ apply s (operator_at (task_of f).operators o).eff
    applied t e = rw (operator_at_lem f o l) e

module _ (f plan : List ℕ) where
  -- the walk so far leaves this to walk
  abbrev pub WalkAt : Result Reached Refusal → List ℕ → ℕ → ℕ → Type 0
  WalkAt W s c k = W ≡ walk_from (task_of f) k s c (tab (step_at plan) (length plan / 2 - k) k)

  pub walk_none : (s : List ℕ) → WalkAt (walk_from (task_of f) 0 s 0 (steps plan)) s 0 0
  walk_none s = rw sub-zero

  module _ (W : Result Reached Refusal) (s : List ℕ) (c k o : ℕ) (h : k < length plan / 2) (inv : WalkAt W s c k) (e : o ≡ step_at plan k) where
    abbrev rest : List ℕ
    rest = tab (step_at plan) (length plan / 2 - (k + 1)) (k + 1)

    here : W ≡ walk_from (task_of f) k s c (o ∷ rest)
    here = inv ∙ ap (walk_from (task_of f) k s c) (tab_more (step_at plan) (length plan / 2) k h ∙ ap (λ (x : ℕ). x ∷ rest) (sym e))

    pub walk_on : (d : ℕ) (t : List ℕ) → Ok d ≡ step_of (task_of f) s c o → t ≡ apply s (operator_at (task_of f).operators o).eff → WalkAt W t d (k + 1)
    unfolding step_of walk_from
    walk_on d t g et =
        let on = goes_on _ _ _ _ _ (walk_from (task_of f) (suc k) (apply s (operator_at (task_of f).operators o).eff) (c + (operator_at (task_of f).operators o).cost) rest) k (sym g) in
        here ∙ on.1 ∙ rw (on.0, ← et, add-one)

    pub walk_stop : (x : Fault) → Err x ≡ step_of (task_of f) s c o → W ≡ stops_at k x
    unfolding step_of walk_from
    walk_stop x g = here ∙ stops_here _ _ _ _ _ k x (sym g)

  pub walk_end : (W : Result Reached Refusal) (s : List ℕ) (c k u : ℕ) → length plan / 2 ≤ k → WalkAt W s c k → u ≡ state_utility (task_of f).terms s → W ≡ reaches c u
  unfolding walk_from
  walk_end W s c k u h inv e = inv ∙ ap (walk_from (task_of f) k s c) (tab_done (step_at plan) (length plan / 2) k h) ∙ ap (reaches c) (sym e)

-- ---- what the calls on an operator's record gave
module _ (f r : List ℕ) (o : ℕ) (e : r ≡ operator_record f o) where
  pub pre_is : (row : List ℕ) (n : ℕ) → row ≡ preconditions r → n ≡ precondition_count r → facts row n ≡ (operator_in f o).pre
  pre_is row n p q = rw (p, q, e)

  pub cost_is : (c x : ℕ) → x ≡ cost r → c + x ≡ c + (operator_in f o).cost
  cost_is c x p = rw (p, e)

  pub state_is : (s t row : List ℕ) (n : ℕ) → t ≡ apply s (facts row n) → row ≡ effects r → n ≡ effect_count r → t ≡ apply s (operator_in f o).eff
  state_is s t row n d p q = d ∙ rw (p, q, e)

pub walk_start : (f plan s : List ℕ) (n : ℕ) → s ≡ tab (start_value f) n 0 → n ≡ variables f → walk_from (task_of f) 0 s 0 (steps plan) ≡ walk_from (task_of f) 0 (task_of f).start 0 (steps plan)
unfolding task_of
walk_start f plan s n e d = ap (λ (x : List ℕ). walk_from (task_of f) 0 x 0 (steps plan)) (e ∙ ap (λ (m : ℕ). tab (start_value f) m 0) d)

-- ---- the answers before the first step
pub walk_refused : (f plan : List ℕ) (refusal : Refusal) → refusal ≡ refusal_of f → accepted f ≡ false → Err refusal ≡ walk_of f plan
unfolding walk_of
walk_refused f plan refusal e a = pick_no _ _ _ _ a (rw e)

pub walk_odd : (f plan : List ℕ) → true ≡ accepted f → (length plan % 2 ≡ 0 → ⊥) → Err PlanOdd ≡ walk_of f plan
unfolding walk_of
walk_odd f plan a h = pick_yes _ _ _ _ (sym a) (pick_no _ _ _ _ (ne_eqb _ _ h) refl)

pub walk_even : (f plan : List ℕ) (W : Result Reached Refusal) → true ≡ accepted f → length plan % 2 ≡ 0 → W ≡ walk_from (task_of f) 0 (task_of f).start 0 (steps plan) → W ≡ walk_of f plan
unfolding walk_of
walk_even f plan W a h e = pick_yes _ _ _ _ (sym a) (pick_yes _ _ _ _ (eq-eqb _ _ h) e)
