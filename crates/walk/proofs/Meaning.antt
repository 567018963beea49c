-- What a walk's answer means in the model: it succeeds exactly with the sequences that are applicable and within the bound, with their
-- cost and utility; else it names the first step that fails, and why.
use Prim.Native.Nat.{ℕ, zero, suc, ◌+◌, ◌%◌, ◌≤◌, ◌<◌}
use mathlib.Core.Path.{◌≡◌, refl, sym, ap, ◌∙◌}
use mathlib.Core.Bool.{Bool, true, false}
use mathlib.Core.List.{List, [], ◌∷◌}
use mathlib.Core.Option.{Option, none, some}
use mathlib.Core.Logic.{◌⊎◌, inl, inr, ◌↔◌}
use native.Mathlib.Omega.{arith}
use native.Mathlib.Nat.{add-zero, zero-add}
use lib.ListN.{length, get_or, take}
use lib.Dec.{ltb}
use borrow.Author.Tests.{leb-true, le-leb}
use Rattle.planning.specs.Connectives.{◌and◌, pick}
use Rattle.planning.specs.Model.{Task, state_utility, operator_at, can_apply, next, applicable, end, cost, utility}
use Rattle.planning.proofs.Guards.{pick_yes, and_both}
use Rattle.task.specs.Decode.{task_of}
use Rattle.task.specs.Check.{accepted}
use Rattle.refusal.specs.declared.Fault.{Fault}
use Rattle.refusal.specs.declared.Fault.TheVariants.{Operator, Precondition, Bound}
use Rattle.std.specs.Prelude.{Result}
use Rattle.refusal.specs.declared.Refusal.{Refusal}
use Rattle.walk.specs.declared.Reached.{Reached}
use Rattle.walk.specs.Walk.{stops_at, reaches, walk_from, steps, walk_of}
use Rattle.walk.specs.Meaning.{fault_of, Succeeds, Fails}
use Rattle.walk.proofs.Steps.{walk_even}

both_and : (a b : Bool) → a ≡ true → b ≡ true → a and b ≡ true
unfolding ◌and◌
both_and a b p q = rw (p, q)

-- ---- three tests in a row, and the first that fails
abbrev first_of : Bool → Bool → Bool → Option Fault
first_of a b c = pick a (pick b (pick c none (some Bound)) (some Precondition)) (some Operator)

none_fails : (a b c : Bool) → first_of a b c ≡ none → (a ≡ true) × (b ≡ true) × (c ≡ true)
unfolding pick
none_fails true true true e = (refl, refl, refl)
none_fails true true false e = let z : ◌≡◌ {A = ℕ} 0 1 = cc in absurd (omega arith)
none_fails true false c e = let z : ◌≡◌ {A = ℕ} 0 1 = cc in absurd (omega arith)
none_fails false b c e = let z : ◌≡◌ {A = ℕ} 0 1 = cc in absurd (omega arith)

one_fails : (a b c : Bool) (W : Result Reached Refusal) (i : ℕ) (x : Fault) → first_of a b c ≡ some x → pick a (pick b (pick c W (stops_at i Bound)) (stops_at i Precondition)) (stops_at i Operator) ≡ stops_at i x
unfolding pick
one_fails true true true W i x h = let z : ◌≡◌ {A = ℕ} 0 1 = cc in absurd (omega arith)
one_fails true true false W i x h = let e : Bound ≡ x = cc in ap (stops_at i) e
one_fails true false c W i x h = let e : Precondition ≡ x = cc in ap (stops_at i) e
one_fails false b c W i x h = let e : Operator ≡ x = cc in ap (stops_at i) e

-- walks that stop alike stop at one step with one fault
same_stop : (i j : ℕ) (x y : Fault) → stops_at i x ≡ stops_at j y → (i ≡ j) × (x ≡ y)
same_stop i j x y e = (cc, cc)

module _ (t : Task) where
  -- ---- from the state s, after the cost c
  record SucceedsFrom (s : List ℕ) (c : ℕ) (p : List ℕ) : Type 0 where
    pub applies : applicable t s p ≡ true
    pub within : c + cost t p ≤ t.bound

  record FailsFrom (s : List ℕ) (c : ℕ) (p : List ℕ) (j : ℕ) (x : Fault) : Type 0 where
    pub below : j < length p
    pub applies : applicable t s (take j p) ≡ true
    pub within : c + cost t (take j p) ≤ t.bound
    pub faulty : fault_of t (end t s (take j p)) (c + cost t (take j p)) (get_or p j 0) ≡ some x

  record SomeFault (s : List ℕ) (c : ℕ) (p : List ℕ) : Type 0 where
    pub step : ℕ
    pub fault : Fault
    pub fails : FailsFrom s c p step fault

  -- ---- one step
  abbrev price : ℕ → ℕ
  price o = (operator_at t.operators o).cost

  passes : (i : ℕ) (s : List ℕ) (c o : ℕ) (p : List ℕ) → can_apply t o s ≡ true → c + price o ≤ t.bound → walk_from t (suc i) (next t o s) (c + price o) p ≡ walk_from t i s c (o ∷ p)
  unfolding walk_from can_apply next
  passes i s c o p e h =
      let b = and_both (ltb o (length t.operators)) _ e in
      pick_yes _ _ _ _ b.0 (pick_yes _ _ _ _ b.1 (pick_yes _ _ _ _ (le-leb _ _ h) refl))

  stops : (i : ℕ) (s : List ℕ) (c o : ℕ) (p : List ℕ) (x : Fault) → fault_of t s c o ≡ some x → walk_from t i s c (o ∷ p) ≡ stops_at i x
  unfolding walk_from fault_of
  stops i s c o p x h = one_fails _ _ _ _ i x h

  faultless : (s : List ℕ) (c o : ℕ) → fault_of t s c o ≡ none → (can_apply t o s ≡ true) × (c + price o ≤ t.bound)
  unfolding fault_of can_apply
  faultless s c o e =
      let b = none_fails _ _ _ e in
      (both_and _ _ b.0 b.1, leb-true _ _ b.2)

  -- ---- a whole walk
  succeeds : (p : List ℕ) (i : ℕ) (s : List ℕ) (c : ℕ) → SucceedsFrom s c p → walk_from t i s c p ≡ reaches (c + cost t p) (state_utility t.terms (end t s p))
  unfolding walk_from applicable cost end
  succeeds [] i s c h = rw add-zero
  succeeds (o ∷ p) i s c h =
      let b = and_both (can_apply t o s) _ h.applies in
      let w : (c + price o) + cost t p ≤ t.bound = omega (arith, h.within) in
      let e : (c + price o) + cost t p ≡ c + (price o + cost t p) = omega arith in
      sym (passes i s c o p b.0 (omega (arith, h.within)))
      ∙ succeeds p (suc i) (next t o s) (c + price o) (record { applies = b.1; within = w })
      ∙ ap (λ (x : ℕ). reaches x (state_utility t.terms (end t (next t o s) p))) e

  fails : (p : List ℕ) (i : ℕ) (s : List ℕ) (c j : ℕ) (x : Fault) → FailsFrom s c p j x → walk_from t i s c p ≡ stops_at (i + j) x
  unfolding applicable cost end
  fails [] i s c j x h = absurd (omega (arith, h.below))
  fails (o ∷ p) i s c zero x h =
      let e : fault_of t s c o ≡ some x = ap (λ (y : ℕ). fault_of t s y o) (sym (add-zero c)) ∙ h.faulty in
      stops i s c o p x e ∙ rw add-zero
  fails (o ∷ p) i s c (suc j) x h =
      let b = and_both (can_apply t o s) _ h.applies in
      let a : (c + price o) + cost t (take j p) ≡ c + (price o + cost t (take j p)) = omega arith in
      let k : suc i + j ≡ i + suc j = omega arith in
      sym (passes i s c o p b.0 (omega (arith, h.within)))
      ∙ fails p (suc i) (next t o s) (c + price o) j x
      (record {
        below = omega (arith, h.below);
        applies = b.1;
        within = omega (arith, h.within);
        faulty = rw a h.faulty;
      })
      ∙ ap (λ (m : ℕ). stops_at m x) k

  outcome : (p : List ℕ) (s : List ℕ) (c : ℕ) → c ≤ t.bound → SucceedsFrom s c p ⊎ SomeFault s c p
  unfolding applicable cost end
  outcome [] s c h = inl (record { applies = refl; within = omega arith })
  outcome (o ∷ p) s c h = by (fault_of t s c o) refl (outcome p (next t o s) (c + price o))
    where
      on : can_apply t o s ≡ true → c + price o ≤ t.bound → SucceedsFrom (next t o s) (c + price o) p ⊎ SomeFault (next t o s) (c + price o) p → SucceedsFrom s c (o ∷ p) ⊎ SomeFault s c (o ∷ p)
      on e l (inl r) = inl (record { applies = both_and _ _ e r.applies; within = omega (arith, r.within) })
      on e l (inr r) =
          let j = r.step in
          let x = r.fails in
          let a : (c + price o) + cost t (take j p) ≡ c + (price o + cost t (take j p)) = omega arith in
          inr
          (record {
            step = suc j;
            fault = r.fault;
            fails =
                record {
                  below = omega (arith, x.below);
                  applies = both_and _ _ e x.applies;
                  within = omega (arith, x.within);
                  faulty = rw (← a) x.faulty;
                };
          })

      by : (x : Option Fault) → fault_of t s c o ≡ x → (c + price o ≤ t.bound → SucceedsFrom (next t o s) (c + price o) p ⊎ SomeFault (next t o s) (c + price o) p) → SucceedsFrom s c (o ∷ p) ⊎ SomeFault s c (o ∷ p)
      by none e rec = let b = faultless s c o e in on b.0 b.1 (rec b.1)
      by (some x) e rec =
          inr
          (record {
            step = 0;
            fault = x;
            fails =
                record {
                  below = omega arith;
                  applies = refl;
                  within = omega arith;
                  faulty = ap (λ (y : ℕ). fault_of t s y o) (add-zero c) ∙ e;
                };
          })

-- ---- the walk of a plan's bytes, over a file that the check accepts
module _ (f plan : List ℕ) (a : accepted f ≡ true) (even : length plan % 2 ≡ 0) where
  abbrev T : Task
  T = task_of f

  whole : walk_from T 0 T.start 0 (steps plan) ≡ walk_of f plan
  whole = walk_even f plan _ (sym a) even refl

  known : SucceedsFrom T T.start 0 (steps plan) ⊎ SomeFault T T.start 0 (steps plan)
  known = outcome T (steps plan) T.start 0 (omega arith)

  good : SucceedsFrom T T.start 0 (steps plan) → walk_of f plan ≡ reaches (cost T (steps plan)) (utility T (steps plan))
  unfolding utility
  good r = sym whole ∙ succeeds T (steps plan) 0 T.start 0 r ∙ ap (λ (x : ℕ). reaches x (utility T (steps plan))) (zero-add (cost T (steps plan)))

  bad : (j : ℕ) (x : Fault) → FailsFrom T T.start 0 (steps plan) j x → walk_of f plan ≡ stops_at j x
  bad j x r = sym whole ∙ fails T (steps plan) 0 T.start 0 j x r ∙ ap (λ (m : ℕ). stops_at m x) (zero-add j)

  pub walk_succeeds : (c u : ℕ) → (walk_of f plan ≡ reaches c u) ↔ Succeeds T (steps plan) c u
  walk_succeeds c u = (to known, from)
    where
      to : SucceedsFrom T T.start 0 (steps plan) ⊎ SomeFault T T.start 0 (steps plan) → walk_of f plan ≡ reaches c u → Succeeds T (steps plan) c u
      to (inl r) e =
          let g = good r in
          let same : ◌≡◌ {A = Reached} (record { cost = c; utility = u }) (record { cost = cost T (steps plan); utility = utility T (steps plan) }) = cc in
          record {
            applies = r.applies;
            within = omega (arith, r.within);
            costs = ap (λ (x : Reached). x.cost) same;
            utility_is = ap (λ (x : Reached). x.utility) same;
          }
      to (inr r) e =
          let g = bad r.step r.fault r.fails in
          let z : ◌≡◌ {A = ℕ} 0 1 = cc in
          absurd (omega arith)

      from : Succeeds T (steps plan) c u → walk_of f plan ≡ reaches c u
      from s = good (record { applies = s.applies; within = omega (arith, s.within) }) ∙ rw (s.costs, s.utility_is)

  pub walk_fails : (i : ℕ) (x : Fault) → (walk_of f plan ≡ stops_at i x) ↔ Fails T (steps plan) i x
  walk_fails i x = (to known, from)
    where
      to : SucceedsFrom T T.start 0 (steps plan) ⊎ SomeFault T T.start 0 (steps plan) → walk_of f plan ≡ stops_at i x → Fails T (steps plan) i x
      to (inl r) e =
          let g = good r in
          let z : ◌≡◌ {A = ℕ} 0 1 = cc in
          absurd (omega arith)
      to (inr r) e =
          let g = bad r.step r.fault r.fails in
          let y = r.fails in
          let q = same_stop i r.step x r.fault (sym e ∙ g) in
          let ei : i ≡ r.step = q.0 in
          let ex : x ≡ r.fault = q.1 in
          let ec : 0 + cost T (take r.step (steps plan)) ≡ cost T (take r.step (steps plan)) = omega arith in
          rw (ei, ex)
          (record {
            below = y.below;
            applies = y.applies;
            within = omega (arith, y.within);
            faulty = rw (← ec) y.faulty;
          })

      from : Fails T (steps plan) i x → walk_of f plan ≡ stops_at i x
      from s =
          let ec : 0 + cost T (take i (steps plan)) ≡ cost T (take i (steps plan)) = omega arith in
          bad i x
          (record {
            below = s.below;
            applies = s.applies;
            within = omega (arith, s.within);
            faulty = rw ec s.faulty;
          })
