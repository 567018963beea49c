-- Laws of the model's definitions on the rows and terms of a file, each in the direction in which a need asks it.
use Prim.Native.Nat.{ℕ, zero, suc, ◌+◌, ◌-◌, ◌≤◌, ◌<◌}
use mathlib.Core.Path.{◌≡◌, refl, sym, ap, ◌∙◌}
use mathlib.Core.Bool.{Bool}
use mathlib.Core.List.{List}
use native.Mathlib.Omega.{arith}
use native.Mathlib.Nat.{sub-zero, zero-add, add-zero}
use native.Mathlib.Numerals.{add-one}
use lib.ListN.{length, set, take}
use lib.Seq.{take-suc-set, take_all, set_out}
use Rattle.planning.specs.Connectives.{◌and◌}
use Rattle.planning.specs.Model.{holds, apply, state_utility}
use Rattle.planning.specs.Scan.{every, tab}
use Rattle.task.specs.Decode.{fact_at, facts, term_in}
use Rattle.task_states.specs.States.{met, gain}
use Rattle.planning.proofs.Tables.{tab_more, tab_done, tab_snoc}

-- ---- a row of facts holds where each is met
holds_from : (s fs : List ℕ) (n i : ℕ) → every (met s fs) n i ≡ holds s (tab (fact_at fs) n i)
unfolding every holds met tab
holds_from s fs zero i = refl
holds_from s fs (suc n) i = ap (λ (b : Bool). met s fs i and b) (holds_from s fs n (suc i))

pub holds_every : (s fs : List ℕ) (n : ℕ) → every (met s fs) n 0 ≡ holds s (facts fs n)
unfolding facts
holds_every s fs n = holds_from s fs n 0

-- ---- apply: what is left to apply, from k on
module _ (s₀ fs : List ℕ) (n : ℕ) where
  pub record AppliedTo (s : List ℕ) (k : ℕ) : Type 0 where
    pub is : apply s₀ (facts fs n) ≡ apply s (tab (fact_at fs) (n - k) k)

  pub applied_none : AppliedTo s₀ 0
  unfolding facts
  applied_none = record { is = rw sub-zero }

  pub applied_more : (s t : List ℕ) (k : ℕ) → k < n → AppliedTo s k → t ≡ set s (fact_at fs k).var (fact_at fs k).val → AppliedTo t (k + 1)
  unfolding apply
  applied_more s t k h inv e = record { is = inv.is ∙ rw (tab_more (fact_at fs) n k h, e) }

  pub applied_done : (s : List ℕ) (k : ℕ) → n ≤ k → AppliedTo s k → s ≡ apply s₀ (facts fs n)
  unfolding apply
  applied_done s k h inv = sym (inv.is ∙ ap (apply s) (tab_done (fact_at fs) n k h))

-- ---- utility: what the terms from t on add
module _ (f s : List ℕ) (n : ℕ) where
  pub record SumTo (sum t : ℕ) : Type 0 where
    pub is : state_utility (tab (term_in f) n 0) s ≡ sum + state_utility (tab (term_in f) (n - t) t) s

  pub sum_none : SumTo 0 0
  sum_none = record { is = rw (sub-zero, zero-add) }

  pub sum_more : (sum t more : ℕ) → t < n → SumTo sum t → more ≡ gain f s t → SumTo (sum + more) (t + 1)
  unfolding state_utility gain
  sum_more sum t more h inv e = record { is = inv.is ∙ rw (tab_more (term_in f) n t h, e) (omega arith) }

  pub sum_done : (sum t : ℕ) → n ≤ t → SumTo sum t → sum ≡ state_utility (tab (term_in f) n 0) s
  unfolding state_utility
  sum_done sum t h inv = sym (inv.is ∙ rw (tab_done (term_in f) n t h, add-zero))

-- ---- the start: the values written so far
module _ (g : ℕ → ℕ) where
  pub start_more : (s : List ℕ) (v x : ℕ) → v < length s → take v s ≡ tab g v 0 → x ≡ g v → take (v + 1) (set s v x) ≡ tab g (v + 1) 0
  start_more s v x h e d = rw (add-one, take-suc-set s v x h, tab_snoc g v 0, zero-add, e, d)

  pub start_done : (s : List ℕ) (v n : ℕ) → length s ≤ v → v ≡ n → take v s ≡ tab g v 0 → s ≡ tab g n 0
  start_done s v n h e d = sym (take_all v s h) ∙ d ∙ ap (λ (m : ℕ). tab g m 0) e

pub put_out : (s : List ℕ) (v x : ℕ) → length s ≤ v → s ≡ set s v x
put_out s v x h = sym (set_out s v x h)
