-- The task of an accepted file is a good one.
use Prim.Native.Nat.{ℕ, zero, suc, ◌+◌, ◌≤◌, ◌<◌}
use mathlib.Core.Path.{◌≡◌, refl, ap, ◌∙◌}
use mathlib.Core.Bool.{true}
use mathlib.Core.List.{List}
use native.Mathlib.Omega.{arith}
use native.Mathlib.Nat.{zero-add, add-zero, not-suc-le-zero, le_of_suc-le-suc}
use lib.ListN.{length, get_or}
use Rattle.planning.specs.Model.{Operator, Term, operator_at}
use Rattle.planning.specs.Scan.{tab}
use Rattle.planning.specs.Coding.{Valid, UsedFact, Facts}
use Rattle.planning.specs.Good.{Terms, Good}
use Rattle.task.specs.Limits.{most_cost}
use Rattle.task.specs.Format.{variables, operators, terms, bound, size, start_value, fact_variable}
use Rattle.task.specs.Decode.{fact_at, facts, operator_in, term_in, sizes, task_of}
use Rattle.task.specs.Check.{accepted}
use Rattle.task.specs.Sound.{RightRow}
use Rattle.planning.proofs.Tables.{length_tab}
use Rattle.task.proofs.Acceptance.{sound}

-- ---- what stands at a number in a row of values
get_d_tab : (g : ℕ → ℕ) (n i k : ℕ) → k < n → get_or (tab g n i) k 0 ≡ g (i + k)
unfolding tab
get_d_tab g zero i k h = absurd (not-suc-le-zero h)
get_d_tab g (suc n) i zero h = rw add-zero
get_d_tab g (suc n) i (suc k) h = get_d_tab g n (suc i) k (le_of_suc-le-suc h) ∙ ap g (omega arith)

operator_at_tab : (g : ℕ → Operator) (n i o : ℕ) → o < n → operator_at (tab g n i) o ≡ g (i + o)
unfolding operator_at tab
operator_at_tab g zero i o h = absurd (not-suc-le-zero h)
operator_at_tab g (suc n) i zero h = rw add-zero
operator_at_tab g (suc n) i (suc o) h = operator_at_tab g n (suc i) o (le_of_suc-le-suc h) ∙ ap g (omega arith)

valid_tab : (g h : ℕ → ℕ) (n i : ℕ) → ((k : ℕ) → i ≤ k → k < i + n → h k < g k) → Valid (tab g n i) (tab h n i)
unfolding tab
valid_tab g h zero i below = tt
valid_tab g h (suc n) i below =
    (below i (omega arith) (omega arith), valid_tab g h n (suc i) (λ k l u. below k (omega arith) (omega arith)))

terms_tab : (ds : List ℕ) (g : ℕ → Term) (n i : ℕ) → ((k : ℕ) → i ≤ k → k < i + n → Facts ds 0 (g k).facts) → Terms ds (tab g n i)
unfolding tab
terms_tab ds g zero i right = tt
terms_tab ds g (suc n) i right =
    (right i (omega arith) (omega arith), terms_tab ds g n (suc i) (λ k l u. right k (omega arith) (omega arith)))

-- ---- a file's variables, bound and operators, in its task
module _ (f : List ℕ) where
  pub length_sizes : length (sizes f) ≡ variables f
  unfolding sizes
  length_sizes = length_tab (size f) (variables f) 0

  pub size_at : (v : ℕ) → v < variables f → get_or (sizes f) v 0 ≡ size f v
  unfolding sizes
  size_at v h = get_d_tab (size f) (variables f) 0 v h ∙ ap (size f) (zero-add v)

  pub bound_is : bound f ≡ (task_of f).bound
  unfolding task_of
  bound_is = refl

  pub operator_count : length (task_of f).operators ≡ operators f
  unfolding task_of
  operator_count = length_tab (operator_in f) (operators f) 0

  pub operator_at_lem : (o : ℕ) → o < operators f → operator_at (task_of f).operators o ≡ operator_in f o
  unfolding task_of
  operator_at_lem o h = operator_at_tab (operator_in f) (operators f) 0 o h ∙ ap (operator_in f) (zero-add o)

-- ---- a right row
module _ (f fs : List ℕ) (used : ℕ) (r : RightRow f fs used) where
  row_from : (n k low : ℕ) → k + n ≡ used → (0 < n → low ≤ fact_variable fs k) → Facts (sizes f) low (tab (fact_at fs) n k)
  unfolding tab
  row_from zero k low e h = tt
  row_from (suc n) k low e h =
      let x = r.facts k (omega arith) in
      let here : UsedFact (sizes f) (fact_at fs k) = record { var = rw (length_sizes f) x.names; val = rw (size_at f (fact_variable fs k) x.names) x.has } in
      (h (omega arith), here, row_from n (suc k) (suc (fact_variable fs k)) (omega arith) (λ l. r.rise k (omega arith)))

  pub facts_right_lem : Facts (sizes f) 0 (facts fs used)
  unfolding facts
  facts_right_lem = row_from used 0 0 (zero-add used) (λ l. omega arith)

-- ---- the task
module _ (f : List ℕ) (a : accepted f ≡ true) where
  below : (o : ℕ) → o < length (task_of f).operators → o < operators f
  below o h = rw (operator_count f) at h

  good_start : Valid (task_of f).sizes (task_of f).start
  unfolding task_of sizes
  good_start = valid_tab (size f) (start_value f) (variables f) 0 (λ k l u. ((sound f a).variable k (omega arith)).start)

  good_preconditions : (o : ℕ) → o < length (task_of f).operators → Facts (task_of f).sizes 0 (operator_at (task_of f).operators o).pre
  unfolding task_of
  good_preconditions o h = rw (operator_at_lem f o (below o h)) (facts_right_lem f _ _ ((sound f a).operator o (below o h)).preconditions)

  good_effects : (o : ℕ) → o < length (task_of f).operators → Facts (task_of f).sizes 0 (operator_at (task_of f).operators o).eff
  unfolding task_of
  good_effects o h = rw (operator_at_lem f o (below o h)) (facts_right_lem f _ _ ((sound f a).operator o (below o h)).effects)

  good_terms : Terms (task_of f).sizes (task_of f).terms
  unfolding task_of
  good_terms = terms_tab (sizes f) (term_in f) (terms f) 0 (λ t l u. facts_right_lem f _ _ ((sound f a).term t (omega arith)).facts)

  pub good : Good (task_of f)
  good =
      record {
        start = good_start;
        pres = good_preconditions;
        effs = good_effects;
        terms = good_terms;
      }

  -- an operator's cost is at most 4,095
  pub cost_small : (o : ℕ) → o < operators f → (operator_at (task_of f).operators o).cost ≤ most_cost
  cost_small o h = rw (operator_at_lem f o h) ((sound f a).operator o h).dearest
