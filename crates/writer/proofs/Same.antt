-- Files that carry the same counts, bound and records in order: the relation's laws, and what does not differ between two such files.
use Prim.Native.Nat.{ℕ, ◌<◌}
use mathlib.Core.Path.{◌≡◌, refl, sym, ◌∙◌}
use mathlib.Core.Bool.{Bool, true, false}
use mathlib.Core.List.{List}
use borrow.Author.Tests.{ltb-true}
use Rattle.planning.specs.Connectives.{◌and◌}
use Rattle.planning.specs.Scan.{every}
use Rattle.planning.proofs.Tables.{tab_same}
use Rattle.planning.proofs.Scan.{first_same}
use Rattle.task.specs.Limits.{operator_places, term_places}
use Rattle.task.specs.Format.{variables, operators, terms, variable_record, operator_record, term_record, size, start_value, preconditions, precondition_count, effects, effect_count, term_facts, term_count, fact_variable}
use Rattle.task.specs.Decode.{sizes, task_of, operator_in, term_in}
use Rattle.task.specs.Check.{names_variable, has_value, rises, used_right, fact_right, facts_right, variable_right, preconditions_right, effects_right, operator_record_right, operator_right, term_facts_right, term_record_right, term_right, header_fault, check_of}
use Rattle.writer.specs.Canonical.{sections, begin, counts, offsets, header, written}
use Rattle.writer.specs.Same.{Same}

-- ---- the relation
pub same_sym : {f g : List ℕ} → Same f g → Same g f
same_sym s =
    record {
      variable_count = sym s.variable_count;
      operator_count = sym s.operator_count;
      term_count_lem = sym s.term_count_lem;
      bounds = sym s.bounds;
      variable_records = λ v lt. sym (s.variable_records v (rw s.variable_count lt));
      operator_records = λ o lt. sym (s.operator_records o (rw s.operator_count lt));
      term_records = λ t lt. sym (s.term_records t (rw s.term_count_lem lt));
    }

pub same_trans : {f g h : List ℕ} → Same f g → Same g h → Same f h
same_trans s t =
    record {
      variable_count = s.variable_count ∙ t.variable_count;
      operator_count = s.operator_count ∙ t.operator_count;
      term_count_lem = s.term_count_lem ∙ t.term_count_lem;
      bounds = s.bounds ∙ t.bounds;
      variable_records = λ v lt. s.variable_records v lt ∙ t.variable_records v (rw (← s.variable_count) lt);
      operator_records = λ o lt. s.operator_records o lt ∙ t.operator_records o (rw (← s.operator_count) lt);
      term_records = λ k lt. s.term_records k lt ∙ t.term_records k (rw (← s.term_count_lem) lt);
    }

module _ (f g : List ℕ) (s : Same f g) where
  -- ---- the task
  same_sizes : sizes f ≡ sizes g
  unfolding sizes
  same_sizes = tab_same (size f) (size g) _ _ s.variable_count (λ v lt. rw (s.variable_records v lt))

  pub same_task : task_of f ≡ task_of g
  unfolding task_of
  same_task =
      let start = tab_same (start_value f) (start_value g) _ _ s.variable_count (λ v lt. rw (s.variable_records v lt)) in
      let moves = tab_same (operator_in f) (operator_in g) _ _ s.operator_count (λ o lt. rw (s.operator_records o lt)) in
      let worth = tab_same (term_in f) (term_in g) _ _ s.term_count_lem (λ t lt. rw (s.term_records t lt)) in
      λ i. record { sizes = same_sizes i; start = start i; operators = moves i; terms = worth i; bound = s.bounds i }

  -- ---- the check of the records
  same_names : (fs : List ℕ) (k : ℕ) → names_variable f fs k ≡ names_variable g fs k
  unfolding names_variable
  same_names fs k = rw s.variable_count

  same_values : (fs : List ℕ) (k : ℕ) (b : Bool) → names_variable f fs k ≡ b → b and has_value f fs k and rises fs k ≡ b and has_value g fs k and rises fs k
  unfolding ◌and◌ names_variable has_value
  same_values fs k true e = rw (s.variable_records (fact_variable fs k) (ltb-true _ _ e))
  same_values fs k false e = refl

  same_used : (fs : List ℕ) (k : ℕ) → used_right f fs k ≡ used_right g fs k
  unfolding used_right
  same_used fs k = same_values fs k (names_variable f fs k) refl ∙ rw (same_names fs k)

  same_fact : (fs : List ℕ) (used k : ℕ) → fact_right f fs used k ≡ fact_right g fs used k
  unfolding fact_right
  same_fact fs used k = rw (same_used fs k)

  same_facts : (fs : List ℕ) (used places : ℕ) → facts_right f fs used places ≡ facts_right g fs used places
  unfolding facts_right
  same_facts fs used places = λ i. every (λ k. same_fact fs used k i) places 0

  same_variable : (v : ℕ) → v < variables f → variable_right f v ≡ variable_right g v
  unfolding variable_right
  same_variable v lt = rw (s.variable_records v lt)

  same_operator : (o : ℕ) → o < operators f → operator_right f o ≡ operator_right g o
  unfolding operator_right operator_record_right preconditions_right effects_right
  same_operator o lt =
      rw (s.operator_records o lt, same_facts (preconditions (operator_record g o)) (precondition_count (operator_record g o)) operator_places, same_facts (effects (operator_record g o)) (effect_count (operator_record g o)) operator_places)

  same_term : (t : ℕ) → t < terms f → term_right f t ≡ term_right g t
  unfolding term_right term_record_right term_facts_right
  same_term t lt = rw (s.term_records t lt, same_facts (term_facts (term_record g t)) (term_count (term_record g t)) term_places)

  -- so the two differ, if at all, in the refusals 1 to 6
  pub same_check : header_fault f ≡ header_fault g → check_of f ≡ check_of g
  unfolding check_of
  same_check e =
      let v = first_same (variable_right f) (variable_right g) _ _ s.variable_count same_variable in
      let o = first_same (operator_right f) (operator_right g) _ _ s.operator_count same_operator in
      let t = first_same (term_right f) (term_right g) _ _ s.term_count_lem same_term in
      rw (e, v, o, t, same_sizes, s.variable_count, s.operator_count, s.term_count_lem)

  -- ---- the written file
  pub same_bytes : written f ≡ written g
  unfolding written header counts offsets begin sections
  same_bytes =
      let v = tab_same (variable_record f) (variable_record g) _ _ s.variable_count s.variable_records in
      let o = tab_same (operator_record f) (operator_record g) _ _ s.operator_count s.operator_records in
      let t = tab_same (term_record f) (term_record g) _ _ s.term_count_lem s.term_records in
      rw (v, o, t, s.variable_count, s.operator_count, s.term_count_lem, s.bounds)
