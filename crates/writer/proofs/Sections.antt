-- The sections of an accepted file: each is a part of the file, and where each begins in the written file.
use Prim.Native.Nat.{ℕ, zero, suc, ◌+◌, ◌-◌, ◌*◌, ◌≤◌, ◌<◌}
use mathlib.Core.Path.{◌≡◌, refl, sym, ap, ◌∙◌}
use mathlib.Core.Bool.{true}
use mathlib.Core.List.{List, [], ◌∷◌, ◌++◌, flatten, append_assoc, append-nil}
use native.Mathlib.Omega.{arith}
use native.Mathlib.Nat.{add-zero, add-suc, add_assoc, le_refl, not-suc-le-zero, le_of_suc-le-suc}
use lib.ListN.{length, get_or, take, drop, length-append}
use Rattle.planning.proofs.Guards.{and_both}
use Rattle.task.specs.Limits.{header_bytes, variable_bytes, operator_bytes, term_bytes}
use Rattle.task.specs.Bytes.{part}
use Rattle.task.specs.Format.{variables, operators, terms, variables_at, operators_at, terms_at, variable_record, operator_record, term_record}
use Rattle.task.specs.Check.{all_apart, accepted}
use Rattle.task.proofs.Acceptance.{header_is, variables_inside, operators_inside, terms_inside, sound}
use Rattle.writer.specs.Canonical.{sections, begin, section_count, most_written_bytes}
use Rattle.writer.proofs.Room.{Disjoint, Between, total, apart_is, room}
use Rattle.writer.proofs.Records.{Wide, length_records, section_is, section_wide}

-- ---- parts of a list of sections
module _ {A : Type 0} where
  -- what stands before section k, it, and what stands behind it
  pub flatten_at : (xs : List (List A)) (k : ℕ) → k < length xs → flatten xs ≡ flatten (take k xs) ++ (get_or xs k [] ++ flatten (drop (suc k) xs))
  unfolding flatten
  flatten_at [] k lt = absurd (not-suc-le-zero lt)
  flatten_at (x ∷ xs) zero lt = refl
  flatten_at (x ∷ xs) (suc k) lt =
      ap (λ (l : List A). x ++ l) (flatten_at xs k (le_of_suc-le-suc lt)) ∙ sym (append_assoc x (flatten (take k xs)) (get_or xs k [] ++ flatten (drop (suc k) xs)))

  pub length_next : (xs : List (List A)) (k : ℕ) → k < length xs → length (flatten (take (suc k) xs)) ≡ length (flatten (take k xs)) + length (get_or xs k [])
  unfolding flatten
  length_next [] k lt = absurd (not-suc-le-zero lt)
  length_next (x ∷ xs) zero lt = rw (append-nil x) (omega arith)
  length_next (x ∷ xs) (suc k) lt =
      rw (length-append x (flatten (take (suc k) xs)), length-append x (flatten (take k xs)), length_next xs k (le_of_suc-le-suc lt)) (sym (add_assoc (length x) (length (flatten (take k xs))) (length (get_or xs k []))))

module _ (f : List ℕ) where
  pub sections_count : length (sections f) ≡ section_count
  unfolding sections
  sections_count = refl

  pub begin_first : header_bytes ≡ begin f 0
  unfolding begin flatten
  begin_first = refl

  pub begin_next : (k : ℕ) → k < section_count → begin f (suc k) ≡ begin f k + length (get_or (sections f) k [])
  unfolding begin
  begin_next k lt =
      rw (length_next (sections f) k (rw (sections_count) lt)) (sym (add_assoc header_bytes (length (flatten (take k (sections f)))) (length (get_or (sections f) k []))))

  grows : (i d : ℕ) → i + d ≤ section_count → begin f i ≤ begin f (i + d)
  grows i zero h = rw (add-zero i) (le_refl (begin f i))
  grows i (suc d) h =
      let before = grows i d (omega arith) in
      rw (add-suc i d, begin_next (i + d) (omega arith)) (omega arith)

  pub begin_below : (k : ℕ) → k ≤ section_count → begin f k ≤ begin f section_count
  begin_below k h =
      let e : k + (section_count - k) ≡ section_count = omega arith in
      rw e at (grows k (section_count - k) (omega arith))

-- ---- an accepted file's
module _ (f : List ℕ) (a : accepted f ≡ true) where
  -- each section is a part of the file
  pub section_variables : part f (variables_at f) (variable_bytes * variables f) ≡ get_or (sections f) 0 []
  unfolding sections variable_record
  section_variables = section_is f (variables_at f) variable_bytes (variables f) (variables_inside f a).ends

  pub section_operators : part f (operators_at f) (operator_bytes * operators f) ≡ get_or (sections f) 1 []
  unfolding sections operator_record
  section_operators = section_is f (operators_at f) operator_bytes (operators f) (operators_inside f a).ends

  pub section_terms : part f (terms_at f) (term_bytes * terms f) ≡ get_or (sections f) 2 []
  unfolding sections term_record
  section_terms = section_is f (terms_at f) term_bytes (terms f) (terms_inside f a).ends

  -- and its records are whole
  pub variables_wide : Wide (variable_record f) variable_bytes (variables f) 0
  unfolding variable_record
  variables_wide = section_wide f (variables_at f) variable_bytes (variables f) (variables_inside f a).ends

  pub operators_wide : Wide (operator_record f) operator_bytes (operators f) 0
  unfolding operator_record
  operators_wide = section_wide f (operators_at f) operator_bytes (operators f) (operators_inside f a).ends

  pub terms_wide : Wide (term_record f) term_bytes (terms f) 0
  unfolding term_record
  terms_wide = section_wide f (terms_at f) term_bytes (terms f) (terms_inside f a).ends

  -- where the sections begin in the written file, and where it ends
  pub record Begins : Type 0 where
    pub first : begin f 0 ≡ header_bytes
    pub second : begin f 1 ≡ begin f 0 + variable_bytes * variables f
    pub third : begin f 2 ≡ begin f 1 + operator_bytes * operators f
    pub end : begin f section_count ≡ begin f 2 + term_bytes * terms f

  pub begins : Begins
  unfolding sections
  begins =
      record {
        first = sym (begin_first f);
        second = begin_next f 0 (omega arith) ∙ ap (λ (n : ℕ). begin f 0 + n) (length_records (variable_record f) variable_bytes (variables f) 0 variables_wide);
        third = begin_next f 1 (omega arith) ∙ ap (λ (n : ℕ). begin f 1 + n) (length_records (operator_record f) operator_bytes (operators f) 0 operators_wide);
        end = begin_next f 2 (omega arith) ∙ ap (λ (n : ℕ). begin f 2 + n) (length_records (term_record f) term_bytes (terms f) 0 terms_wide);
      }

  -- 28 bytes, 32 variables, 256 operators and 256 terms
  pub end_small : begin f section_count ≤ most_written_bytes
  end_small = let b = begins in let s = sound f a in omega (arith, b.first, b.second, b.third, b.end, s.few_variables, s.few_operators, s.few_terms)

  -- no longer than the file
  pub end_short : begin f section_count ≤ length f
  unfolding all_apart total
  end_short =
      let b = begins in
      let v = variables_inside f a in
      let o = operators_inside f a in
      let t = terms_inside f a in
      let p = and_both _ _ (header_is f a).apart in
      let q = and_both _ _ p.1 in
      let all : List (ℕ × ℕ) = (variables_at f, variable_bytes * variables f) ∷ (operators_at f, operator_bytes * operators f) ∷ (terms_at f, term_bytes * terms f) ∷ [] in
      let disjoint : Disjoint all = ((apart_is _ _ _ _ p.0, (apart_is _ _ _ _ q.0, tt)), ((apart_is _ _ _ _ q.1, tt), (tt, tt))) in
      let between : Between header_bytes (length f) all = ((v.behind, v.ends), ((o.behind, o.ends), ((t.behind, t.ends), tt))) in
      let enough = room all header_bytes (length f) disjoint between (omega arith) in
      omega (arith, b.first, b.second, b.third, b.end, enough)
