-- What the check's answer tells: each test of an accepted file, one by one.
use Prim.Native.Nat.{ℕ, zero, suc, ◌+◌, ◌-◌, ◌*◌, ◌≤◌, ◌<◌, zero-le}
use mathlib.Core.Path.{◌≡◌, refl, sym, ap, ◌∙◌}
use mathlib.Core.Bool.{Bool, true, false}
use mathlib.Core.List.{List}
use mathlib.Core.Logic.{◌⊎◌, inl, inr}
use native.Mathlib.Omega.{arith}
use native.Mathlib.Nat.{eq-or-lt_of_le, zero-add, le_refl}
use lib.ListN.{length, take, drop}
use lib.Dec.{leb, ltb, eqb}
use borrow.Author.Tests.{ltb-true, leb-true, eqb-true, eqb-false, lt-ltb, ne_eqb}
use Rattle.planning.specs.Connectives.{◌or◌, pick}
use Rattle.planning.specs.Coding.{bits}
use Rattle.planning.specs.Scan.{first_bad}
use Rattle.task.specs.Limits.{header_bytes, variable_bytes, operator_bytes, term_bytes, most_variables, most_operators, most_terms, operator_places, term_places, most_bits}
use Rattle.task.specs.Format.{variables, operators, terms, variables_at, operators_at, terms_at, operator_record, term_record, fact_variable, term_count, term_facts}
use Rattle.task.specs.Decode.{sizes}
use Rattle.task.specs.Check.{counts_right, section_inside, all_inside, all_apart, header_fault, names_variable, has_value, rises, used_right, unused_right, fact_right, facts_right, variable_right, cost_right, fact_counts_right, preconditions_right, effects_right, operator_record_right, operator_right, term_counts_right, term_facts_right, term_record_right, term_right, first_bad_variable, first_bad_operator, first_bad_term, check_terms, check_operators, check_bits, check_variables, check_of, accepted}
use Rattle.task.specs.Sound.{RightVariable, RightFact, RightRow, RightOperator, RightTerm, Sound}
use Rattle.planning.proofs.Guards.{and_both}
use Rattle.planning.proofs.Scan.{every_at}
use Rattle.task.proofs.Laws.{part_is, part_long}

-- ---- a choice that came out as r, where one of the two cannot be r
not_yes : {A : Type 0} (b : Bool) (x y r : A) → pick b x y ≡ r → (x ≡ r → ⊥) → (b ≡ false) × (y ≡ r)
unfolding pick
not_yes true x y r e h = absurd (h e)
not_yes false x y r e h = (refl, e)

not_no : {A : Type 0} (b : Bool) (x y r : A) → pick b x y ≡ r → (y ≡ r → ⊥) → (b ≡ true) × (x ≡ r)
unfolding pick
not_no true x y r e h = (refl, e)
not_no false x y r e h = absurd (h e)

chosen : (b x y : Bool) → pick b x y ≡ true → b ≡ true → x ≡ true
unfolding pick
chosen true x y e h = e
chosen false x y e h = let z : ◌≡◌ {A = ℕ} 0 1 = cc in absurd (omega arith)

or_second : (a b : Bool) → a or b ≡ true → a ≡ false → b ≡ true
unfolding ◌or◌
or_second true b e h = let z : ◌≡◌ {A = ℕ} 0 1 = cc in absurd (omega arith)
or_second false b e h = e

-- ---- the header
pub record RightHeader (f : List ℕ) : Type 0 where
  pub counts : counts_right f ≡ true
  pub inside : all_inside f ≡ true
  pub apart : all_apart f ≡ true

header_sound : (f : List ℕ) → header_fault f ≡ 0 → RightHeader f
unfolding header_fault
header_sound f e =
    let a = not_yes _ _ _ _ e (λ q. omega arith) in
    let b = not_yes _ _ _ _ a.1 (λ q. omega arith) in
    let c = not_no _ _ _ _ b.1 (λ q. omega arith) in
    let d = not_no _ _ _ _ c.1 (λ q. omega arith) in
    let g = not_no _ _ _ _ d.1 (λ q. omega arith) in
    let i = not_no _ _ _ _ g.1 (λ q. omega arith) in
    let k = not_no _ _ _ _ i.1 (λ q. omega arith) in
    record { counts = g.0; inside = i.0; apart = k.0 }

-- ---- the answer's number is 0: each choice went on
number_zero : (b : Bool) (x y : ℕ × ℕ) → (pick b x y).0 ≡ 0 → (y.0 ≡ 0 → ⊥) → (b ≡ true) × (x.0 ≡ 0)
unfolding pick
number_zero true x y e h = (refl, e)
number_zero false x y e h = absurd (h e)

fault_zero : (n : ℕ) (x : ℕ × ℕ) (b : Bool) → eqb n 0 ≡ b → (pick b x (n, 0)).0 ≡ 0 → (n ≡ 0) × (x.0 ≡ 0)
unfolding pick
fault_zero n x true e h = (eqb-true n 0 e, h)
fault_zero n x false e h = absurd (eqb-false n 0 e h)

-- an accepted file's header gives no refusal, and is right
pub header_passes : (f : List ℕ) → accepted f ≡ true → header_fault f ≡ 0
unfolding accepted check_of
header_passes f e = (fault_zero (header_fault f) (check_variables f) _ refl (eqb-true (check_of f).0 0 e)).0

pub header_is : (f : List ℕ) → accepted f ≡ true → RightHeader f
header_is f e = header_sound f (header_passes f e)

-- each of its sections begins behind the header and ends within the file
pub record Inside (f : List ℕ) (at n : ℕ) : Type 0 where
  pub behind : header_bytes ≤ at
  pub ends : at + n ≤ length f

inside_is : (f : List ℕ) (at n : ℕ) → section_inside (length f) at n ≡ true → Inside f at n
unfolding section_inside
inside_is f at n e =
    let b = and_both _ _ e in
    record { behind = leb-true header_bytes at b.0; ends = leb-true (at + n) (length f) b.1 }

module _ (f : List ℕ) (a : accepted f ≡ true) where
  pub variables_inside : Inside f (variables_at f) (variable_bytes * variables f)
  unfolding all_inside
  variables_inside = inside_is f _ _ (and_both _ _ (header_is f a).inside).0

  pub operators_inside : Inside f (operators_at f) (operator_bytes * operators f)
  unfolding all_inside
  operators_inside = inside_is f _ _ (and_both _ _ (and_both _ _ (header_is f a).inside).1).0

  pub terms_inside : Inside f (terms_at f) (term_bytes * terms f)
  unfolding all_inside
  terms_inside = inside_is f _ _ (and_both _ _ (and_both _ _ (header_is f a).inside).1).1

record Passed (f : List ℕ) : Type 0 where
  pub header : RightHeader f
  pub variables_right : first_bad_variable f ≡ variables f
  pub few_bits : bits (sizes f) ≤ most_bits
  pub operators_right : first_bad_operator f ≡ operators f
  pub terms_right : first_bad_term f ≡ terms f

passed : (f : List ℕ) → accepted f ≡ true → Passed f
unfolding accepted check_of
passed f e =
    let a = fault_zero (header_fault f) (check_variables f) _ refl (eqb-true (check_of f).0 0 e) in
    let b = number_zero _ (check_bits f) (7, first_bad_variable f) a.1 (λ q. omega arith) in
    let c = number_zero _ (check_operators f) (8, 0) b.1 (λ q. omega arith) in
    let d = number_zero _ (check_terms f) (9, first_bad_operator f) c.1 (λ q. omega arith) in
    let g = number_zero _ (0, 0) (10, first_bad_term f) d.1 (λ q. omega arith) in
    record {
      header = header_sound f a.0;
      variables_right = eqb-true _ _ b.0;
      few_bits = leb-true _ _ c.0;
      operators_right = eqb-true _ _ d.0;
      terms_right = eqb-true _ _ g.0;
    }

-- ---- a scan that found nothing: the test holds at each number
first_bad_least : (ok : ℕ → Bool) (n i : ℕ) → i ≤ first_bad ok n i
unfolding first_bad pick
first_bad_least ok zero i = le_refl i
first_bad_least ok (suc n) i = go (ok i) refl (first_bad_least ok n (suc i))
  where
    go : (b : Bool) → ok i ≡ b → suc i ≤ first_bad ok n (suc i) → i ≤ pick b (first_bad ok n (suc i)) i
    go true e h = omega arith
    go false e h = le_refl i

all_right : (ok : ℕ → Bool) (n i k : ℕ) → first_bad ok n i ≡ i + n → i ≤ k → k < i + n → ok k ≡ true
unfolding first_bad pick
all_right ok zero i k e l h = absurd (omega arith)
all_right ok (suc n) i k e l h = go (ok i) refl (first_bad_least ok n (suc i)) e (eq-or-lt_of_le l) (all_right ok n (suc i) k)
  where
    go : (b : Bool) → ok i ≡ b → suc i ≤ first_bad ok n (suc i) → pick b (first_bad ok n (suc i)) i ≡ i + suc n → (i ≡ k) ⊎ (i < k) → (first_bad ok n (suc i) ≡ suc i + n → suc i ≤ k → k < suc i + n → ok k ≡ true) → ok k ≡ true
    go true d m q (inl z) rec = ap ok (sym z) ∙ d
    go true d m q (inr z) rec = rec (omega arith) z (omega arith)
    go false d m q z rec = absurd (omega arith)

from_first : (ok : ℕ → Bool) (n k : ℕ) → first_bad ok n 0 ≡ n → k < n → ok k ≡ true
from_first ok n k e h = all_right ok n 0 k (e ∙ sym (zero-add n)) zero-le (omega arith)

-- ---- a right row
module _ (f fs : List ℕ) (used places : ℕ) (right : facts_right f fs used places ≡ true) (few : used ≤ places) where
  used_right_lem : (k : ℕ) → k < used → used_right f fs k ≡ true
  unfolding facts_right fact_right
  used_right_lem k l =
      let at : fact_right f fs used k ≡ true = every_at (fact_right f fs used) places 0 right k zero-le (omega arith) in
      chosen (ltb k used) _ (unused_right fs k) at (lt-ltb k used l)

  fact_is : (k : ℕ) → k < used → RightFact f fs k
  unfolding used_right names_variable has_value
  fact_is k l =
      let b = and_both (names_variable f fs k) _ (used_right_lem k l) in
      record { names = ltb-true _ _ b.0; has = ltb-true _ _ (and_both (has_value f fs k) _ b.1).0 }

  rise_is : (k : ℕ) → suc k < used → fact_variable fs k < fact_variable fs (suc k)
  unfolding used_right rises
  rise_is k l =
      let b = and_both (names_variable f fs (suc k)) _ (used_right_lem (suc k) l) in
      let c : rises fs (suc k) ≡ true = (and_both (has_value f fs (suc k)) _ b.1).1 in
      let e : suc k - 1 ≡ k = omega arith in
      rw e at (ltb-true (fact_variable fs (suc k - 1)) (fact_variable fs (suc k)) (or_second (eqb (suc k) 0) _ c (ne_eqb (suc k) 0 (λ q. omega arith))))

  row_is : RightRow f fs used
  row_is = record { facts = fact_is; rise = rise_is }

-- ---- each kind of record
module _ (f : List ℕ) (a : accepted f ≡ true) where
  variable_is : (v : ℕ) → v < variables f → RightVariable f v
  unfolding variable_right
  variable_is v l =
      let r = and_both _ _ (from_first (variable_right f) _ v (passed f a).variables_right l) in
      let s = and_both _ _ r.1 in
      record { least = leb-true _ _ r.0; most = leb-true _ _ s.0; start = ltb-true _ _ s.1 }

  module _ (o : ℕ) (l : o < operators f) where
    -- so an operator's record is whole: its bytes are those from its place in the file
    pub record_is : operator_record f o ≡ take operator_bytes (drop (operators_at f + operator_bytes * o) f)
    unfolding operator_record
    record_is =
        let ends = (operators_inside f a).ends in
        part_is f (operators_at f + operator_bytes * o) operator_bytes (omega arith)

    record_long : length (operator_record f o) ≡ operator_bytes
    unfolding operator_record
    record_long =
        let ends = (operators_inside f a).ends in
        part_long f (operators_at f + operator_bytes * o) operator_bytes (omega arith)

    right_operator : operator_record_right f (operator_record f o) ≡ true
    unfolding operator_right
    right_operator = from_first (operator_right f) _ o (passed f a).operators_right l

    operator_right_is : RightOperator f (operator_record f o)
    unfolding operator_record_right cost_right fact_counts_right preconditions_right effects_right
    operator_right_is =
        let r = operator_record f o in
        let b = and_both (cost_right r) _ right_operator in
        let d = and_both (fact_counts_right r) _ b.1 in
        let n = and_both _ _ d.0 in
        let g = and_both (preconditions_right f r) _ d.1 in
        record {
          long = record_long;
          dearest = leb-true _ _ b.0;
          few_preconditions = leb-true _ _ n.0;
          few_effects = leb-true _ _ n.1;
          preconditions = row_is f _ _ operator_places g.0 (leb-true _ _ n.0);
          effects = row_is f _ _ operator_places g.1 (leb-true _ _ n.1);
        }

  term_is : (t : ℕ) → t < terms f → RightTerm f (term_record f t)
  unfolding term_right term_record_right term_counts_right term_facts_right
  term_is t l =
      let r = term_record f t in
      let b = and_both (term_counts_right r) _ (from_first (term_right f) _ t (passed f a).terms_right l) in
      let n = and_both (leb (term_count r) term_places) _ b.0 in
      let few : term_count r ≤ term_places = leb-true _ _ n.0 in
      record { few_facts = few; facts = row_is f (term_facts r) (term_count r) term_places b.1 few }

  pub sound : Sound f
  unfolding counts_right
  sound =
      let p = passed f a in
      let b = and_both (leb 1 (variables f)) _ p.header.counts in
      let c = and_both (leb (variables f) most_variables) _ b.1 in
      let d = and_both (leb (operators f) most_operators) _ c.1 in
      let e = and_both (leb (terms f) most_terms) _ d.1 in
      record {
        some_variable = leb-true _ _ b.0;
        few_variables = leb-true _ _ c.0;
        few_operators = leb-true _ _ d.0;
        few_terms = leb-true _ _ e.0;
        low_bound = leb-true _ _ e.1;
        few_bits = p.few_bits;
        variable = variable_is;
        operator = operator_right_is;
        term = term_is;
      }
