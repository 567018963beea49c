-- The task that a file holds.
use Rattle.std.specs.Prelude.{ℕ, List}
use Rattle.planning.specs.Model.{Fact, Operator, Term, Task}
use Rattle.planning.specs.Scan.{tab}
use Rattle.task.specs.Format.{variables, operators, terms, bound, operator_record, term_record, size, start_value, cost, precondition_count, preconditions, effect_count, effects, weight, term_count, term_facts, fact_variable, fact_value}

abbrev pub fact_at : List ℕ → ℕ → Fact
fact_at fs k = record { var = fact_variable fs k; val = fact_value fs k }

-- the first n facts of a row
unfoldable pub facts : List ℕ → ℕ → List Fact
facts fs n = tab (fact_at fs) n 0

-- what the bytes of an operator's record, and of a term's, say
abbrev read_operator : List ℕ → Operator
read_operator r =
    record { cost = cost r; pre = facts (preconditions r) (precondition_count r); eff = facts (effects r) (effect_count r) }

abbrev read_term : List ℕ → Term
read_term r = record { weight = weight r; facts = facts (term_facts r) (term_count r) }

-- operator o of a file, and term t
abbrev pub operator_in : List ℕ → ℕ → Operator
operator_in f o = read_operator (operator_record f o)

abbrev pub term_in : List ℕ → ℕ → Term
term_in f t = read_term (term_record f t)

-- the variables' numbers of values
unfoldable pub sizes : List ℕ → List ℕ
sizes f = tab (size f) (variables f) 0

unfoldable pub task_of : List ℕ → Task
task_of f =
    record {
      sizes = sizes f;
      start = tab (start_value f) (variables f) 0;
      operators = tab (operator_in f) (operators f) 0;
      terms = tab (term_in f) (terms f) 0;
      bound = bound f;
    }
