-- The file check: refusals 1 to 10 in order (document 01, "Refusals in order"), as a number and a value; 0 and 0 for a file that passes.
use Rattle.std.specs.Prelude.{ℕ, ◌+◌, ◌-◌, ◌*◌, Bool, List, length, leb, ltb, eqb}
use Rattle.planning.specs.Connectives.{◌and◌, ◌or◌, pick}
use Rattle.planning.specs.Coding.{bits}
use Rattle.task.specs.Limits.{header_bytes, most_file_bytes, variable_bytes, operator_bytes, term_bytes, most_variables, most_operators, most_terms, most_bound, least_values, most_values, most_cost, operator_places, term_places, most_bits}
use Rattle.task.specs.Bytes.{byte}
use Rattle.planning.specs.Scan.{first_bad, every}
use Rattle.task.specs.Format.{letters, variables, operators, terms, bound, variables_at, operators_at, terms_at, file_length, operator_record, term_record, size, start_value, cost, precondition_count, effect_count, preconditions, effects, term_count, term_zero, term_facts, fact_variable, fact_value}
use Rattle.task.specs.Decode.{sizes}

-- ---- 3: the first four bytes are the letters BPT1
unfoldable pub letter_right : List ℕ → ℕ → Bool
letter_right f i = eqb (byte f i) (byte letters i)

unfoldable pub letters_right : List ℕ → Bool
letters_right f = letter_right f 0 and letter_right f 1 and letter_right f 2 and letter_right f 3

-- ---- 4: the length field
unfoldable pub length_right : List ℕ → Bool
length_right f = eqb (file_length f) (length f)

-- ---- 5: each count and the bound in its range
unfoldable pub counts_right : List ℕ → Bool
counts_right f =
    leb 1 (variables f)
    and leb (variables f) most_variables
    and leb (operators f) most_operators
    and leb (terms f) most_terms
    and leb (bound f) most_bound

-- ---- 6: the section of n bytes from at stands after the header, in a file of len bytes
unfoldable pub section_inside : ℕ → ℕ → ℕ → Bool
section_inside len at n = leb header_bytes at and leb (at + n) len

-- sections of m bytes from a, and of n bytes from b: one is empty, or ends before the other begins
unfoldable pub apart : ℕ → ℕ → ℕ → ℕ → Bool
apart a m b n = eqb m 0 or eqb n 0 or leb (a + m) b or leb (b + n) a

unfoldable pub all_inside : List ℕ → Bool
all_inside f =
    section_inside (length f) (variables_at f) (variable_bytes * variables f)
    and section_inside (length f) (operators_at f) (operator_bytes * operators f)
    and section_inside (length f) (terms_at f) (term_bytes * terms f)

unfoldable pub all_apart : List ℕ → Bool
all_apart f =
    apart (variables_at f) (variable_bytes * variables f) (operators_at f) (operator_bytes * operators f)
    and apart (variables_at f) (variable_bytes * variables f) (terms_at f) (term_bytes * terms f)
    and apart (operators_at f) (operator_bytes * operators f) (terms_at f) (term_bytes * terms f)

-- ---- the refusals 1 to 6, of the header alone
unfoldable pub header_fault : List ℕ → ℕ
header_fault f =
    pick (ltb (length f) header_bytes) 1
    (pick (ltb most_file_bytes (length f)) 2
    (pick (letters_right f)
    (pick (length_right f)
    (pick (counts_right f) (pick (all_inside f) (pick (all_apart f) 0 6) 6) 5)
    4)
    3))

-- ---- a row of facts
unfoldable pub names_variable : List ℕ → List ℕ → ℕ → Bool
names_variable f fs k = ltb (fact_variable fs k) (variables f)

unfoldable pub has_value : List ℕ → List ℕ → ℕ → Bool
has_value f fs k = ltb (fact_value fs k) (size f (fact_variable fs k))

unfoldable pub rises : List ℕ → ℕ → Bool
rises fs k = eqb k 0 or ltb (fact_variable fs (k - 1)) (fact_variable fs k)

-- in a used place: a variable of the file, a value it has, and a higher number than the fact before
unfoldable pub used_right : List ℕ → List ℕ → ℕ → Bool
used_right f fs k = names_variable f fs k and has_value f fs k and rises fs k

-- in an unused place: two zero bytes
unfoldable pub unused_right : List ℕ → ℕ → Bool
unused_right fs k = eqb (fact_variable fs k) 0 and eqb (fact_value fs k) 0

unfoldable pub fact_right : List ℕ → List ℕ → ℕ → ℕ → Bool
fact_right f fs used k = pick (ltb k used) (used_right f fs k) (unused_right fs k)

-- the first `used` of so many places are used
unfoldable pub facts_right : List ℕ → List ℕ → ℕ → ℕ → Bool
facts_right f fs used places = every (fact_right f fs used) places 0

-- ---- 7: a variable's record
unfoldable pub variable_right : List ℕ → ℕ → Bool
variable_right f v =
    leb least_values (size f v) and leb (size f v) most_values and ltb (start_value f v) (size f v)

-- ---- 9: an operator's record r
unfoldable pub cost_right : List ℕ → Bool
cost_right r = leb (cost r) most_cost

unfoldable pub fact_counts_right : List ℕ → Bool
fact_counts_right r = leb (precondition_count r) operator_places and leb (effect_count r) operator_places

unfoldable pub preconditions_right : List ℕ → List ℕ → Bool
preconditions_right f r = facts_right f (preconditions r) (precondition_count r) operator_places

unfoldable pub effects_right : List ℕ → List ℕ → Bool
effects_right f r = facts_right f (effects r) (effect_count r) operator_places

unfoldable pub operator_record_right : List ℕ → List ℕ → Bool
operator_record_right f r = cost_right r and fact_counts_right r and preconditions_right f r and effects_right f r

unfoldable pub operator_right : List ℕ → ℕ → Bool
operator_right f o = operator_record_right f (operator_record f o)

-- ---- 10: a term's record r
unfoldable pub term_counts_right : List ℕ → Bool
term_counts_right r = leb (term_count r) term_places and eqb (term_zero r) 0

unfoldable pub term_facts_right : List ℕ → List ℕ → Bool
term_facts_right f r = facts_right f (term_facts r) (term_count r) term_places

unfoldable pub term_record_right : List ℕ → List ℕ → Bool
term_record_right f r = term_counts_right r and term_facts_right f r

unfoldable pub term_right : List ℕ → ℕ → Bool
term_right f t = term_record_right f (term_record f t)

-- ---- the first record of each kind that is against the rules, or their number
abbrev pub first_bad_variable : List ℕ → ℕ
first_bad_variable f = first_bad (variable_right f) (variables f) 0

abbrev pub first_bad_operator : List ℕ → ℕ
first_bad_operator f = first_bad (operator_right f) (operators f) 0

abbrev pub first_bad_term : List ℕ → ℕ
first_bad_term f = first_bad (term_right f) (terms f) 0

-- ---- all ten, in order: the tests from the terms on, from the operators on, and so forth
abbrev pub check_terms : List ℕ → ℕ × ℕ
check_terms f = pick (eqb (first_bad_term f) (terms f)) (0, 0) (10, first_bad_term f)

abbrev pub check_operators : List ℕ → ℕ × ℕ
check_operators f = pick (eqb (first_bad_operator f) (operators f)) (check_terms f) (9, first_bad_operator f)

abbrev pub check_bits : List ℕ → ℕ × ℕ
check_bits f = pick (leb (bits (sizes f)) most_bits) (check_operators f) (8, 0)

abbrev pub check_variables : List ℕ → ℕ × ℕ
check_variables f = pick (eqb (first_bad_variable f) (variables f)) (check_bits f) (7, first_bad_variable f)

unfoldable pub check_of : List ℕ → ℕ × ℕ
check_of f = pick (eqb (header_fault f) 0) (check_variables f) (header_fault f, 0)

-- the file passes the check
unfoldable pub accepted : List ℕ → Bool
accepted f = eqb (check_of f).0 0
