-- Where each thing of a task file stands (document 01, "Task file"). A record is the list of its bytes, and its fields are read there.
use Rattle.std.specs.Prelude.{ℕ, ◌+◌, ◌*◌, List, [], ◌∷◌, length, drop, eqb}
use Rattle.planning.specs.Connectives.{pick}
use Rattle.task.specs.Limits.{variable_bytes, operator_bytes, term_bytes, facts_at, effects_at, operator_places, term_places}
use Rattle.task.specs.Bytes.{byte, le16, le32, part}

-- ---- header
-- B P T 1
abbrev pub letters : List ℕ
letters = 66 ∷ 80 ∷ 84 ∷ 49 ∷ []

abbrev pub variables : List ℕ → ℕ
variables f = le16 f 4

abbrev pub operators : List ℕ → ℕ
operators f = le16 f 6

abbrev pub terms : List ℕ → ℕ
terms f = le16 f 8

abbrev pub bound : List ℕ → ℕ
bound f = le16 f 10

-- where the variable, operator and term sections begin
abbrev pub variables_at : List ℕ → ℕ
variables_at f = le32 f 12

abbrev pub operators_at : List ℕ → ℕ
operators_at f = le32 f 16

abbrev pub terms_at : List ℕ → ℕ
terms_at f = le32 f 20

abbrev pub file_length : List ℕ → ℕ
file_length f = le32 f 24

-- ---- records, as the bytes that they have
unfoldable pub variable_record : List ℕ → ℕ → List ℕ
variable_record f v = part f (variables_at f + variable_bytes * v) variable_bytes

unfoldable pub operator_record : List ℕ → ℕ → List ℕ
operator_record f o = part f (operators_at f + operator_bytes * o) operator_bytes

unfoldable pub term_record : List ℕ → ℕ → List ℕ
term_record f t = part f (terms_at f + term_bytes * t) term_bytes

-- ---- a variable: its number of values, its starting value
abbrev pub size : List ℕ → ℕ → ℕ
size f v = byte (variable_record f v) 0

abbrev pub start_value : List ℕ → ℕ → ℕ
start_value f v = byte (variable_record f v) 1

-- ---- an operator's record
abbrev pub cost : List ℕ → ℕ
cost r = le16 r 0

abbrev pub precondition_count : List ℕ → ℕ
precondition_count r = byte r 2

abbrev pub effect_count : List ℕ → ℕ
effect_count r = byte r 3

abbrev pub preconditions : List ℕ → List ℕ
preconditions r = part r facts_at (2 * operator_places)

-- the part that begins at byte 20: the last 16 of its 36 bytes
unfoldable pub effects : List ℕ → List ℕ
effects r = pick (eqb (length r) operator_bytes) (drop effects_at r) []

-- ---- a term's record
abbrev pub weight : List ℕ → ℕ
weight r = le16 r 0

abbrev pub term_count : List ℕ → ℕ
term_count r = byte r 2

abbrev pub term_zero : List ℕ → ℕ
term_zero r = byte r 3

abbrev pub term_facts : List ℕ → List ℕ
term_facts r = part r facts_at (2 * term_places)

-- ---- a row of facts: two bytes each
abbrev pub fact_variable : List ℕ → ℕ → ℕ
fact_variable fs k = byte fs (2 * k)

abbrev pub fact_value : List ℕ → ℕ → ℕ
fact_value fs k = byte fs (2 * k + 1)
