-- The numbers of document 01's section "Task file", each under one name.
use Rattle.std.specs.Prelude.{ℕ}

-- ---- bytes
abbrev pub header_bytes : ℕ
header_bytes = 28

abbrev pub most_file_bytes : ℕ
most_file_bytes = 16384

abbrev pub variable_bytes : ℕ
variable_bytes = 2

abbrev pub operator_bytes : ℕ
operator_bytes = 36

abbrev pub term_bytes : ℕ
term_bytes = 12

-- where the facts of an operator's or a term's record begin, and where an operator's effects do
abbrev pub facts_at : ℕ
facts_at = 4

abbrev pub effects_at : ℕ
effects_at = 20

-- ---- counts
abbrev pub most_variables : ℕ
most_variables = 32

abbrev pub most_operators : ℕ
most_operators = 256

abbrev pub most_terms : ℕ
most_terms = 256

abbrev pub most_bound : ℕ
most_bound = 4095

abbrev pub least_values : ℕ
least_values = 2

abbrev pub most_values : ℕ
most_values = 16

abbrev pub most_cost : ℕ
most_cost = 4095

-- the places for preconditions, and for effects, of an operator, and for facts of a term
abbrev pub operator_places : ℕ
operator_places = 8

abbrev pub term_places : ℕ
term_places = 4

abbrev pub most_bits : ℕ
most_bits = 48
