-- The file that the writer puts out: the header, then the variables, the operators and the terms, without gaps (document 02, Paper 2).
use Rattle.std.specs.Prelude.{ℕ, ◌+◌, ◌*◌, length, take}
use mathlib.Core.List.{List, [], ◌∷◌, ◌++◌, flatten, flat_map}
use Rattle.planning.specs.Scan.{tab}
use Rattle.task.specs.Limits.{header_bytes, variable_bytes, operator_bytes, term_bytes, most_variables, most_operators, most_terms}
use Rattle.task.specs.Bytes.{bytes16, bytes32}
use Rattle.task.specs.Format.{letters, variables, operators, terms, bound, variable_record, operator_record, term_record}

-- the sections in the order in which they are written, each its records one behind the other
unfoldable pub sections : List ℕ → List (List ℕ)
sections f =
    flatten (tab (variable_record f) (variables f) 0)
    ∷ flatten (tab (operator_record f) (operators f) 0)
    ∷ flatten (tab (term_record f) (terms f) 0)
    ∷ []

abbrev pub section_count : ℕ
section_count = 3

-- where section k begins, an empty one too: behind the header and the sections before it; behind the last, where the file ends
unfoldable pub begin : List ℕ → ℕ → ℕ
begin f k = header_bytes + length (flatten (take k (sections f)))

-- the header: letters, counts and bound; then the offsets and the length
unfoldable pub counts : List ℕ → List ℕ
counts f = letters ++ flat_map bytes16 (variables f ∷ operators f ∷ terms f ∷ bound f ∷ [])

unfoldable pub offsets : List ℕ → List ℕ
offsets f = flat_map bytes32 (begin f 0 ∷ begin f 1 ∷ begin f 2 ∷ begin f section_count ∷ [])

unfoldable pub header : List ℕ → List ℕ
header f = counts f ++ offsets f

unfoldable pub written : List ℕ → List ℕ
written f = header f ++ flatten (sections f)

-- the most bytes that a written file has: with the most variables, operators and terms
abbrev pub most_written_bytes : ℕ
most_written_bytes = header_bytes + variable_bytes * most_variables + operator_bytes * most_operators + term_bytes * most_terms
