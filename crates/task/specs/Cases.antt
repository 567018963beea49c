-- The stand tasks P and Q as the bytes of their files, for each bound.
use Rattle.std.specs.Prelude.{ℕ, ◌+◌, ◌*◌, List, [], ◌∷◌, ◌++◌, take, replicate}
use Rattle.task.specs.Bytes.{bytes16}
use Rattle.task.specs.Format.{letters}

-- bytes, and zeros behind them up to n
abbrev padded : ℕ → List ℕ → List ℕ
padded n bytes = take n (bytes ++ replicate n 0)

-- a number below 65,536 in four bytes, low byte first
abbrev four : ℕ → List ℕ
four x = bytes16 x ++ (0 ∷ 0 ∷ [])

-- letters, counts, bound, the sections' offsets and the length, for a file of the given length
abbrev header_of : ℕ → ℕ → ℕ → ℕ → ℕ → ℕ → ℕ → List ℕ
header_of v o t b operators_at terms_at bytes =
    letters ++ bytes16 v ++ bytes16 o ++ bytes16 t ++ bytes16 b ++ four 28 ++ four operators_at ++ four terms_at ++ four bytes

-- the sections stand one behind the other
abbrev pub header : ℕ → ℕ → ℕ → ℕ → List ℕ
header v o t b = header_of v o t b (28 + 2 * v) (28 + 2 * v + 36 * o) (28 + 2 * v + 36 * o + 12 * t)

-- cost and counts, the preconditions, the effects
abbrev pub operator : ℕ → ℕ → ℕ → List ℕ → List ℕ → List ℕ
operator cost pres effs pre eff = cost ∷ 0 ∷ pres ∷ effs ∷ padded 16 pre ++ padded 16 eff

-- weight and count, the facts
abbrev pub term : ℕ → ℕ → List ℕ → List ℕ
term weight count facts = weight ∷ 0 ∷ count ∷ 0 ∷ padded 8 facts

abbrev pub file_p : ℕ → List ℕ
file_p b =
    header 2 3 2 b
    ++ (2 ∷ 0 ∷ 2 ∷ 0 ∷ [])
    ++ operator 1 2 1 (0 ∷ 0 ∷ 1 ∷ 0 ∷ []) (1 ∷ 1 ∷ [])
    ++ operator 1 2 1 (0 ∷ 0 ∷ 1 ∷ 0 ∷ []) (0 ∷ 1 ∷ [])
    ++ operator 1 2 1 (0 ∷ 1 ∷ 1 ∷ 0 ∷ []) (1 ∷ 1 ∷ [])
    ++ term 2 1 (0 ∷ 1 ∷ [])
    ++ term 1 2 (0 ∷ 1 ∷ 1 ∷ 1 ∷ [])

abbrev pub file_q : ℕ → List ℕ
file_q b =
    header 1 4 1 b
    ++ (3 ∷ 0 ∷ [])
    ++ operator 5 1 1 (0 ∷ 0 ∷ []) (0 ∷ 2 ∷ [])
    ++ operator 2 1 1 (0 ∷ 0 ∷ []) (0 ∷ 1 ∷ [])
    ++ operator 2 1 1 (0 ∷ 1 ∷ []) (0 ∷ 2 ∷ [])
    ++ operator 4 1 1 (0 ∷ 0 ∷ []) (0 ∷ 2 ∷ [])
    ++ term 7 1 (0 ∷ 2 ∷ [])

-- so many variables and nothing else
abbrev pub file_of : ℕ → List ℕ → List ℕ
file_of count variables = header count 0 0 0 ++ variables

-- variables of 3 and 4 values, two operators and a term; operator 1 has no precondition, and the fact 0, 0 as its effect
abbrev pub file_plain : List ℕ
file_plain =
    header 2 2 1 5
    ++ (3 ∷ 1 ∷ 4 ∷ 0 ∷ [])
    ++ operator 2 2 1 (0 ∷ 1 ∷ 1 ∷ 0 ∷ []) (1 ∷ 3 ∷ [])
    ++ operator 1 0 1 [] (0 ∷ 0 ∷ [])
    ++ term 7 2 (0 ∷ 1 ∷ 1 ∷ 3 ∷ [])
