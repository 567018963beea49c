-- The tests of the lists that a caller lends: refusals 12 and 21, on lists of numbers and on their lengths.
use Rattle.std.specs.Prelude.{ℕ, ◌-◌, Bool, not, List, eqb, leb, ltb, length, get_or}
use Rattle.planning.specs.Connectives.{◌and◌, ◌or◌}
use Rattle.planning.specs.Scan.{every}

-- the most entries that node lists, utility lists, and the lists of pairs may have
abbrev pub most_entries : ℕ
most_entries = 1048576

-- 12: three lists of these lengths are unequal, or over 1,048,576 long
unfoldable pub lists_wrong : ℕ → ℕ → ℕ → Bool
lists_wrong l m n = not (eqb l m) or not (eqb m n) or ltb most_entries l

-- 12: the four lists of pairs, of these lengths, are unequal, or over 1,048,576 long
unfoldable pub pairs_wrong : ℕ → ℕ → ℕ → ℕ → Bool
pairs_wrong a b c d = not (eqb a b) or not (eqb b c) or not (eqb c d) or ltb most_entries a

-- ---- 21, for a task of n bits
-- the name is 0, 1 or that of an entry below k
unfoldable pub name_right : ℕ → ℕ → Bool
name_right k name = ltb name 2 or ltb (name - 2) k

-- a child of the entry k is 0, 1 or an earlier entry, and a child entry is of a higher bit number than its parent
unfoldable pub child_right : List ℕ → ℕ → ℕ → Bool
child_right bit k child = ltb child 2 or (ltb (child - 2) k and ltb (get_or bit k 0) (get_or bit (child - 2) 0))

-- the entry k has a bit number of the task, and both its children are right
unfoldable pub entry_right : ℕ → List ℕ → List ℕ → List ℕ → ℕ → Bool
entry_right n bit low high k = ltb (get_or bit k 0) n and child_right bit k (get_or low k 0) and child_right bit k (get_or high k 0)

-- every entry below the count is right
unfoldable pub entries_right : ℕ → List ℕ → List ℕ → List ℕ → ℕ → Bool
entries_right n bit low high count = every (entry_right n bit low high) count 0

-- the name of the set of pair i is right
unfoldable pub set_right : List ℕ → ℕ → ℕ → Bool
set_right sets count i = name_right count (get_or sets i 0)

-- the names of the sets of the first pairs, that many, are right
unfoldable pub names_right : List ℕ → ℕ → ℕ → Bool
names_right sets pairs count = every (set_right sets count) pairs 0

-- the lists pass the whole test: the count is not above the node lists, and every entry below it is right; the number of pairs is not above
-- the lists of pairs, and the names of their sets are right
unfoldable pub listed : ℕ → ℕ → List ℕ → List ℕ → List ℕ → List ℕ → ℕ → Bool
listed n pairs sets bit low high count = leb count (length bit) and entries_right n bit low high count and leb pairs (length sets) and names_right sets pairs count
