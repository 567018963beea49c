-- The first of n records that is wrong.
use Rattle.std.specs.Prelude.{ℕ, ◌≡◌, ◌<◌, Option, MatchOption}

-- task's definitions give the number of records where none is wrong; a record's number has two bytes
abbrev pub IsFirst : Option ℕ → ℕ → ℕ → Type 0
IsFirst found first n = MatchOption found (first ≡ n) (λ i. (i ≡ first) × (i < n) × (i < 65536))
