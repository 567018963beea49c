-- The listing's time, from cost and bound (document 02): whole minutes, units left over, units unused.
use Rattle.std.specs.Prelude.{ℕ, ◌+◌, ◌*◌, ◌-◌, ◌/◌, ◌%◌, ◌≤◌, ◌≡◌}
use Rattle.shift_time.specs.declared.Time.{Time}

-- a unit is ten seconds
abbrev pub minute : ℕ
minute = 6

abbrev pub time_of : ℕ → ℕ → Time
time_of cost bound = record { minutes = cost / minute; units = cost % minute; unused = bound - cost }

-- the document's words: units left over are 0 to 5, with six times the minutes they make the cost; unused and cost make the bound
pub record TellsTime (cost bound : ℕ) (t : Time) : Type 0 where
  pub units : t.units ≤ 5
  pub spent : 6 * t.minutes + t.units ≡ cost
  pub whole : t.unused + cost ≡ bound
