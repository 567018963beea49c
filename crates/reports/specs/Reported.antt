-- The answers as C gets them: the documents' number and values.
use Rattle.std.specs.Prelude.{ℕ}
use Rattle.reports.specs.declared.Report.{Report}
use Rattle.reports.specs.declared.Place.{Place}

-- a number and two values
abbrev pub reported : Report → ℕ × ℕ × ℕ
reported r = (r.number, r.first, r.second)

-- a number and a value; whether the state is reached, cost and steps
abbrev pub placed : Place → ℕ × ℕ × ℕ × ℕ × ℕ
placed r = (r.number, r.value, r.reached, r.cost, r.steps)

-- the file check's number and value, then 0
abbrev pub check_numbers : ℕ × ℕ → ℕ × ℕ × ℕ
check_numbers a = (a.0, a.1, 0)
