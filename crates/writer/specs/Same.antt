-- Two files carry the same counts, bound and records in order. Nothing is said of where the sections stand.
use Rattle.std.specs.Prelude.{ℕ, ◌<◌, ◌≡◌, List}
use Rattle.task.specs.Format.{variables, operators, terms, bound, variable_record, operator_record, term_record}

pub record Same (f g : List ℕ) : Type 0 where
  pub variable_count : variables f ≡ variables g
  pub operator_count : operators f ≡ operators g
  pub term_count_lem : terms f ≡ terms g
  pub bounds : bound f ≡ bound g
  pub variable_records : (v : ℕ) → v < variables f → variable_record f v ≡ variable_record g v
  pub operator_records : (o : ℕ) → o < operators f → operator_record f o ≡ operator_record g o
  pub term_records : (t : ℕ) → t < terms f → term_record f t ≡ term_record g t
