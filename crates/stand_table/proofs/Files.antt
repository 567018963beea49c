-- The stand's files pass the file check and hold the tasks P and Q, by computation on their bytes.
use mathlib.Core.Path.{◌≡◌, refl}
use mathlib.Core.Bool.{true}
use mathlib.Core.List.{List}
use Prim.Native.Nat.{ℕ}
use Rattle.planning.specs.Connectives.{◌and◌, ◌or◌, pick}
use Rattle.planning.specs.Scan.{first_bad, every, tab}
use Rattle.planning.specs.Model.{Task}
use Rattle.planning.specs.Coding.{wide, width, bits}
use Rattle.planning.specs.Cases.{fact, P, Q}
use Rattle.task.specs.Bytes.{byte, le16, le32, part}
use Rattle.task.specs.Format.{variable_record, operator_record, term_record, effects}
use Rattle.task.specs.Decode.{facts, sizes, task_of}
use Rattle.task.specs.Check.{letter_right, letters_right, length_right, counts_right, section_inside, apart, all_inside, all_apart, header_fault, names_variable, has_value, rises, used_right, unused_right, fact_right, facts_right, variable_right, cost_right, fact_counts_right, preconditions_right, effects_right, operator_record_right, operator_right, term_counts_right, term_facts_right, term_record_right, term_right, check_of, accepted}
use Rattle.task.specs.Cases.{file_p, file_q}

-- the file is accepted and holds the task
pub record Holds (f : List ℕ) (t : Task) : Type 0 where
  pub sound : accepted f ≡ true
  pub task : task_of f ≡ t

pub files :
    Holds (file_p 0) (P 0)
    × Holds (file_p 1) (P 1)
    × Holds (file_p 2) (P 2)
    × Holds (file_q 3) (Q 3)
    × Holds (file_q 4) (Q 4)
    × Holds (file_q 5) (Q 5)
unfolding ◌and◌ ◌or◌ pick first_bad every tab wide width bits byte le16 le32 part variable_record operator_record term_record effects sizes letter_right letters_right length_right counts_right section_inside apart all_inside all_apart header_fault names_variable has_value rises used_right unused_right fact_right facts_right variable_right cost_right fact_counts_right preconditions_right effects_right operator_record_right operator_right term_counts_right term_facts_right term_record_right term_right check_of accepted facts task_of fact P Q
files = (
  record { sound = refl; task = refl },
  record { sound = refl; task = refl },
  record { sound = refl; task = refl },
  record { sound = refl; task = refl },
  record { sound = refl; task = refl },
  record { sound = refl; task = refl },
)
