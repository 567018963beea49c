-- The stand cases of the file check and the walk, by computation on the bytes of their files.
use Prim.Native.Nat.{ℕ}
use mathlib.Core.Path.{◌≡◌, refl}
use mathlib.Core.List.{List, [], ◌∷◌, ◌++◌}
use Rattle.planning.specs.Connectives.{◌and◌, ◌or◌, pick}
use Rattle.planning.specs.Scan.{first_bad, every, tab}
use Rattle.planning.specs.Model.{value_of, holds, apply, state_utility, operator_at}
use Rattle.planning.specs.Coding.{wide, width, bits}
use Rattle.task.specs.Bytes.{byte, le16, le32, part}
use Rattle.task.specs.Format.{variable_record, operator_record, term_record, effects}
use Rattle.task.specs.Decode.{facts, sizes, task_of}
use Rattle.task.specs.Check.{letter_right, letters_right, length_right, counts_right, section_inside, apart, all_inside, all_apart, header_fault, names_variable, has_value, rises, used_right, unused_right, fact_right, facts_right, variable_right, cost_right, fact_counts_right, preconditions_right, effects_right, operator_record_right, operator_right, term_counts_right, term_facts_right, term_record_right, term_right, check_of, accepted}
use Rattle.refusal.specs.declared.Fault.TheVariants.{Operator, Precondition, Bound}
use Rattle.std.specs.Prelude.{Result, Err}
use Rattle.refusal.specs.declared.Refusal.{Refusal}
use Rattle.refusal.specs.declared.Refusal.TheVariants.{PlanOdd}
use Rattle.walk.specs.declared.Reached.{Reached}
use Rattle.walk.specs.Walk.{stops_at, reaches, walk_from, walk_of}
use Rattle.task.specs.Cases.{header, operator, file_p, file_q, file_of}

-- the file check: P and Q; 16 and 17 values; an operator of cost 0; 48 and 49 bits; no bytes
pub checks :
    ◌≡◌ {A = List (ℕ × ℕ)}
    (check_of (file_p 1)
    ∷ check_of (file_q 5)
    ∷ check_of (file_of 1 (16 ∷ 15 ∷ []))
    ∷ check_of (file_of 1 (17 ∷ 0 ∷ []))
    ∷ check_of (header 1 1 0 0 ++ (2 ∷ 0 ∷ []) ++ operator 0 0 0 [] [])
    ∷ check_of (file_of 12 (16 ∷ 0 ∷ 16 ∷ 0 ∷ 16 ∷ 0 ∷ 16 ∷ 0 ∷ 16 ∷ 0 ∷ 16 ∷ 0 ∷ 16 ∷ 0 ∷ 16 ∷ 0 ∷ 16 ∷ 0 ∷ 16 ∷ 0 ∷ 16 ∷ 0 ∷ 16 ∷ 0 ∷ []))
    ∷ check_of (file_of 13 (16 ∷ 0 ∷ 16 ∷ 0 ∷ 16 ∷ 0 ∷ 16 ∷ 0 ∷ 16 ∷ 0 ∷ 16 ∷ 0 ∷ 16 ∷ 0 ∷ 16 ∷ 0 ∷ 16 ∷ 0 ∷ 16 ∷ 0 ∷ 16 ∷ 0 ∷ 16 ∷ 0 ∷ 2 ∷ 0 ∷ []))
    ∷ check_of []
    ∷ [])
    ((0, 0) ∷ (0, 0) ∷ (0, 0) ∷ (7, 0) ∷ (0, 0) ∷ (0, 0) ∷ (8, 0) ∷ (1, 0) ∷ [])
unfolding ◌and◌ ◌or◌ pick first_bad every tab wide width bits byte le16 le32 part variable_record operator_record term_record effects sizes letter_right letters_right length_right counts_right section_inside apart all_inside all_apart header_fault names_variable has_value rises used_right unused_right fact_right facts_right variable_right cost_right fact_counts_right preconditions_right effects_right operator_record_right operator_right term_counts_right term_facts_right term_record_right term_right check_of
checks = refl

-- the walk over P: 1, 2 with b = 2; 1, 2 with b = 1; 1, 1; 3; and Q with b = 5: 1, 2
pub walks :
    ◌≡◌ {A = List (Result Reached Refusal)}
    (walk_of (file_p 2) (1 ∷ 0 ∷ 2 ∷ 0 ∷ [])
    ∷ walk_of (file_p 1) (1 ∷ 0 ∷ 2 ∷ 0 ∷ [])
    ∷ walk_of (file_p 2) (1 ∷ 0 ∷ 1 ∷ 0 ∷ [])
    ∷ walk_of (file_p 2) (3 ∷ 0 ∷ [])
    ∷ walk_of (file_p 2) (3 ∷ [])
    ∷ walk_of (file_q 5) (1 ∷ 0 ∷ 2 ∷ 0 ∷ [])
    ∷ [])
    (reaches 2 3 ∷ stops_at 1 Bound ∷ stops_at 1 Precondition ∷ stops_at 0 Operator ∷ Err PlanOdd ∷ reaches 4 7 ∷ [])
unfolding ◌and◌ ◌or◌ pick first_bad every tab wide width bits byte le16 le32 part variable_record operator_record term_record effects sizes letter_right letters_right length_right counts_right section_inside apart all_inside all_apart header_fault names_variable has_value rises used_right unused_right fact_right facts_right variable_right cost_right fact_counts_right preconditions_right effects_right operator_record_right operator_right term_counts_right term_facts_right term_record_right term_right check_of accepted facts task_of value_of holds apply state_utility operator_at walk_from walk_of
walks = refl
