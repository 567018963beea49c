-- The ways out of the tests from 12 on, each with the answer that it gives, over the numbers that the code has: n of the bits, w of the
-- state.
use Prim.Native.Nat.{ℕ}
use mathlib.Core.Path.{◌≡◌, ap}
use mathlib.Core.Bool.{true, false}
use mathlib.Core.List.{List}
use lib.ListN.{length}
use Rattle.std.proofs.Common.{Ok, Err}
use Rattle.planning.specs.Connectives.{pick}
use Rattle.planning.specs.Coding.{bits, code, word}
use Rattle.lent_lists.specs.Lists.{lists_wrong, pairs_wrong, listed}
use Rattle.diagrams.specs.Tree.{trees}
use Rattle.refusal.specs.declared.Refusal.{Refusal}
use Rattle.refusal.specs.declared.Refusal.TheVariants.{ListLengths, State, Lists}
use Rattle.task.specs.Decode.{sizes}
use Rattle.task.specs.Check.{accepted}
use Rattle.task_check.specs.Answers.{refusal_of}
use Rattle.question.specs.Answers.{Answered}
use Rattle.question.specs.Question.{state_right, place_from, ask_of, question_of}
use Rattle.question.specs.PairSets.{held_at}
use Rattle.question.proofs.Places.{place_same, held_in}

module _ (ds state costs steps sets wanted bit low high : List ℕ) (count pairs : ℕ) where
  abbrev due : Answered
  due = ask_of ds state costs steps sets wanted bit low high count pairs

  pub ask_pairs : pairs_wrong (length costs) (length steps) (length sets) (length wanted) ≡ true → Err ListLengths ≡ due
  unfolding ask_of pick
  ask_pairs unequal = rw unequal

  module _ (equal : pairs_wrong (length costs) (length steps) (length sets) (length wanted) ≡ false) where
    pub ask_lists : lists_wrong (length bit) (length low) (length high) ≡ true → Err ListLengths ≡ due
    unfolding ask_of pick
    ask_lists wrong = rw (equal, wrong)

    module _ (right : lists_wrong (length bit) (length low) (length high) ≡ false) where
      pub ask_state : state_right ds state ≡ false → Err State ≡ due
      unfolding ask_of pick
      ask_state wrong = rw (equal, right, wrong)

      module _ (valid : state_right ds state ≡ true) where
        pub ask_listed : listed (bits ds) pairs sets bit low high count ≡ false → Err Lists ≡ due
        unfolding ask_of pick
        ask_listed wrong = rw (equal, right, valid, wrong)

        pub ask_place : listed (bits ds) pairs sets bit low high count ≡ true → Ok (place_from costs steps (held_at sets (trees bit low high count) (word (code ds state))) pairs 0) ≡ due
        unfolding ask_of pick
        ask_place passes =
            rw (equal, right, valid, passes)
            (ap Ok (place_same costs steps _ _ (held_in sets (trees bit low high count) (code ds state)) pairs 0))

-- ---- the file check's answer
module _ (f state costs steps sets wanted bit low high : List ℕ) (count pairs : ℕ) where
  pub file_refused : (refusal : Refusal) → (refusal ≡ refusal_of f) × (accepted f ≡ false) → Err refusal ≡ question_of f state costs steps sets wanted bit low high count pairs
  unfolding question_of pick
  file_refused refusal told = rw (told.1, told.0)

  pub file_accepted : accepted f ≡ true → ask_of (sizes f) state costs steps sets wanted bit low high count pairs ≡ question_of f state costs steps sets wanted bit low high count pairs
  unfolding question_of pick
  file_accepted a = rw a
