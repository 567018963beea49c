-- The question about one state: its least cost and the fewest steps at that cost, by lists that an earlier search left and that nobody
-- vouches for.
use Rattle.std.specs.Prelude.{ℕ, zero, suc, Bool, List, Option, None, Ok, Err, eqb, ltb, length, get_or}
use Rattle.refusal.specs.declared.Refusal.TheVariants.{ListLengths, State, Lists}
use Rattle.planning.specs.Connectives.{◌and◌, pick}
use Rattle.planning.specs.Scan.{every}
use Rattle.planning.specs.Coding.{bits, code}
use Rattle.lent_lists.specs.Lists.{lists_wrong, pairs_wrong, listed}
use Rattle.diagrams.specs.Tree.{Tree, named, trees, member}
use Rattle.task.specs.Decode.{sizes}
use Rattle.task.specs.Check.{accepted}
use Rattle.task_check.specs.Answers.{refusal_of}
use Rattle.question.specs.declared.Place.{Place}
use Rattle.question.specs.Answers.{Answered, reached}

-- ---- 20, of a state of a task whose variables have these numbers of values
-- the value of variable v is in its range
unfoldable pub value_right : List ℕ → List ℕ → ℕ → Bool
value_right ds state v = ltb (get_or state v 0) (get_or ds v 0)

-- there is a value for each variable, and each is in its range
unfoldable pub state_right : List ℕ → List ℕ → Bool
state_right ds state = eqb (length state) (length ds) and every (value_right ds state) (length ds) 0

-- ---- the answer
-- the set of pair i holds the state with the bits σ
unfoldable pub in_set : List ℕ → List Tree → List Bool → ℕ → Bool
in_set sets entries σ i = member (named entries (get_or sets i 0)) σ

-- cost and steps of the first of the n pairs from i whose set holds the state
unfoldable pub place_from : List ℕ → List ℕ → (ℕ → Bool) → ℕ → ℕ → Option Place
place_from costs steps holds zero i = None
place_from costs steps holds (suc n) i = pick (holds i) (reached (get_or costs i 0) (get_or steps i 0)) (place_from costs steps holds n (suc i))

-- 12, for the lists of pairs and for the node lists; 20, 21 and the answer; for a task whose variables have these numbers of values
unfoldable pub ask_of : List ℕ → List ℕ → List ℕ → List ℕ → List ℕ → List ℕ → List ℕ → List ℕ → List ℕ → ℕ → ℕ → Answered
ask_of ds state costs steps sets wanted bit low high count pairs =
    pick (pairs_wrong (length costs) (length steps) (length sets) (length wanted)) (Err ListLengths)
    (pick (lists_wrong (length bit) (length low) (length high)) (Err ListLengths)
    (pick (state_right ds state)
    (pick (listed (bits ds) pairs sets bit low high count)
    (Ok (place_from costs steps (in_set sets (trees bit low high count) (code ds state)) pairs 0))
    (Err Lists))
    (Err State)))

-- the file check first
unfoldable pub question_of : List ℕ → List ℕ → List ℕ → List ℕ → List ℕ → List ℕ → List ℕ → List ℕ → List ℕ → ℕ → ℕ → Answered
question_of file state costs steps sets wanted bit low high count pairs =
    pick (accepted file) (ask_of (sizes file) state costs steps sets wanted bit low high count pairs) (Err (refusal_of file))
