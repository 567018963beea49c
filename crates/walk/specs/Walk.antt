-- The walk of a plan: what each step tests (document 01's 17, 18 and 19), and the cost and utility that it ends with.
use Rattle.std.specs.Prelude.{ℕ, suc, ◌+◌, ◌*◌, ◌/◌, ◌%◌, List, [], ◌∷◌, length, eqb, leb, ltb, Result, Ok, Err}
use Rattle.planning.specs.Connectives.{pick}
use Rattle.planning.specs.Scan.{tab}
use Rattle.planning.specs.Model.{Task, holds, apply, state_utility, operator_at}
use Rattle.task.specs.Bytes.{le16}
use Rattle.refusal.specs.declared.Fault.{Fault}
use Rattle.refusal.specs.declared.Fault.TheVariants.{Operator, Precondition, Bound}
use Rattle.refusal.specs.declared.Refusal.{Refusal}
use Rattle.refusal.specs.declared.Refusal.TheVariants.{PlanOdd, Step}
use Rattle.task.specs.Check.{accepted}
use Rattle.task.specs.Decode.{task_of}
use Rattle.task_check.specs.Answers.{refusal_of}
use Rattle.walk.specs.declared.Reached.{Reached}

-- the walk stops at step i
abbrev pub stops_at : ℕ → Fault → Result Reached Refusal
stops_at i fault = Err (Step i fault)

-- the walk ends with this cost and this utility
abbrev pub reaches : ℕ → ℕ → Result Reached Refusal
reaches cost utility = Ok (record { cost = cost; utility = utility })

-- operator o in the state s, after the cost c: the cost with it, or its fault
unfoldable pub step_of : Task → List ℕ → ℕ → ℕ → Result ℕ Fault
step_of t s c o =
    pick (ltb o (length t.operators))
    (pick (holds s (operator_at t.operators o).pre)
    (pick (leb (c + (operator_at t.operators o).cost) t.bound) (Ok (c + (operator_at t.operators o).cost)) (Err Bound))
    (Err Precondition))
    (Err Operator)

-- from step i on, in the state s, after the cost c
unfoldable pub walk_from : Task → ℕ → List ℕ → ℕ → List ℕ → Result Reached Refusal
walk_from t i s c [] = reaches c (state_utility t.terms s)
walk_from t i s c (o ∷ p) =
    pick (ltb o (length t.operators))
    (pick (holds s (operator_at t.operators o).pre)
    (pick (leb (c + (operator_at t.operators o).cost) t.bound)
    (walk_from t (suc i) (apply s (operator_at t.operators o).eff) (c + (operator_at t.operators o).cost) p)
    (stops_at i Bound))
    (stops_at i Precondition))
    (stops_at i Operator)

-- two bytes for each step, low byte first
abbrev pub step_at : List ℕ → ℕ → ℕ
step_at plan i = le16 plan (2 * i)

abbrev pub steps : List ℕ → List ℕ
steps plan = tab (step_at plan) (length plan / 2) 0

-- the walk of a plan's bytes over a file's: 1 to 10, then 16, then 17 to 19 at each step
unfoldable pub walk_of : List ℕ → List ℕ → Result Reached Refusal
walk_of f plan =
    pick (accepted f)
    (pick (eqb (length plan % 2) 0) (walk_from (task_of f) 0 (task_of f).start 0 (steps plan)) (Err PlanOdd))
    (Err (refusal_of f))
