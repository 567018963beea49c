-- Number and place of each refusal, as documents 01 and 02 have them; and the refusal of a number and a place.
use Rattle.std.specs.Prelude.{ℕ, eqb, cond}
use Rattle.refusal.specs.declared.Fault.{Fault}
use Rattle.refusal.specs.declared.Fault.TheVariants.{Operator as NoOperator, Precondition, Bound}
use Rattle.refusal.specs.declared.Refusal.{Refusal}
use Rattle.refusal.specs.declared.Refusal.TheVariants.{FileShort, FileLong, Letters, FileLength, Counts, Sections, Variable, Bits, Operator, Term, ListLengths, UtilitiesFull, NodesFull, PlanFull, PlanOdd, Step, State, Lists, OutputShort, PairsFull, StatesFull}

abbrev pub fault_number : Fault → ℕ
fault_number NoOperator = 17
fault_number Precondition = 18
fault_number Bound = 19

abbrev pub number : Refusal → ℕ
number FileShort = 1
number FileLong = 2
number Letters = 3
number FileLength = 4
number Counts = 5
number Sections = 6
number (Variable v) = 7
number Bits = 8
number (Operator o) = 9
number (Term t) = 10
number ListLengths = 12
number UtilitiesFull = 13
number NodesFull = 14
number PlanFull = 15
number PlanOdd = 16
number (Step i fault) = fault_number fault
number State = 20
number Lists = 21
number OutputShort = 22
number PairsFull = 23
number StatesFull = 24

-- the number of the record or step that it is about; 0 where it is about none
abbrev pub place : Refusal → ℕ
place (Variable v) = v
place (Operator o) = o
place (Term t) = t
place (Step i fault) = i
place _ = 0

-- the refusal that has these numbers (proofs/Numbers.antt)
unfoldable pub refusal_with : ℕ → ℕ → Refusal
refusal_with n p =
    cond (eqb n 1) FileShort
    (cond (eqb n 2) FileLong
    (cond (eqb n 3) Letters
    (cond (eqb n 4) FileLength
    (cond (eqb n 5) Counts
    (cond (eqb n 6) Sections
    (cond (eqb n 7) (Variable p)
    (cond (eqb n 8) Bits
    (cond (eqb n 9) (Operator p)
    (cond (eqb n 10) (Term p)
    (cond (eqb n 12) ListLengths
    (cond (eqb n 13) UtilitiesFull
    (cond (eqb n 14) NodesFull
    (cond (eqb n 15) PlanFull
    (cond (eqb n 16) PlanOdd
    (cond (eqb n 17) (Step p NoOperator)
    (cond (eqb n 18) (Step p Precondition)
    (cond (eqb n 19) (Step p Bound)
    (cond (eqb n 20) State
    (cond (eqb n 21) Lists
    (cond (eqb n 22) OutputShort
    (cond (eqb n 23) PairsFull
    StatesFull)))))))))))))))))))))
