-- A refusal is known by its number and its place: no two have the same.
use Rattle.std.proofs.Common.{◌≡◌, refl}
use Rattle.refusal.specs.declared.Fault.TheVariants.{Operator as NoOperator, Precondition, Bound}
use Rattle.refusal.specs.declared.Refusal.{Refusal}
use Rattle.refusal.specs.declared.Refusal.TheVariants.{FileShort, FileLong, Letters, FileLength, Counts, Sections, Variable, Bits, Operator, Term, ListLengths, UtilitiesFull, NodesFull, PlanFull, PlanOdd, Step, State, Lists, OutputShort, PairsFull, StatesFull}
use Rattle.refusal.specs.Refusals.{number, place, refusal_with}

pub refusal_again : (r : Refusal) → refusal_with (number r) (place r) ≡ r
unfolding refusal_with
refusal_again FileShort = refl
refusal_again FileLong = refl
refusal_again Letters = refl
refusal_again FileLength = refl
refusal_again Counts = refl
refusal_again Sections = refl
refusal_again (Variable v) = refl
refusal_again Bits = refl
refusal_again (Operator o) = refl
refusal_again (Term t) = refl
refusal_again ListLengths = refl
refusal_again UtilitiesFull = refl
refusal_again NodesFull = refl
refusal_again PlanFull = refl
refusal_again PlanOdd = refl
refusal_again (Step i NoOperator) = refl
refusal_again (Step i Precondition) = refl
refusal_again (Step i Bound) = refl
refusal_again State = refl
refusal_again Lists = refl
refusal_again OutputShort = refl
refusal_again PairsFull = refl
refusal_again StatesFull = refl
