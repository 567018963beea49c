-- Laws of the check's answer.
use Prim.Native.Nat.{ℕ}
use mathlib.Core.Path.{◌≡◌, refl, sym, ap, ◌∙◌}
use mathlib.Core.Bool.{Bool, true, false}
use mathlib.Core.List.{List}
use mathlib.Core.Logic.{◌⊎◌, inl, inr}
use borrow.Author.Tests.{eqb-false}
use Rattle.std.specs.Prelude.{Result, Ok, Err}
use Rattle.refusal.specs.declared.Refusal.{Refusal}
use Rattle.refusal.specs.declared.Refusal.TheVariants.{FileShort, FileLong, Letters, FileLength, Counts, Sections, Variable, Bits, Operator, Term}
use Rattle.refusal.specs.Refusals.{number, place, refusal_with}
use Rattle.refusal.proofs.Numbers.{refusal_again}
use Rattle.planning.specs.Connectives.{pick}
use Rattle.task.specs.Check.{header_fault, check_of, accepted}
use Rattle.task_check.specs.Answers.{answer, passed, refusal_of}

-- ---- each answer that is not 0 is that of a refusal
abbrev Told : ℕ × ℕ → Type 0
Told p = (p.0 ≡ 0) ⊎ ((refusal : Refusal) × ((number refusal, place refusal) ≡ p))

either : {A : Type 0} (P : A → Type 0) (b : Bool) (x y : A) → P x → P y → P (pick b x y)
unfolding pick
either P true x y p q = p
either P false x y p q = q

header_told : (f : List ℕ) → Told (header_fault f, 0)
unfolding header_fault
header_told f =
    let P : ℕ → Type 0 = λ n. Told (n, 0) in
    either P _ _ _ (inr (FileShort, refl))
    (either P _ _ _ (inr (FileLong, refl))
    (either P _ _ _
    (either P _ _ _
    (either P _ _ _ (either P _ _ _ (either P _ _ _ (inl refl) (inr (Sections, refl))) (inr (Sections, refl))) (inr (Counts, refl)))
    (inr (FileLength, refl)))
    (inr (Letters, refl))))

check_told : (f : List ℕ) → Told (check_of f)
unfolding check_of
check_told f =
    either Told _ _ _
    (either Told _ _ _
    (either Told _ _ _
    (either Told _ _ _ (either Told _ _ _ (inl refl) (inr (Term _, refl))) (inr (Operator _, refl)))
    (inr (Bits, refl)))
    (inr (Variable _, refl)))
    (header_told f)

-- so a file that does not pass is refused for what has the check's number and value
pub refusal_told : (f : List ℕ) → accepted f ≡ false → (number (refusal_of f), place (refusal_of f)) ≡ check_of f
unfolding accepted refusal_of
refusal_told f e = by (check_told f)
  where
    by : Told (check_of f) → (number (refusal_with (check_of f).0 (check_of f).1), place (refusal_with (check_of f).0 (check_of f).1)) ≡ check_of f
    by (inl zero) = absurd (eqb-false (check_of f).0 0 e zero)
    by (inr told) =
        let same : refusal_with (check_of f).0 (check_of f).1 ≡ told.0 = ap (λ (p : ℕ × ℕ). refusal_with p.0 p.1) (sym told.1) ∙ refusal_again told.0 in
        ap (λ (r : Refusal). (number r, place r)) same ∙ told.1

-- ---- what a caller knows of the file in each case of the answer r
module _ (f : List ℕ) (r : Result (Unit {0}) Refusal) (check : (answer r ≡ check_of f) × (passed r ≡ accepted f)) where
  pub told_accepted : (u : Unit {0}) → r ≡ Ok u → accepted f ≡ true
  told_accepted u e = sym check.1 ∙ ap passed e

  pub told_refused : (refusal : Refusal) → r ≡ Err refusal → (refusal ≡ refusal_of f) × (accepted f ≡ false)
  unfolding refusal_of
  told_refused refusal e =
      let told : (number refusal, place refusal) ≡ check_of f = sym (ap answer e) ∙ check.0 in
      (sym (refusal_again refusal) ∙ ap (λ (p : ℕ × ℕ). refusal_with p.0 p.1) told, sym check.1 ∙ ap passed e)
