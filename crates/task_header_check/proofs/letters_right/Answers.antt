use Prim.Native.Nat.{ℕ}
use mathlib.Core.Path.{◌≡◌, refl, sym, ◌∙◌}
use mathlib.Core.Bool.{Bool, true, false, ◌&&◌}
use mathlib.Core.List.{List, [], ◌∷◌}
use lib.Dec.{eqb}
use borrow.Author.Tests.{eq-eqb, ne_eqb, eqb-true, eqb-false}
use Rattle.std.specs.List.{starts_with}
use Rattle.planning.specs.Connectives.{◌and◌}
use Rattle.task.specs.Bytes.{byte}
use Rattle.task.specs.Format.{letters}
use Rattle.task.specs.Check.{letter_right, letters_right}
use Rattle.task_header_check.proofs.letters_right.Goals as goal

turned : (a b : ℕ) → eqb a b ≡ eqb b a
turned a b = by (eqb a b) refl
  where
    by : (t : Bool) → eqb a b ≡ t → t ≡ eqb b a
    by true e = sym (eq-eqb b a (sym (eqb-true a b e)))
    by false e = sym (ne_eqb b a (λ q. eqb-false a b e (sym q)))

joined : (p q x y : Bool) → p ≡ q → x ≡ y → (p && x) ≡ (q and y)
unfolding ◌and◌
joined true q x y e d = rw (← e) d
joined false q x y e d = rw (← e)

last : (p q : Bool) → p ≡ q → (p && true) ≡ q
last true q e = e
last false q e = e

-- past the file's end a byte is 0, which is no letter
letters_begin : (f : List ℕ) → starts_with eqb f letters ≡ letters_right f
unfolding letters_right letter_right byte ◌and◌
letters_begin [] = refl
letters_begin (a ∷ []) = joined _ _ _ _ (turned 66 a) refl
letters_begin (a ∷ b ∷ []) = joined _ _ _ _ (turned 66 a) (joined _ _ _ _ (turned 80 b) refl)
letters_begin (a ∷ b ∷ c ∷ []) = joined _ _ _ _ (turned 66 a) (joined _ _ _ _ (turned 80 b) (joined _ _ _ _ (turned 84 c) refl))
letters_begin (a ∷ b ∷ c ∷ d ∷ f) =
    joined _ _ _ _ (turned 66 a) (joined _ _ _ _ (turned 80 b) (joined _ _ _ _ (turned 84 c) (last _ _ (turned 49 d))))

pub returns : goal.returns
returns c = c.starts_with.ensures.value ∙ letters_begin c.args.file.now
