-- What a branch or a call's result tells of the definitions' tests, each law in the direction in which a need asks it; and the
-- rulesets by which `search` closes a sequence of tests or of guards.
use Prim.Native.Nat.{ℕ, ◌≤◌, ◌<◌}
use mathlib.Core.Path.{◌≡◌, refl, sym, ap, ◌∙◌}
use mathlib.Core.Bool.{not, Bool, true, false, false≢true}
use mathlib.Core.Logic.{◌⊎◌, inl, inr}
use lib.Dec.{leb, ltb, eqb}
use borrow.Author.Tests.{not-true, not-false, lt-ltb, le-ltb, le-leb, lt-leb, eq-eqb, ne_eqb}
use Rattle.planning.specs.Connectives.{◌and◌, ◌or◌, pick}

-- ---- what a test `if !r` tells, of a call's result r that equals t
pub wrong : (r t : Bool) → r ≡ t → not r ≡ true → t ≡ false
wrong r t e h = sym e ∙ not-true r h

pub right : (r t : Bool) → r ≡ t → not r ≡ false → t ≡ true
right r t e h = sym e ∙ not-false r h

-- ---- a connective's value from the values of its tests
pub and_go : (a b r : Bool) → a ≡ true → r ≡ b → r ≡ a and b
unfolding ◌and◌
and_go a b r e q = q ∙ ap (λ (t : Bool). t and b) (sym e)

pub and_stop : (a b r : Bool) → a ≡ false → r ≡ false → r ≡ a and b
unfolding ◌and◌
and_stop a b r e q = q ∙ ap (λ (t : Bool). t and b) (sym e)

pub or_go : (a b r : Bool) → a ≡ false → r ≡ b → r ≡ a or b
unfolding ◌or◌
or_go a b r e q = q ∙ ap (λ (t : Bool). t or b) (sym e)

pub or_stop : (a b r : Bool) → a ≡ true → r ≡ true → r ≡ a or b
unfolding ◌or◌
or_stop a b r e q = q ∙ ap (λ (t : Bool). t or b) (sym e)

pub pick_yes : {A : Type 0} (b : Bool) (x y r : A) → b ≡ true → r ≡ x → r ≡ pick b x y
unfolding pick
pick_yes b x y r e q = rw e q

pub pick_no : {A : Type 0} (b : Bool) (x y r : A) → b ≡ false → r ≡ y → r ≡ pick b x y
unfolding pick
pick_no b x y r e q = rw e q

-- both tests hold where their conjunction does, and one where their disjunction does
pub and_both : (a b : Bool) → (a and b) ≡ true → (a ≡ true) × (b ≡ true)
unfolding ◌and◌
and_both true b h = (refl, h)
and_both false b h = absurd (false≢true h)

pub or_either : (a b : Bool) → (a or b) ≡ true → (a ≡ true) ⊎ (b ≡ true)
unfolding ◌or◌
or_either true b h = inl refl
or_either false b h = inr h

-- ---- a comparison of a number x, which a call gave as r
pub le_leb_l : (r x k : ℕ) → r ≡ x → r ≤ k → leb x k ≡ true
le_leb_l r x k e h = rw (← e) (le-leb r k h)

pub lt_leb_l : (r x k : ℕ) → r ≡ x → k < r → leb x k ≡ false
lt_leb_l r x k e h = rw (← e) (lt-leb r k h)

pub le_leb_r : (r x k : ℕ) → r ≡ x → k ≤ r → leb k x ≡ true
le_leb_r r x k e h = rw (← e) (le-leb k r h)

pub lt_leb_r : (r x k : ℕ) → r ≡ x → r < k → leb k x ≡ false
lt_leb_r r x k e h = rw (← e) (lt-leb k r h)

pub eq_eqb_l : (r x k : ℕ) → r ≡ x → r ≡ k → eqb x k ≡ true
eq_eqb_l r x k e h = rw (← e) (eq-eqb r k h)

pub ne_eqb_l : (r x k : ℕ) → r ≡ x → (r ≡ k → ⊥) → eqb x k ≡ false
ne_eqb_l r x k e h = rw (← e) (ne_eqb r k h)

pub via : (r t b : Bool) → r ≡ t → r ≡ b → t ≡ b
via r t b e h = sym e ∙ h

-- ---- two numbers that calls gave are compared
pub leb_both : (r x s y : ℕ) → r ≡ x → s ≡ y → leb r s ≡ leb x y
leb_both r x s y e d = rw (e, d)

pub ltb_both : (r x s y : ℕ) → r ≡ x → s ≡ y → ltb r s ≡ ltb x y
ltb_both r x s y e d = rw (e, d)

pub eqb_both : (r x s y : ℕ) → r ≡ x → s ≡ y → eqb r s ≡ eqb x y
eqb_both r x s y e d = rw (e, d)

pub ruleset tests = (pick_yes, pick_no, and_go, and_stop, or_go, or_stop, lt-ltb, le-ltb, le-leb, lt-leb, eq-eqb, ne_eqb, le_leb_l, lt_leb_l, le_leb_r, lt_leb_r, eq_eqb_l, ne_eqb_l, leb_both, ltb_both, eqb_both, via)

-- a chain of guards, each `if !f(..) { return n; }`, and tests of a length
pub ruleset guards = (pick_yes, pick_no, wrong, right, lt-ltb, le-ltb)
