-- Sections that do not overlap take no more room than there is.
use Prim.Native.Nat.{ℕ, ◌+◌, ◌-◌, ◌≤◌, ◌<◌}
use mathlib.Core.Path.{◌≡◌, refl}
use mathlib.Core.Bool.{true}
use mathlib.Core.Logic.{◌⊎◌, inl, inr, ⊎_elim}
use mathlib.Core.List.{List, [], ◌∷◌}
use native.Mathlib.Omega.{arith}
use native.Mathlib.Nat.{add-zero, sub-zero, sub-eq-zero_of_le, eq-zero-or-pos}
use borrow.Author.Tests.{leb-true, eqb-true}
use Rattle.planning.proofs.Guards.{or_either}
use Rattle.task.specs.Check.{apart}

-- a section, as its place and its size
abbrev Section : Type 0
Section = ℕ × ℕ

-- one is empty, or ends before the other begins
abbrev Apart : Section → Section → Type 0
Apart x y = ((x.1 ≡ 0) ⊎ (y.1 ≡ 0)) ⊎ ((x.0 + x.1 ≤ y.0) ⊎ (y.0 + y.1 ≤ x.0))

-- one is apart from each of a list's; all of a list's are apart from each other
abbrev FromAll : Section → List Section → Type 0
FromAll x [] = Unit
FromAll x (y ∷ ys) = Apart x y × FromAll x ys

abbrev pub Disjoint : List Section → Type 0
Disjoint [] = Unit
Disjoint (x ∷ xs) = FromAll x xs × Disjoint xs

-- each between from and to
abbrev pub Between : ℕ → ℕ → List Section → Type 0
Between from to [] = Unit
Between from to (x ∷ xs) = ((from ≤ x.0) × (x.0 + x.1 ≤ to)) × Between from to xs

-- their sizes together
unfoldable pub total : List Section → ℕ
total [] = 0
total (x ∷ xs) = x.1 + total xs

pub apart_is : (a m b n : ℕ) → apart a m b n ≡ true → Apart (a, m) (b, n)
unfolding apart
apart_is a m b n e =
    ⊎_elim
    (λ h. inl (inl (eqb-true m 0 h)))
    (λ h. ⊎_elim (λ h. inl (inr (eqb-true n 0 h))) (λ h. inr (⊎_elim (λ h. inl (leb-true (a + m) b h)) (λ h. inr (leb-true (b + n) a h)) (or_either _ _ h))) (or_either _ _ h))
    (or_either _ _ e)

-- ---- how much of a section lies between from and to: the lesser end less the greater beginning
unfoldable clip : ℕ → ℕ → Section → ℕ
clip from to x = x.0 + x.1 - (x.0 + x.1 - to) - (x.0 + (from - x.0))

unfoldable clips : ℕ → ℕ → List Section → ℕ
clips from to [] = 0
clips from to (x ∷ xs) = clip from to x + clips from to xs

-- of a section that begins behind from, and of one that ends before to
clip_behind : (from to : ℕ) (x : Section) → from ≤ x.0 → clip from to x ≡ x.0 + x.1 - (x.0 + x.1 - to) - x.0
unfolding clip
clip_behind from to x h = rw (sub-eq-zero_of_le h, add-zero x.0)

clip_before : (from to : ℕ) (x : Section) → x.0 + x.1 ≤ to → clip from to x ≡ x.0 + x.1 - (x.0 + (from - x.0))
unfolding clip
clip_before from to x h = rw (sub-eq-zero_of_le h, sub-zero (x.0 + x.1))

clip_empty : (from to : ℕ) (x : Section) → x.1 ≡ 0 → clip from to x ≡ 0
unfolding clip
clip_empty from to x h = omega arith

clip_inside : (from to a m : ℕ) → from ≤ a → a + m ≤ to → clip from to (a, m) ≡ m
clip_inside from to a m f t = rw (clip_before from to (a, m) t, sub-eq-zero_of_le f) (omega arith)

-- from a to b is a part of x: what is apart from x lies before a or behind b
clip_parts : (from to a b : ℕ) (x y : Section) → x.0 ≤ a → b ≤ x.0 + x.1 → from ≤ a → a < b → b ≤ to → Apart x y → clip from to y ≤ clip from a y + clip b to y
clip_parts from to a b x y xa bx fa ab bt (inl (inl h)) = absurd (omega arith)
clip_parts from to a b x y xa bx fa ab bt (inl (inr h)) = rw (clip_empty from to y h) (omega arith)
clip_parts from to a b x y xa bx fa ab bt (inr (inl h)) = rw (clip_behind from to y (omega arith), clip_behind b to y (omega arith)) (omega arith)
clip_parts from to a b x y xa bx fa ab bt (inr (inr h)) = rw (clip_before from to y (omega arith), clip_before from a y (omega arith)) (omega arith)

clips_parts : (from to a b : ℕ) (x : Section) (ys : List Section) → x.0 ≤ a → b ≤ x.0 + x.1 → from ≤ a → a < b → b ≤ to → FromAll x ys → clips from to ys ≤ clips from a ys + clips b to ys
unfolding clips
clips_parts from to a b x [] xa bx fa ab bt h = omega arith
clips_parts from to a b x (y ∷ ys) xa bx fa ab bt h =
    let one = clip_parts from to a b x y xa bx fa ab bt h.0 in
    let others = clips_parts from to a b x ys xa bx fa ab bt h.1 in
    omega arith

-- ---- before a, from a to b, and behind b
join : (from to a b p q c : ℕ) → from + p ≤ a → b + q ≤ to → c ≤ p + q → 0 < b - a → from + (b - a + c) ≤ to
join from to a b p q c l r s h = omega arith

-- the parts of sections between from and to take no more room than there is between them
fits : (xs : List Section) (from to : ℕ) → Disjoint xs → from ≤ to → from + clips from to xs ≤ to
unfolding clips clip
fits [] from to d h = omega arith
fits (x ∷ xs) from to d h = go (λ f t. fits xs f t d.1) (eq-zero-or-pos (b - a))
  where
    a : ℕ
    a = x.0 + (from - x.0)

    b : ℕ
    b = x.0 + x.1 - (x.0 + x.1 - to)

    go : ((f t : ℕ) → f ≤ t → f + clips f t xs ≤ t) → (b - a ≡ 0) ⊎ (0 < b - a) → from + (b - a + clips from to xs) ≤ to
    go others (inl none) = rw none (let all = others from to h in omega arith)
    go others (inr some) =
        join from to a b (clips from a xs) (clips b to xs) (clips from to xs) (others from a (omega arith)) (others b to (omega arith))
        (clips_parts from to a b x xs (omega arith) (omega arith) (omega arith) (omega arith) (omega arith) d.0) some

clips_inside : (xs : List Section) (from to : ℕ) → Between from to xs → clips from to xs ≡ total xs
unfolding clips total
clips_inside [] from to h = refl
clips_inside (x ∷ xs) from to h = rw (clip_inside from to x.0 x.1 h.0.0 h.0.1, clips_inside xs from to h.1)

pub room : (xs : List Section) (from to : ℕ) → Disjoint xs → Between from to xs → from ≤ to → from + total xs ≤ to
room xs from to d h le = rw (← clips_inside xs from to h) (fits xs from to d le)
