-- Counting: different members of a list are no more than its members; different lists of n bits are at most 2 ^ n.
use Prim.Native.Nat.{ℕ, zero, suc, ◌^◌, ◌≤◌, ◌<◌}
use mathlib.Core.Path.{◌≡◌, refl, sym, ap, ◌∙◌}
use mathlib.Core.Bool.{Bool, true, false}
use mathlib.Core.List.Memᴰ
use mathlib.Core.List.{List, [], ◌∷◌, ◌++◌, map, Memᴰ}
use mathlib.Core.Logic.{◌⊎◌, inl, inr}
use native.Mathlib.Omega.{arith}
use lib.ListN.{length, length-append, length-map}

module _ {A : Type 0} where
  -- no member of the list comes again
  abbrev pub NoDup : List A → Type 0
  NoDup [] = Unit {0}
  NoDup (x ∷ xs) = (Memᴰ x xs → ⊥) × NoDup xs

  -- a list with one member taken out
  record Without (x : A) (ys : List A) : Type 0 where
    rest : List A
    shorter : length ys ≡ suc (length rest)
    keeps : (y : A) → Memᴰ y ys → (y ≡ x) ⊎ Memᴰ y rest

  without : {x : A} {ys : List A} → Memᴰ x ys → Without x ys
  without {x} (Memᴰ.head {x = z} {xs = zs} e) = record { rest = zs; shorter = refl; keeps = λ y m. by y (Memᴰ.cases_cons m) }
    where
      by : (y : A) → (y ≡ z) ⊎ Memᴰ y zs → (y ≡ x) ⊎ Memᴰ y zs
      by y (inl h) = inl (h ∙ sym e)
      by y (inr h) = inr h
  without {x} (Memᴰ.tail {x = z} {xs = zs} m) = step (without m)
    where
      step : Without x zs → Without x (z ∷ zs)
      step w = record { rest = z ∷ w.rest; shorter = ap suc w.shorter; keeps = λ y n. by y (Memᴰ.cases_cons n) }
        where
          on : (y : A) → (y ≡ x) ⊎ Memᴰ y w.rest → (y ≡ x) ⊎ Memᴰ y (z ∷ w.rest)
          on y (inl h) = inl h
          on y (inr h) = inr (Memᴰ.tail h)

          by : (y : A) → (y ≡ z) ⊎ Memᴰ y zs → (y ≡ x) ⊎ Memᴰ y (z ∷ w.rest)
          by y (inl h) = inr (Memᴰ.head h)
          by y (inr h) = on y (w.keeps y h)

  -- different members of a list are no more than its members
  pub sub_length : (xs ys : List A) → NoDup xs → ((y : A) → Memᴰ y xs → Memᴰ y ys) → length xs ≤ length ys
  sub_length [] ys d s = omega arith
  sub_length (x ∷ xs) ys d s =
      let w = without (s x (Memᴰ.head refl)) in
      omega (arith, w.shorter, sub_length xs w.rest d.1 (λ y m. by w y m (w.keeps y (s y (Memᴰ.tail m)))))
    where
      by : (w : Without x ys) (y : A) → Memᴰ y xs → (y ≡ x) ⊎ Memᴰ y w.rest → Memᴰ y w.rest
      by w y m (inl e) = absurd (d.0 (rw e at m))
      by w y m (inr h) = h

  -- with another member z of the list they are fewer
  pub sub_longer : (xs ys : List A) (z : A) → NoDup xs → ((y : A) → Memᴰ y xs → Memᴰ y ys) → Memᴰ z ys → (Memᴰ z xs → ⊥) → length xs < length ys
  sub_longer xs ys z d s m n = omega (arith, sub_length (z ∷ xs) ys (n, d) (λ y h. by y (Memᴰ.cases_cons h)))
    where
      by : (y : A) → (y ≡ z) ⊎ Memᴰ y xs → Memᴰ y ys
      by y (inl e) = rw e m
      by y (inr h) = s y h

-- all lists of n bits
unfoldable every : ℕ → List (List Bool)
every zero = [] ∷ []
every (suc n) = map (λ s. false ∷ s) (every n) ++ map (λ s. true ∷ s) (every n)

length_every : (n : ℕ) → length (every n) ≡ 2 ^ n
unfolding every
length_every zero = refl
length_every (suc n) =
    length-append (map (λ s. false ∷ s) (every n)) (map (λ s. true ∷ s) (every n))
    ∙ omega (arith, length-map (every n) (λ s. false ∷ s), length-map (every n) (λ s. true ∷ s), length_every n)

mem_map : (b : Bool) (σ : List Bool) (l : List (List Bool)) → Memᴰ σ l → Memᴰ (b ∷ σ) (map (λ s. b ∷ s) l)
mem_map b σ [] m = absurd (Memᴰ.not-nil m)
mem_map b σ (x ∷ l) m = by (Memᴰ.cases_cons m) (mem_map b σ l)
  where
    by : (σ ≡ x) ⊎ Memᴰ σ l → (Memᴰ σ l → Memᴰ (b ∷ σ) (map (λ s. b ∷ s) l)) → Memᴰ (b ∷ σ) (map (λ s. b ∷ s) (x ∷ l))
    by (inl e) rec = Memᴰ.head (ap (λ s. b ∷ s) e)
    by (inr h) rec = Memᴰ.tail (rec h)

mem_every : (n : ℕ) (σ : List Bool) → length σ ≡ n → Memᴰ σ (every n)
unfolding every
mem_every zero [] e = Memᴰ.head refl
mem_every zero (b ∷ σ) e = absurd (omega arith)
mem_every (suc n) [] e = absurd (omega arith)
mem_every (suc n) (false ∷ σ) e = Memᴰ.append_left (map (λ s. true ∷ s) (every n)) (mem_map false σ (every n) (mem_every n σ (omega arith)))
mem_every (suc n) (true ∷ σ) e = Memᴰ.append_right (map (λ s. false ∷ s) (every n)) (mem_map true σ (every n) (mem_every n σ (omega arith)))

-- a list of different lists of n bits has at most 2 ^ n members
pub pigeons : (n : ℕ) (l : List (List Bool)) → NoDup l → ((σ : List Bool) → Memᴰ σ l → length σ ≡ n) → length l ≤ 2 ^ n
pigeons n l d s = omega (arith, sub_length l (every n) d (λ σ m. mem_every n σ (s σ m)), length_every n)
