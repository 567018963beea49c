-- A bit in front of the diagram of a bound. Assumes nothing.
use Prim.Native.Nat.{ℕ, zero, suc, ◌+◌, ◌^◌, ◌≤◌}
use mathlib.Core.Path.{◌≡◌, refl, sym, ap, ap₂, ◌∙◌}
use mathlib.Core.Bool.{Bool, true, false}
use mathlib.Core.Logic.{⊎_elim}
use mathlib.Core.List.{List, [], ◌∷◌}
use native.Mathlib.Omega.{arith}
use lib.Dec.{ltb}
use lib.ListN.{length, take, drop}
use lib.Seq.{length-take-le}
use borrow.Author.Tests.{lt-ltb, le-ltb, ltb-true, ltb-false}
use Rattle.planning.specs.Connectives.{◌and◌, pick}
use Rattle.planning.specs.Coding.{number}
use Rattle.diagrams.specs.Tree.{none, mk_t, end_t, diagram}
use Rattle.diagrams.proofs.Trees.{test, mk_t_same}
use Rattle.diagrams.proofs.Diagrams.{diagram_same}
use Rattle.utility_ceiling.specs.Permitted.{below}
use Rattle.utility_ceiling.proofs.Numbers.{number_one, number_small}

-- a set that has no list
diagram_none : (n k : ℕ) (f : List Bool → Bool) → ((σ : List Bool) → length σ ≡ n → f σ ≡ false) → diagram end_t n k f ≡ none
unfolding diagram end_t
diagram_none zero k f e = rw (e [] refl)
diagram_none (suc n) k f e =
    rw (diagram_none n (suc k) (λ σ. f (false ∷ σ)) (λ σ h. e (false ∷ σ) (ap suc h)), diagram_none n (suc k) (λ σ. f (true ∷ σ)) (λ σ h. e (true ∷ σ) (ap suc h)))
    (mk_t_same k none none refl)

-- bits that are not asked
diagram_skip : (i n k : ℕ) (g : List Bool → Bool) → diagram end_t (i + n) k (λ σ. g (drop i σ)) ≡ diagram end_t n (i + k) g
unfolding diagram
diagram_skip zero n k g = let e : 0 + n ≡ n = omega arith in let f : 0 + k ≡ k = omega arith in rw (e, f)
diagram_skip (suc i) n k g =
    let e : suc i + n ≡ suc (i + n) = omega arith in
    let f : suc i + k ≡ i + suc k = omega arith in
    rw (e, f) (mk_t_same k _ _ refl ∙ diagram_skip i n (suc k) g)

less_both : (p a m : ℕ) → ltb (p + a) (p + m) ≡ ltb a m
less_both p a m =
    ⊎_elim
    (λ (e : ltb a m ≡ true). rw e (lt-ltb (p + a) (p + m) (omega (arith, ltb-true a m e))))
    (λ (e : ltb a m ≡ false). rw e (le-ltb (p + a) (p + m) (omega (arith, ltb-false a m e))))
    (test (ltb a m))

module _ (i n b : ℕ) (g : List Bool → Bool) where
  -- the first i of i + n bits
  front : (σ : List Bool) → length σ ≡ i + n → length (take i σ) ≡ i
  front σ l = length-take-le i σ (omega arith)

  -- the bound's bit is 1: where the list's is 0, the bits behind are free
  pub bound_one : (m : ℕ) → mk_t b (diagram end_t n (i + suc b) g) (diagram end_t (i + n) (suc b) (below i m g)) ≡ diagram end_t (suc i + n) b (below (suc i) (2 ^ i + m) g)
  unfolding diagram below number pick ◌and◌
  bound_one m =
      let e : suc i + n ≡ suc (i + n) = omega arith in
      rw e (ap₂ (mk_t b) (sym (diagram_skip i n (suc b) g) ∙ diagram_same end_t (i + n) (suc b) _ _ low) (diagram_same end_t (i + n) (suc b) _ _ high))
    where
      low : (σ : List Bool) → length σ ≡ i + n → g (drop i σ) ≡ (ltb (number 0 (take i σ)) (2 ^ i + m) and g (drop i σ))
      low σ l = rw (lt-ltb (number 0 (take i σ)) (2 ^ i + m) (omega (arith, rw (front σ l) at (number_small (take i σ)))))

      high : (σ : List Bool) → length σ ≡ i + n → (ltb (number 0 (take i σ)) m and g (drop i σ)) ≡ (ltb (number 1 (take i σ)) (2 ^ i + m) and g (drop i σ))
      high σ l = rw (number_one (take i σ), front σ l, less_both (2 ^ i) (number 0 (take i σ)) m)

  -- the bound's bit is 0: so is the list's
  pub bound_zero : (m : ℕ) → m ≤ 2 ^ i → mk_t b (diagram end_t (i + n) (suc b) (below i m g)) none ≡ diagram end_t (suc i + n) b (below (suc i) m g)
  unfolding diagram below number pick ◌and◌
  bound_zero m le =
      let e : suc i + n ≡ suc (i + n) = omega arith in
      rw e (ap (mk_t b (diagram end_t (i + n) (suc b) (below i m g))) (sym (diagram_none (i + n) (suc b) _ high)))
    where
      high : (σ : List Bool) → length σ ≡ i + n → (ltb (number 1 (take i σ)) m and g (drop i σ)) ≡ false
      high σ l = rw (le-ltb (number 1 (take i σ)) m (omega (arith, number_one (take i σ), ap (λ z. 2 ^ z) (front σ l))))

-- no bit at all: the bound is 1
pub bound_none : (n k : ℕ) (g : List Bool → Bool) → diagram end_t n k g ≡ diagram end_t (0 + n) k (below 0 1 g)
unfolding below number ◌and◌
bound_none n k g = let e : 0 + n ≡ n = omega arith in rw e (diagram_same end_t n k _ _ (λ σ l. refl))
