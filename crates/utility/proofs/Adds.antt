-- Adding a weight at the states of a cube: what the tree becomes, and that it stays ordered and reduced. Assumes nothing.
use Prim.Native.Nat.{ℕ, zero, suc, ◌+◌, ◌/◌, ◌%◌, ◌^◌, ◌≤◌, ◌<◌}
use mathlib.Core.Path.{◌≡◌, refl, sym, ap, ap₂, ◌∙◌}
use mathlib.Core.Bool.{Bool, true, false, cond, ◌&&◌}
use mathlib.Core.Logic.{◌⊎◌, inl, inr, ⊎_elim}
use mathlib.Core.List.{List, [], ◌∷◌}
use native.Mathlib.Omega.{arith}
use lib.Dec.{ltb, leb, eqb}
use borrow.Author.Tests.{lt-ltb, le-ltb, eq-eqb, eqb-true, eqb-false}
use Rattle.planning.specs.Connectives.{◌and◌, ◌or◌, pick}
use Rattle.planning.specs.Coding.{same_bit, fits_words}
use Rattle.diagrams.specs.Tree.{Tree, none, all, node, mk_t, Canon, low_t, high_t, value_end, diagram}
use Rattle.diagrams.proofs.Trees.{test, mk_t_same, mk_t_node}
use Rattle.diagrams.proofs.Canonical.{canon_mk_t}
use Rattle.diagrams.proofs.Meets.{half}
use Rattle.diagrams.proofs.Diagrams.{canon_diagram, canon_value_end, diagram_same}
use Rattle.utility.specs.Adding.{plus_t, digit, low_in, high_in, add_t}
use Rattle.utility.proofs.Shapes.{equal, low_mk_t, high_mk_t}

pub canon_plus : (w n : ℕ) (t : Tree) → Canon n t → Canon n (plus_t w t)
unfolding Canon plus_t
canon_plus w n none c = tt
canon_plus w n all c = tt
canon_plus w n (node b l h) c =
    ⊎_elim
    (λ (e : ltb b 64 ≡ true). rw e (canon_mk_t n b (plus_t w l) (plus_t w h) c.0 (canon_plus w (suc b) l c.2) (canon_plus w (suc b) h c.3)))
    (λ (e : ltb b 64 ≡ false). rw e (omega (arith, c.0), λ q. let z : ◌≡◌ {A = ℕ} 0 1 = cc in omega arith, tt, tt))
    (test (ltb b 64))

plus_mk_t : (w k : ℕ) (l h : Tree) → k < 64 → plus_t w (mk_t k l h) ≡ mk_t k (plus_t w l) (plus_t w h)
unfolding plus_t
plus_mk_t w k l h lt =
    ⊎_elim
    (λ (e : l ≡ h). rw (mk_t_same k l h e) (sym (mk_t_same k (plus_t w l) (plus_t w h) (ap (plus_t w) e))))
    (λ (n : l ≡ h → ⊥). rw (mk_t_node k l h n, lt-ltb k 64 lt))
    (equal l h)

-- w is added to every value
plus_diagram : (w n k : ℕ) (f : List Bool → ℕ) → k + n ≤ 64 → plus_t w (diagram value_end n k f) ≡ diagram value_end n k (λ σ. f σ + w)
unfolding diagram plus_t value_end
plus_diagram w zero k f h = rw (le-ltb (64 + f []) 64 (omega arith)) (ap (λ (b : ℕ). node b none all) (omega arith))
plus_diagram w (suc n) k f h =
    plus_mk_t w k (diagram value_end n (suc k) (λ σ. f (false ∷ σ))) (diagram value_end n (suc k) (λ σ. f (true ∷ σ))) (omega arith)
    ∙ rw (plus_diagram w n (suc k) (λ σ. f (false ∷ σ)) (omega arith), plus_diagram w n (suc k) (λ σ. f (true ∷ σ)) (omega arith))

-- the bits from bit k on meet the cube
abbrev meets : ℕ → ℕ → ℕ → List Bool → Bool
meets k care value σ = fits_words (care / 2 ^ k) (value / 2 ^ k) σ

-- where no bit from k on is named
fits_all : (value : ℕ) (σ : List Bool) → fits_words 0 value σ ≡ true
unfolding fits_words ◌or◌ ◌and◌
fits_all value [] = refl
fits_all value (b ∷ σ) = fits_all (value / 2) σ

meets_all : (care value k : ℕ) (σ : List Bool) → care / 2 ^ k ≡ 0 → meets k care value σ ≡ true
meets_all care value k σ e = rw e (fits_all (value / 2 ^ k) σ)

-- a digit is 0 or 1
parity : (d : ℕ) → d < 2 → (d ≡ 0) ⊎ (d ≡ 1)
parity zero h = inl refl
parity (suc zero) h = inr refl
parity (suc (suc d)) h = absurd (omega arith)

low_bit : (c v : ℕ) (f : Bool) → (c ≡ 0) ⊎ (c ≡ 1) → (v ≡ 0) ⊎ (v ≡ 1) → ((eqb c 0 or same_bit false (eqb v 1)) and f) ≡ (ltb (c + v) 2 && f)
unfolding ◌or◌ ◌and◌ same_bit
low_bit c v f (inl p) (inl q) = rw (p, q)
low_bit c v f (inl p) (inr q) = rw (p, q)
low_bit c v f (inr p) (inl q) = rw (p, q)
low_bit c v f (inr p) (inr q) = rw (p, q)

high_bit : (c v : ℕ) (f : Bool) → (c ≡ 0) ⊎ (c ≡ 1) → (v ≡ 0) ⊎ (v ≡ 1) → ((eqb c 0 or same_bit true (eqb v 1)) and f) ≡ (leb c v && f)
unfolding ◌or◌ ◌and◌ same_bit
high_bit c v f (inl p) (inl q) = rw (p, q)
high_bit c v f (inl p) (inr q) = rw (p, q)
high_bit c v f (inr p) (inl q) = rw (p, q)
high_bit c v f (inr p) (inr q) = rw (p, q)

-- a bit and those after it meet the cube
meets_low : (care value k : ℕ) (σ : List Bool) → meets k care value (false ∷ σ) ≡ (low_in care value k && meets (suc k) care value σ)
unfolding fits_words low_in digit
meets_low care value k σ = rw (← half care k, ← half value k) (low_bit (care / 2 ^ k % 2) (value / 2 ^ k % 2) (fits_words (care / 2 ^ k / 2) (value / 2 ^ k / 2) σ) (parity _ (omega arith)) (parity _ (omega arith)))

meets_high : (care value k : ℕ) (σ : List Bool) → meets k care value (true ∷ σ) ≡ (high_in care value k && meets (suc k) care value σ)
unfolding fits_words high_in digit
meets_high care value k σ = rw (← half care k, ← half value k) (high_bit (care / 2 ^ k % 2) (value / 2 ^ k % 2) (fits_words (care / 2 ^ k / 2) (value / 2 ^ k / 2) σ) (parity _ (omega arith)) (parity _ (omega arith)))

-- one side of the tree: with w added where the cube is met, or as it is where the cube has none of its states
side : (care value w n k : ℕ) (f : List Bool → ℕ) (v : Bool) (test : List Bool → Bool) → ((σ : List Bool) → test σ ≡ (v && meets (suc k) care value σ)) → add_t n (suc k) care value w (diagram value_end n (suc k) f) ≡ diagram value_end n (suc k) (λ σ. f σ + pick (meets (suc k) care value σ) w 0) → cond v (add_t n (suc k) care value w (diagram value_end n (suc k) f)) (diagram value_end n (suc k) f) ≡ diagram value_end n (suc k) (λ σ. f σ + pick (test σ) w 0)
unfolding pick
side care value w n k f true test h e = e ∙ diagram_same value_end n (suc k) (λ σ. f σ + pick (meets (suc k) care value σ) w 0) (λ σ. f σ + pick (test σ) w 0) (λ σ _. rw (h σ))
side care value w n k f false test h e = diagram_same value_end n (suc k) f (λ σ. f σ + pick (test σ) w 0) (λ σ _. rw (h σ) (omega arith))

module _ (care value w n k : ℕ) (f : List Bool → ℕ) (le : k + suc n ≤ 64) where
  abbrev L : Tree
  L = diagram value_end n (suc k) (λ σ. f (false ∷ σ))

  abbrev H : Tree
  H = diagram value_end n (suc k) (λ σ. f (true ∷ σ))

  -- the two sides of the tree
  add_sides : add_t n (suc k) care value w L ≡ diagram value_end n (suc k) (λ σ. f (false ∷ σ) + pick (meets (suc k) care value σ) w 0) → add_t n (suc k) care value w H ≡ diagram value_end n (suc k) (λ σ. f (true ∷ σ) + pick (meets (suc k) care value σ) w 0) → mk_t k (cond (low_in care value k) (add_t n (suc k) care value w (low_t k (mk_t k L H))) (low_t k (mk_t k L H))) (cond (high_in care value k) (add_t n (suc k) care value w (high_t k (mk_t k L H))) (high_t k (mk_t k L H))) ≡ diagram value_end (suc n) k (λ σ. f σ + pick (meets k care value σ) w 0)
  unfolding diagram
  add_sides el eh =
      let cl : Canon (suc k) L = canon_diagram value_end n (suc k) (λ σ. f (false ∷ σ)) (canon_value_end (suc k + n) (omega arith)) in
      let ch : Canon (suc k) H = canon_diagram value_end n (suc k) (λ σ. f (true ∷ σ)) (canon_value_end (suc k + n) (omega arith)) in
      rw (low_mk_t k L H cl, high_mk_t k L H ch)
      (ap₂ (mk_t k)
      (side care value w n k (λ σ. f (false ∷ σ)) (low_in care value k) (λ σ. meets k care value (false ∷ σ)) (meets_low care value k) el)
      (side care value w n k (λ σ. f (true ∷ σ)) (high_in care value k) (λ σ. meets k care value (true ∷ σ)) (meets_high care value k) eh))

-- the tree of a function becomes that of the function with w added where the cube is met
pub add_diagram : (care value w n k : ℕ) (f : List Bool → ℕ) → k + n ≤ 64 → add_t n k care value w (diagram value_end n k f) ≡ diagram value_end n k (λ σ. f σ + pick (meets k care value σ) w 0)
unfolding add_t pick diagram fits_words
add_diagram care value w zero k f h = plus_diagram w zero k f h
add_diagram care value w (suc n) k f h =
    ⊎_elim
    (λ (e : eqb (care / 2 ^ k) 0 ≡ true).
    rw e (plus_diagram w (suc n) k f h ∙ diagram_same value_end (suc n) k (λ σ. f σ + w) (λ σ. f σ + pick (meets k care value σ) w 0) (λ σ _. rw (meets_all care value k σ (eqb-true (care / 2 ^ k) 0 e)))))
    (λ (e : eqb (care / 2 ^ k) 0 ≡ false).
    rw e (add_sides care value w n k f h (add_diagram care value w n (suc k) (λ σ. f (false ∷ σ)) (omega arith)) (add_diagram care value w n (suc k) (λ σ. f (true ∷ σ)) (omega arith))))
    (test (eqb (care / 2 ^ k) 0))

-- the sides of an ordered tree have greater bits
pub sides_canon : (k : ℕ) (t : Tree) → Canon k t → Canon (suc k) (low_t k t) × Canon (suc k) (high_t k t)
unfolding Canon low_t high_t
sides_canon k none c = (tt, tt)
sides_canon k all c = (tt, tt)
sides_canon k (node b l h) c =
    ⊎_elim
    (λ (e : eqb b k ≡ true). let q : b ≡ k = eqb-true b k e in rw e (rw (← q) c.2, rw (← q) c.3))
    (λ (e : eqb b k ≡ false). let q : b ≡ k → ⊥ = eqb-false b k e in rw e ((omega (arith, c.0), c.1, c.2, c.3), (omega (arith, c.0), c.1, c.2, c.3)))
    (test (eqb b k))

canon_cond : (n : ℕ) (v : Bool) (t u : Tree) → Canon n t → Canon n u → Canon n (cond v t u)
canon_cond n true t u ct cu = ct
canon_cond n false t u ct cu = cu

pub canon_add : (care value w m k : ℕ) (t : Tree) → Canon k t → Canon k (add_t m k care value w t)
unfolding add_t
canon_add care value w zero k t c = canon_plus w k t c
canon_add care value w (suc m) k t c =
    let s = sides_canon k t c in
    ⊎_elim
    (λ (e : eqb (care / 2 ^ k) 0 ≡ true). rw e (canon_plus w k t c))
    (λ (e : eqb (care / 2 ^ k) 0 ≡ false).
    rw e (canon_mk_t k k _ _ (omega arith)
    (canon_cond (suc k) (low_in care value k) (add_t m (suc k) care value w (low_t k t)) (low_t k t) (canon_add care value w m (suc k) (low_t k t) s.0) s.0)
    (canon_cond (suc k) (high_in care value k) (add_t m (suc k) care value w (high_t k t)) (high_t k t) (canon_add care value w m (suc k) (high_t k t) s.1) s.1)))
    (test (eqb (care / 2 ^ k) 0))

same_sides : (k : ℕ) (t : Tree) (z l h : Bool) → cond z t (mk_t k (cond l t t) (cond h t t)) ≡ t
same_sides k t true l h = refl
same_sides k t false true true = mk_t_same k t t refl
same_sides k t false true false = mk_t_same k t t refl
same_sides k t false false true = mk_t_same k t t refl
same_sides k t false false false = mk_t_same k t t refl

-- the two sets without a node stay
pub add_none : (care value w m k : ℕ) → add_t m k care value w none ≡ none
unfolding add_t plus_t low_t high_t
add_none care value w zero k = refl
add_none care value w (suc m) k = rw (add_none care value w m (suc k)) (same_sides k none (eqb (care / 2 ^ k) 0) (low_in care value k) (high_in care value k))

pub add_all : (care value w m k : ℕ) → add_t m k care value w all ≡ all
unfolding add_t plus_t low_t high_t
add_all care value w zero k = refl
add_all care value w (suc m) k = rw (add_all care value w m (suc k)) (same_sides k all (eqb (care / 2 ^ k) 0) (low_in care value k) (high_in care value k))

plus_none : (k : ℕ) → k + 0 ≡ k
plus_none k = omega arith

shift : (k m : ℕ) → suc k + m ≡ k + suc m
shift k m = omega arith

-- where the cube names no bit from k on, w is added everywhere
pub add_plain : (care value w m k : ℕ) (t : Tree) → care / 2 ^ k ≡ 0 → add_t m k care value w t ≡ plus_t w t
unfolding add_t
add_plain care value w zero k t e = refl
add_plain care value w (suc m) k t e = rw (eq-eqb (care / 2 ^ k) 0 e)

-- bits past those of the cube do not matter
pub add_enough : (care value w m n k : ℕ) (t : Tree) → care / 2 ^ (k + m) ≡ 0 → care / 2 ^ (k + n) ≡ 0 → add_t m k care value w t ≡ add_t n k care value w t
unfolding add_t
add_enough care value w zero n k t e f = sym (add_plain care value w n k t (rw (plus_none k) at e))
add_enough care value w (suc m) zero k t e f = add_plain care value w (suc m) k t (rw (plus_none k) at f)
add_enough care value w (suc m) (suc n) k t e f =
    let e' : care / 2 ^ (suc k + m) ≡ 0 = rw (shift k m) e in
    let f' : care / 2 ^ (suc k + n) ≡ 0 = rw (shift k n) f in
    rw (add_enough care value w m n (suc k) (low_t k t) e' f', add_enough care value w m n (suc k) (high_t k t) e' f')
