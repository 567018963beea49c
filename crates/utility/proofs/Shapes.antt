-- The sides of a tree at a bit, and the values of the diagram of a function. Assumes nothing.
use Prim.Native.Nat.{ℕ, zero, suc, ◌+◌, ◌≤◌, ◌<◌}
use mathlib.Core.Path.{◌≡◌, refl, subst, ◌∙◌}
use mathlib.Core.Bool.{Bool, true, false, cond}
use mathlib.Core.Logic.{◌⊎◌, ⊎_elim}
use mathlib.Core.List.{List, [], ◌∷◌}
use native.Mathlib.Omega.{arith}
use lib.ListN.{length, get_or, drop}
use lib.Seq.{drop-cons, drop-length}
use borrow.Author.Tests.{lt-ltb, le-ltb, eq-eqb, ne_eqb}
use Rattle.diagrams.specs.Tree.{Tree, none, all, node, same, mk_t, value_end, Canon, Under, low_t, high_t, bit_at, diagram}
use Rattle.diagrams.proofs.Trees.{test, no_both, same_true, same_refl, mk_t_same, mk_t_node}
use Rattle.diagrams.proofs.Unders.{under_mk_t}
use Rattle.utility.specs.Values.{value_at}

-- two trees are one or not
pub equal : (t u : Tree) → (t ≡ u) ⊎ (t ≡ u → ⊥)
equal t u = ⊎_elim (λ (e : same t u ≡ true). ◌⊎◌.inl (same_true t u e)) (λ (e : same t u ≡ false). ◌⊎◌.inr (λ q. no_both (subst (λ (x : Tree). same t x ≡ true) q (same_refl t)) e)) (test (same t u))

-- a tree of greater bits is its own side
low_self : (k : ℕ) (t : Tree) → Canon (suc k) t → low_t k t ≡ t
unfolding low_t Canon
low_self k none c = refl
low_self k all c = refl
low_self k (node b l h) c = rw (ne_eqb b k (omega (arith, c.0)))

high_self : (k : ℕ) (t : Tree) → Canon (suc k) t → high_t k t ≡ t
unfolding high_t Canon
high_self k none c = refl
high_self k all c = refl
high_self k (node b l h) c = rw (ne_eqb b k (omega (arith, c.0)))

pub low_mk_t : (k : ℕ) (l h : Tree) → Canon (suc k) l → low_t k (mk_t k l h) ≡ l
unfolding low_t
low_mk_t k l h c = ⊎_elim (λ (e : l ≡ h). rw (mk_t_same k l h e) (low_self k l c)) (λ (n : l ≡ h → ⊥). rw (mk_t_node k l h n, eq-eqb k k refl)) (equal l h)

pub high_mk_t : (k : ℕ) (l h : Tree) → Canon (suc k) h → high_t k (mk_t k l h) ≡ h
unfolding high_t
high_mk_t k l h c = ⊎_elim (λ (e : l ≡ h). rw (mk_t_same k l h e) (rw e (high_self k h c))) (λ (n : l ≡ h → ⊥). rw (mk_t_node k l h n, eq-eqb k k refl)) (equal l h)

pub under_more : (m n : ℕ) (t : Tree) → n ≤ m → Under n t → Under m t
unfolding Under
under_more m n none le b = tt
under_more m n all le b = tt
under_more m n (node c l h) le b = (omega (arith, b.0), under_more m n l le b.1, under_more m n h le b.2)

-- the value at a node made of two sides
value_mk_t : (k : ℕ) (l h : Tree) (σ : List Bool) → k < 64 → value_at (mk_t k l h) σ ≡ cond (bit_at σ k) (value_at h σ) (value_at l σ)
unfolding value_at
value_mk_t k l h σ lt = ⊎_elim (λ (e : l ≡ h). rw (mk_t_same k l h e) (rw e (both (bit_at σ k) (value_at h σ)))) (λ (n : l ≡ h → ⊥). rw (mk_t_node k l h n, lt-ltb k 64 lt)) (equal l h)
  where
    both : (c : Bool) (x : ℕ) → x ≡ cond c x x
    both true x = refl
    both false x = refl

-- the diagram has the values of the function
pub value_diagram : (n k : ℕ) (f : List Bool → ℕ) (σ : List Bool) → length σ ≡ k + n → k + n ≤ 64 → value_at (diagram value_end n k f) σ ≡ f (drop k σ)
unfolding diagram value_at value_end bit_at
value_diagram zero k f σ e le = let x : k ≡ length σ = omega arith in rw (x, drop-length, le-ltb (64 + f []) 64 (omega arith)) (omega arith)
value_diagram (suc n) k f σ e le =
    let x : length σ ≡ suc k + n = omega arith in
    let lt : k < length σ = omega arith in
    value_mk_t k (diagram value_end n (suc k) (λ s. f (false ∷ s))) (diagram value_end n (suc k) (λ s. f (true ∷ s))) σ (omega arith)
    ∙ rw (value_diagram n (suc k) (λ s. f (true ∷ s)) σ x (omega arith), value_diagram n (suc k) (λ s. f (false ∷ s)) σ x (omega arith), drop-cons σ k false lt) (side (get_or σ k false))
  where
    side : (c : Bool) → cond c (f (true ∷ drop (suc k) σ)) (f (false ∷ drop (suc k) σ)) ≡ f (c ∷ drop (suc k) σ)
    side true = refl
    side false = refl

-- the diagram of a function that is at most m
pub value_under : (m n k : ℕ) (f : List Bool → ℕ) → ((σ : List Bool) → f σ ≤ m) → k + n ≤ 64 → Under (65 + m) (diagram value_end n k f)
unfolding diagram value_end Under
value_under m zero k f h le = (omega (arith, h []), tt, tt)
value_under m (suc n) k f h le = under_mk_t (65 + m) k _ _ (omega arith) (value_under m n (suc k) (λ σ. f (false ∷ σ)) (λ σ. h (false ∷ σ)) (omega arith)) (value_under m n (suc k) (λ σ. f (true ∷ σ)) (λ σ. h (true ∷ σ)) (omega arith))
