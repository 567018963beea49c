-- The walk through a set and a utility diagram: by the lesser root bit, on the diagrams of functions, and its two uses. Assumes nothing.
use Prim.Native.Nat.{ℕ, zero, suc, ◌+◌, ◌-◌, ◌≤◌, ◌<◌, max}
use mathlib.Core.Path.{◌≡◌, refl, sym, ap, ap₂, ◌∙◌}
use mathlib.Core.Bool.{Bool, true, false, cond, ◌&&◌}
use mathlib.Core.Logic.{⊎_elim}
use mathlib.Core.List.{List, [], ◌∷◌}
use mathlib.Core.Option.{Option, some}
use native.Mathlib.Omega.{arith}
use lib.Dec.{ltb, eqb}
use borrow.Author.Tests.{lt-ltb, le-ltb, eq-eqb, ne_eqb, ltb-true, ltb-false}
use Rattle.diagrams.specs.Tree.{Tree, none, all, node, same, mk_t, end_t, Canon, low_t, high_t, value_end, diagram}
use Rattle.diagrams.proofs.Trees.{test, same_true, mk_t_same, mk_t_node}
use Rattle.diagrams.proofs.Applies.{lead}
use Rattle.diagrams.proofs.Canonical.{canon_mk_t}
use Rattle.diagrams.proofs.Diagrams.{canon_set, canon_diagram, canon_value_end}
use Rattle.planning.specs.Connectives.{pick}
use Rattle.search_theory.specs.Optimum.{larger, most}
use Rattle.utility.specs.Within.{whole_t, within_t, most_end, most_t, select_end, select_t, as_number}
use Rattle.utility.proofs.Shapes.{equal}

-- equal sides give what each gives; the empty set has no value; a set that a bit parts gives what its sides give
pub record Walks {A : Type 0} (end : Tree → ℕ → A) (join : ℕ → A → A → A) : Type 0 where
  pub idem : (k : ℕ) (x : A) → join k x x ≡ x
  pub empty : (v : ℕ) → end none v ≡ end none 0
  pub parts : (k v : ℕ) (l h : Tree) → (l ≡ h → ⊥) → end (node k l h) v ≡ join k (end l v) (end h v)

module _ {A : Type 0} (end : Tree → ℕ → A) (join : ℕ → A → A → A) (𝓦 : Walks end join) where
  abbrev walk : Tree → Tree → A
  walk t u = within_t end join t u

  pub within_end : (t : Tree) (c : ℕ) (m k : Tree) → 64 ≤ c → walk t (node c m k) ≡ end t (c - 64)
  unfolding within_t whole_t
  within_end none c m k h = sym (𝓦.empty (c - 64))
  within_end all c m k h = rw (le-ltb c 64 h)
  within_end (node b l r) c m k h = rw (le-ltb c 64 h)

  pub within_none : (t : Tree) → walk t none ≡ end t 0
  unfolding within_t whole_t
  within_none none = refl
  within_none all = refl
  within_none (node b l r) = refl

  pub within_all : (t : Tree) → walk t all ≡ end t 0
  unfolding within_t whole_t
  within_all none = refl
  within_all all = refl
  within_all (node b l r) = refl

  module _ (k : ℕ) (lt : k < 64) where
    -- the set has the bit k, the diagram has not
    left : (l h u : Tree) → (l ≡ h → ⊥) → Canon (suc k) u → walk (node k l h) u ≡ join k (walk l u) (walk h u)
    unfolding within_t Canon
    left l h none n c = rw (within_none l, within_none h) (𝓦.parts k 0 l h n)
    left l h all n c = rw (within_all l, within_all h) (𝓦.parts k 0 l h n)
    left l h (node d m r) n c =
        ⊎_elim
        (λ (e : ltb d 64 ≡ true). rw (e, lt-ltb k d c.0))
        (λ (e : ltb d 64 ≡ false).
        let ge = ltb-false d 64 e in
        within_end (node k l h) d m r ge ∙ 𝓦.parts k (d - 64) l h n ∙ ap₂ (join k) (sym (within_end l d m r ge)) (sym (within_end h d m r ge)))
        (test (ltb d 64))

    -- the diagram has it, the set has not
    right : (t m r : Tree) → Canon (suc k) t → walk t (node k m r) ≡ join k (walk t m) (walk t r)
    unfolding within_t whole_t Canon
    right none m r c = sym (𝓦.idem k (end none 0))
    right all m r c = rw (lt-ltb k 64 lt)
    right (node b l h) m r c = rw (lt-ltb k 64 lt, le-ltb b k (omega (arith, c.0)), lt-ltb k b c.0)

    -- both have it
    both : (l h m r : Tree) → walk (node k l h) (node k m r) ≡ join k (walk l m) (walk h r)
    unfolding within_t
    both l h m r = rw (lt-ltb k 64 lt, le-ltb k k (omega arith))

    -- a bit is parted, whether or not a node stands there
    within_mk_t : (l h m r : Tree) → Canon (suc k) l → Canon (suc k) m → walk (mk_t k l h) (mk_t k m r) ≡ join k (walk l m) (walk h r)
    within_mk_t l h m r cl cm =
        ⊎_elim
        (λ (e : l ≡ h).
        rw (mk_t_same k l h e)
        (⊎_elim
        (λ (f : m ≡ r). rw (mk_t_same k m r f, ← e, ← f) (sym (𝓦.idem k (walk l m))))
        (λ (g : m ≡ r → ⊥). rw (mk_t_node k m r g, ← e) (right l m r cl))
        (equal m r)))
        (λ (n : l ≡ h → ⊥).
        rw (mk_t_node k l h n)
        (⊎_elim
        (λ (f : m ≡ r). rw (mk_t_same k m r f, ← f) (left l h m n cm))
        (λ (g : m ≡ r → ⊥). rw (mk_t_node k m r g) (both l h m r))
        (equal m r)))
        (equal l h)

  -- what the walk gives of the lists of n bits
  unfoldable spread : ℕ → ℕ → (List Bool → A) → A
  spread zero k F = F []
  spread (suc n) k F = join k (spread n (suc k) (λ σ. F (false ∷ σ))) (spread n (suc k) (λ σ. F (true ∷ σ)))

  within_diagram : (n k : ℕ) (f : List Bool → Bool) (g : List Bool → ℕ) → k + n ≤ 64 → walk (diagram end_t n k f) (diagram value_end n k g) ≡ spread n k (λ σ. end (end_t (f σ)) (g σ))
  unfolding diagram value_end spread
  within_diagram zero k f g h = within_end (end_t (f [])) (64 + g []) none all (omega arith) ∙ ap (end (end_t (f []))) (omega arith)
  within_diagram (suc n) k f g h =
      within_mk_t k (omega arith) (diagram end_t n (suc k) (λ σ. f (false ∷ σ))) (diagram end_t n (suc k) (λ σ. f (true ∷ σ))) (diagram value_end n (suc k) (λ σ. g (false ∷ σ))) (diagram value_end n (suc k) (λ σ. g (true ∷ σ)))
      (canon_set n (suc k) (λ σ. f (false ∷ σ)))
      (canon_diagram value_end n (suc k) (λ σ. g (false ∷ σ)) (canon_value_end (suc k + n) (omega arith)))
      ∙ ap₂ (join k) (within_diagram n (suc k) (λ σ. f (false ∷ σ)) (λ σ. g (false ∷ σ)) (omega arith)) (within_diagram n (suc k) (λ σ. f (true ∷ σ)) (λ σ. g (true ∷ σ)) (omega arith))

  -- a set that is not empty and a diagram that is no end value part at the lesser of their bits
  pub within_lead : (t : Tree) (c : ℕ) (m r : Tree) (v : ℕ) → (t ≡ none → ⊥) → c < 64 → v ≡ lead t (node c m r) → walk t (node c m r) ≡ join v (walk (low_t v t) (low_t v (node c m r))) (walk (high_t v t) (high_t v (node c m r)))
  unfolding within_t whole_t lead low_t high_t
  within_lead none c m r v n lt e = absurd (n refl)
  within_lead all c m r v n lt e = rw (e, eq-eqb c c refl, lt-ltb c 64 lt)
  within_lead (node b l h) c m r v n lt e =
      ⊎_elim
      (λ (p : ltb b c ≡ true).
      let q : v ≡ b = omega (arith, ltb-true b c p) in
      rw (q, eq-eqb b b refl, ne_eqb c b (omega (arith, ltb-true b c p)), lt-ltb c 64 lt, p))
      (λ (p : ltb b c ≡ false).
      ⊎_elim
      (λ (s : ltb c b ≡ true).
      let q : v ≡ c = omega (arith, ltb-true c b s) in
      rw (q, eq-eqb c c refl, ne_eqb b c (omega (arith, ltb-true c b s)), lt-ltb c 64 lt, p, s))
      (λ (s : ltb c b ≡ false).
      let q : v ≡ b = omega (arith, ltb-false b c p, ltb-false c b s) in
      let d : c ≡ b = omega (arith, ltb-false b c p, ltb-false c b s) in
      rw (q, d, eq-eqb b b refl, lt-ltb b 64 (omega arith), le-ltb b b (omega arith)))
      (test (ltb c b)))
      (test (ltb b c))

-- the greatest value
most_part : (x y : Bool) (v : ℕ) → ((x ≡ true) × (y ≡ true) → ⊥) → suc v ≡ max (cond x 0 (suc v)) (cond y 0 (suc v))
most_part true true v n = absurd (n (refl, refl))
most_part true false v n = omega arith
most_part false true v n = omega arith
most_part false false v n = omega arith

most_parts : (k v : ℕ) (l h : Tree) → (l ≡ h → ⊥) → most_end (node k l h) v ≡ max (most_end l v) (most_end h v)
unfolding most_end same
most_parts k v l h n = most_part (same l none) (same h none) v (λ e. n (same_true l none e.0 ∙ sym (same_true h none e.1)))

pub most_walks : Walks most_end (λ _ x y. max x y)
unfolding most_end same
most_walks = record { idem = λ k x. omega arith; empty = λ v. refl; parts = most_parts }

most_value : (b : Bool) (v : ℕ) → most_end (end_t b) v ≡ as_number (pick b (some v) Option.none)
unfolding most_end end_t same pick as_number
most_value true v = refl
most_value false v = refl

larger_max : (x y : Option ℕ) → max (as_number x) (as_number y) ≡ as_number (larger x y)
unfolding as_number larger pick
larger_max Option.none y = omega arith
larger_max (some a) Option.none = omega arith
larger_max (some a) (some b) = go (ltb a b) refl
  where
    go : (t : Bool) → ltb a b ≡ t → max (suc a) (suc b) ≡ suc (pick t b a)
    go true e = omega (arith, ltb-true a b e)
    go false e = omega (arith, ltb-false a b e)

-- over all lists of n bits
most_spread : (n k : ℕ) (f : List Bool → Bool) (g : List Bool → ℕ) → spread most_end (λ _ x y. max x y) most_walks n k (λ σ. most_end (end_t (f σ)) (g σ)) ≡ as_number (most n f g)
unfolding most spread
most_spread zero k f g = most_value (f []) (g [])
most_spread (suc n) k f g = ap₂ max (most_spread n (suc k) (λ σ. f (false ∷ σ)) (λ σ. g (false ∷ σ))) (most_spread n (suc k) (λ σ. f (true ∷ σ)) (λ σ. g (true ∷ σ))) ∙ larger_max (most n (λ σ. f (false ∷ σ)) (λ σ. g (false ∷ σ))) (most n (λ σ. f (true ∷ σ)) (λ σ. g (true ∷ σ)))

pub most_diagram : (n k : ℕ) (f : List Bool → Bool) (g : List Bool → ℕ) → k + n ≤ 64 → most_t (diagram end_t n k f) (diagram value_end n k g) ≡ as_number (most n f g)
unfolding most_t
most_diagram n k f g h = within_diagram most_end (λ _ x y. max x y) most_walks n k f g h ∙ most_spread n k f g

-- the states that have a value
select_parts : (x k v : ℕ) (l h : Tree) → (l ≡ h → ⊥) → select_end x (node k l h) v ≡ mk_t k (select_end x l v) (select_end x h v)
unfolding select_end
select_parts x k v l h n = go (eqb v x)
  where
    go : (b : Bool) → cond b (node k l h) none ≡ mk_t k (cond b l none) (cond b h none)
    go true = sym (mk_t_node k l h n)
    go false = sym (mk_t_same k none none refl)

pub select_walks : (x : ℕ) → Walks (select_end x) mk_t
unfolding select_end
select_walks x = record { idem = λ k t. mk_t_same k t t refl; empty = λ v. go (eqb v x) (eqb 0 x); parts = select_parts x }
  where
    go : (a b : Bool) → cond a none none ≡ cond b none none
    go true true = refl
    go true false = refl
    go false true = refl
    go false false = refl

select_value : (x : ℕ) (b : Bool) (v : ℕ) → select_end x (end_t b) v ≡ end_t (b && eqb v x)
unfolding select_end end_t
select_value x b v = go b (eqb v x)
  where
    go : (b c : Bool) → cond c (end_t b) none ≡ end_t (b && c)
    go true true = refl
    go true false = refl
    go false true = refl
    go false false = refl

select_spread : (x n k : ℕ) (f : List Bool → Bool) (g : List Bool → ℕ) → spread (select_end x) mk_t (select_walks x) n k (λ σ. select_end x (end_t (f σ)) (g σ)) ≡ diagram end_t n k (λ σ. f σ && eqb (g σ) x)
unfolding diagram spread
select_spread x zero k f g = select_value x (f []) (g [])
select_spread x (suc n) k f g = ap₂ (mk_t k) (select_spread x n (suc k) (λ σ. f (false ∷ σ)) (λ σ. g (false ∷ σ))) (select_spread x n (suc k) (λ σ. f (true ∷ σ)) (λ σ. g (true ∷ σ)))

pub select_diagram : (x n k : ℕ) (f : List Bool → Bool) (g : List Bool → ℕ) → k + n ≤ 64 → select_t x (diagram end_t n k f) (diagram value_end n k g) ≡ diagram end_t n k (λ σ. f σ && eqb (g σ) x)
unfolding select_t
select_diagram x n k f g h = within_diagram (select_end x) mk_t (select_walks x) n k f g h ∙ select_spread x n k f g

-- it is ordered and reduced
select_end_canon : (x n v : ℕ) (t : Tree) → Canon n t → Canon n (select_end x t v)
unfolding select_end Canon
select_end_canon x n v t c = go (eqb v x)
  where
    go : (b : Bool) → Canon n (cond b t none)
    go true = c
    go false = tt

select_whole_canon : (x n : ℕ) (u : Tree) → Canon n u → Canon n (whole_t (select_end x) mk_t u)
unfolding whole_t Canon
select_whole_canon x n none c = select_end_canon x n 0 all tt
select_whole_canon x n all c = select_end_canon x n 0 all tt
select_whole_canon x n (node d m k) c =
    ⊎_elim
    (λ (e : ltb d 64 ≡ true). rw e (canon_mk_t n d _ _ c.0 (select_whole_canon x (suc d) m c.2) (select_whole_canon x (suc d) k c.3)))
    (λ (e : ltb d 64 ≡ false). rw e (select_end_canon x n (d - 64) all tt))
    (test (ltb d 64))

select_canon : (x n : ℕ) (t u : Tree) → Canon n t → Canon n u → Canon n (within_t (select_end x) mk_t t u)
unfolding within_t Canon
select_canon x n none u ct cu = select_end_canon x n 0 none tt
select_canon x n all u ct cu = select_whole_canon x n u cu
select_canon x n (node b l h) u ct cu =
    (elim u as (λ (u : Tree). (n : ℕ) → Canon n (node b l h) → Canon n u → Canon n (within_t (select_end x) mk_t (node b l h) u)) [
      | none ↦ λ n ct cu. select_end_canon x n 0 (node b l h) ct
      | all ↦ λ n ct cu. select_end_canon x n 0 (node b l h) ct
      | node c (m → im) (k → ik) ↦ λ n ct cu.
          ⊎_elim
          (λ (e : ltb c 64 ≡ true).
          ⊎_elim
          (λ (p : ltb b c ≡ true).
          let lt = ltb-true b c p in
          let cu' : Canon (suc b) (node c m k) = (lt, cu.1, cu.2, cu.3) in
          rw (e, p) (canon_mk_t n b _ _ ct.0 (select_canon x (suc b) l (node c m k) ct.2 cu') (select_canon x (suc b) h (node c m k) ct.3 cu')))
          (λ (p : ltb b c ≡ false).
          ⊎_elim
          (λ (q : ltb c b ≡ true).
          let ct' : Canon (suc c) (node b l h) = (ltb-true c b q, ct.1, ct.2, ct.3) in
          rw (e, p, q) (canon_mk_t n c _ _ cu.0 (im (suc c) ct' cu.2) (ik (suc c) ct' cu.3)))
          (λ (q : ltb c b ≡ false).
          let bc : b ≡ c = omega (arith, ltb-false b c p, ltb-false c b q) in
          rw (e, p, q) (canon_mk_t n b _ _ ct.0 (select_canon x (suc b) l m ct.2 (rw bc cu.2)) (select_canon x (suc b) h k ct.3 (rw bc cu.3))))
          (test (ltb c b)))
          (test (ltb b c)))
          (λ (e : ltb c 64 ≡ false). rw e (select_end_canon x n (c - 64) (node b l h) ct))
          (test (ltb c 64))
    ]) n ct cu

pub canon_select : (x n : ℕ) (t u : Tree) → Canon n t → Canon n u → Canon n (select_t x t u)
unfolding select_t
canon_select x n t u ct cu = select_canon x n t u ct cu
