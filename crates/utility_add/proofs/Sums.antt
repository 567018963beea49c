-- A weight added at the states of a cube, of which the next bit is told that it cares for: what the tree becomes. Assumes nothing.
use Prim.Native.Nat.{ℕ, zero, suc, ◌+◌, ◌-◌, ◌/◌, ◌%◌, ◌^◌, ◌≤◌, ◌<◌, min}
use mathlib.Core.Path.{◌≡◌, refl, sym, ◌∙◌}
use mathlib.Core.Bool.{Bool, true, false, cond}
use mathlib.Core.Logic.{⊎_elim}
use native.Mathlib.Omega.{arith}
use native.Mathlib.Nat.{div-eq_of_lt}
use native.Mathlib.Numerals.{add-one}
use lib.Dec.{ltb, eqb}
use borrow.Author.Tests.{lt-ltb, le-ltb, le-leb, ltb-true, ltb-false, eq-eqb, ne_eqb, eqb-true, eqb-false}
use Rattle.diagrams.specs.Tree.{Tree, none, all, node, same, mk_t, Canon, Under, low_t, high_t}
use Rattle.diagrams.proofs.Trees.{test, mk_t_same}
use Rattle.diagrams.proofs.Canonical.{canon_weaken}
use Rattle.diagrams.proofs.Meets.{canon_low, canon_high}
use Rattle.cube_bits.specs.Following.{Uncared, Following}
use Rattle.cube_bits.proofs.Words.{word_later, word_bits_lem, uncared_within, following_later}
use Rattle.utility.specs.Adding.{plus_t, digit, low_in, high_in, add_t}
use Rattle.utility.proofs.Adds.{add_none, add_all, add_plain}
use Rattle.utility_add.specs.Sums.{level_t, add_from}
use Rattle.utility_add.specs.Lawful.{level_range}
use Rattle.cube_bits.specs.Cuts.{Sides}

-- nothing is added
pub from_outside : (care value w k : ℕ) (t : Tree) → k ≡ 65 → add_from care value w k t ≡ t
unfolding add_from
from_outside care value w k t e = rw (eq-eqb k 65 e)

-- the two sets without a node stay
both_same : (c : Bool) (t u : Tree) → u ≡ t → cond c t u ≡ t
both_same true t u e = refl
both_same false t u e = e

pub from_none : (care value w k : ℕ) → add_from care value w k none ≡ none
unfolding add_from level_t
from_none care value w k = both_same (eqb k 65) none _ (add_none care value w (48 - k) k)

pub from_all : (care value w k : ℕ) → add_from care value w k all ≡ all
unfolding add_from level_t
from_all care value w k = both_same (eqb k 65) all _ (add_all care value w (48 - k) k)

-- an end value
pub from_end : (care value w k b : ℕ) (l h : Tree) → k ≡ 64 → 64 ≤ b → add_from care value w k (node b l h) ≡ mk_t (b + w) none all
unfolding add_from level_t add_t plus_t mk_t same
from_end care value w k b l h e ge =
    let m : min b 64 ≡ 64 = omega arith in
    rw (e, m, le-ltb b 64 ge)

-- the cube has states on both sides of a bit that it does not care for
both_in : (care value k : ℕ) → digit care k ≡ 0 → (low_in care value k ≡ true) × (high_in care value k ≡ true)
unfolding low_in high_in digit
both_in care value k z = (lt-ltb (care / 2 ^ k % 2 + value / 2 ^ k % 2) 2 (omega arith), le-leb (care / 2 ^ k % 2) (value / 2 ^ k % 2) (omega arith))

-- and on one side of a bit that it cares for
low_only : (care value k : ℕ) → digit care k ≡ 1 → digit value k ≡ 0 → (low_in care value k ≡ true) × (high_in care value k ≡ false)
unfolding low_in high_in
low_only care value k c v = (rw (c, v), rw (c, v))

high_only : (care value k : ℕ) → digit care k ≡ 1 → digit value k ≡ 1 → (low_in care value k ≡ false) × (high_in care value k ≡ true)
unfolding low_in high_in
high_only care value k c v = (rw (c, v), rw (c, v))

module _ (care value w : ℕ) where
  -- the addition from bit n on
  abbrev sum : ℕ → Tree → Tree
  sum n t = add_t (48 - n) n care value w t

  -- a bit that neither the cube cares for nor the tree has
  sum_skip : (n : ℕ) (t : Tree) → digit care n ≡ 0 → Canon (suc n) t → sum n t ≡ sum (suc n) t
  unfolding add_t low_t high_t Canon
  sum_skip n none z c = add_none care value w (48 - n) n ∙ sym (add_none care value w (48 - suc n) (suc n))
  sum_skip n all z c = add_all care value w (48 - n) n ∙ sym (add_all care value w (48 - suc n) (suc n))
  sum_skip n (node b l h) z c =
      ⊎_elim
      (λ (e : ltb n 48 ≡ true).
      let left : 48 - n ≡ suc (48 - suc n) = omega (arith, ltb-true n 48 e) in
      ⊎_elim
      (λ (f : eqb (care / 2 ^ n) 0 ≡ true).
      let p = eqb-true (care / 2 ^ n) 0 f in
      add_plain care value w (48 - n) n (node b l h) p ∙ sym (add_plain care value w (48 - suc n) (suc n) (node b l h) (word_later care n (suc n) p (omega arith))))
      (λ (f : eqb (care / 2 ^ n) 0 ≡ false).
      let i = both_in care value n z in
      rw (left, f, ne_eqb b n (omega (arith, c.0)), i.0, i.1) (mk_t_same n _ _ refl))
      (test (eqb (care / 2 ^ n) 0)))
      (λ (e : ltb n 48 ≡ false).
      let p : 48 - n ≡ 0 = omega (arith, ltb-false n 48 e) in
      let q : 48 - suc n ≡ 0 = omega (arith, ltb-false n 48 e) in
      rw (p, q))
      (test (ltb n 48))

  sum_up : (d n m : ℕ) (t : Tree) → m ≡ n + d → Canon m t → Uncared care n m → sum n t ≡ sum m t
  unfolding digit
  sum_up zero n m t e c z = let q : m ≡ n = omega (arith, e) in rw q
  sum_up (suc d) n m t e c z =
      let q : m ≡ suc (n + d) = omega (arith, e) in
      let c' : Canon (suc (n + d)) t = rw q at c in
      rw q
      (sum_up d n (n + d) t refl (canon_weaken (n + d) (suc (n + d)) t (omega arith) c') (uncared_within care n m n (n + d) z (omega arith) (omega (arith, q)))
      ∙ sum_skip (n + d) t (z.at (n + d) (omega arith) (omega (arith, q))) c')

  -- from whatever bit on no bit comes before k
  pub from_sum : (n k : ℕ) (t : Tree) → Canon n t → Following care n k → add_from care value w k t ≡ add_t (48 - n) n care value w t
  unfolding add_from
  from_sum n k t c x =
      let r = level_range n k t c x.from in
      rw (ne_eqb k 65 (omega (arith, x.upto)))
      (sym (sum_up (level_t k t - n) n (level_t k t) t (omega (arith, r.1.0)) r.0 (uncared_within care n k n (level_t k t) x.uncared (omega arith) r.1.1)))

  module _ (small : care < 281474976710656) where
    -- the sides of a root bit that the cube does not care for
    sum_root : (b : ℕ) (l h : Tree) → b < 64 → digit care b ≡ 0 → sum b (node b l h) ≡ mk_t b (sum (suc b) l) (sum (suc b) h)
    unfolding add_t plus_t low_t high_t
    sum_root b l h lt z =
        ⊎_elim
        (λ (f : eqb (care / 2 ^ b) 0 ≡ true).
        let p = eqb-true (care / 2 ^ b) 0 f in
        let q = word_later care b (suc b) p (omega arith) in
        rw (add_plain care value w (48 - b) b (node b l h) p, add_plain care value w (48 - suc b) (suc b) l q, add_plain care value w (48 - suc b) (suc b) h q, lt-ltb b 64 lt))
        (λ (f : eqb (care / 2 ^ b) 0 ≡ false).
        let i = both_in care value b z in
        let n : 0 < care / 2 ^ b = omega (arith, eqb-false (care / 2 ^ b) 0 f) in
        let left : 48 - b ≡ suc (48 - suc b) = omega (arith, word_bits_lem care 48 b (div-eq_of_lt small) n) in
        rw (left, f, eq-eqb b b refl, i.0, i.1))
        (test (eqb (care / 2 ^ b) 0))

    -- the sides of a bit that it cares for
    sum_bit : (k : ℕ) (t : Tree) → digit care k ≡ 1 → sum k t ≡ mk_t k (cond (low_in care value k) (sum (suc k) (low_t k t)) (low_t k t)) (cond (high_in care value k) (sum (suc k) (high_t k t)) (high_t k t))
    unfolding add_t digit
    sum_bit k t z =
        let n : 0 < care / 2 ^ k = omega (arith, z) in
        let left : 48 - k ≡ suc (48 - suc k) = omega (arith, word_bits_lem care 48 k (div-eq_of_lt small) n) in
        rw (left, ne_eqb (care / 2 ^ k) 0 (omega (arith, n)))

    -- a tree parted at its root bit
    pub from_root : (n k b : ℕ) (l h : Tree) → Canon n (node b l h) → Following care n k → b < k → add_from care value w k (node b l h) ≡ mk_t b (add_from care value w k l) (add_from care value w k h)
    unfolding Canon digit
    from_root n k b l h c x lt =
        let here : Following care b k = following_later care n b k x c.0 (omega arith) in
        let later : Following care (suc b) k = following_later care n (suc b) k x (omega (arith, c.0)) (omega arith) in
        from_sum b k (node b l h) (omega arith, c.1, c.2, c.3) here
        ∙ sum_root b l h (omega (arith, x.upto)) (x.uncared.at b c.0 lt)
        ∙ rw (from_sum (suc b) k l c.2 later, from_sum (suc b) k h c.3 later)

    -- a tree parted at the next bit
    pub from_bit : (n k : ℕ) (t : Tree) → Canon k t → Following care n k → k < 64 → (p q : ℕ) → Sides care value k p q → add_from care value w k t ≡ mk_t k (add_from care value w p (low_t k t)) (add_from care value w q (high_t k t))
    unfolding digit
    from_bit n k t c x lt p q sd =
        let here : Following care k k = following_later care n k k x x.from (omega arith) in
        let z = x.cared lt in
        from_sum k k t c here ∙ sum_bit k t z
        ∙ ⊎_elim
        (λ o.
        let i = low_only care value k z o.0 in
        let nx : Following care (suc k) p = rw (add-one k) at o.1.0 in
        rw (i.0, i.1, from_sum (suc k) p (low_t k t) (canon_low k t c) nx, from_outside care value w q (high_t k t) o.1.1))
        (λ o.
        let i = high_only care value k z o.0 in
        let nx : Following care (suc k) q = rw (add-one k) at o.1.1 in
        rw (i.0, i.1, from_outside care value w p (low_t k t) o.1.0, from_sum (suc k) q (high_t k t) (canon_high k t c) nx))
        sd

-- the sides' bits are no greater
pub under_sides : (m v : ℕ) (t : Tree) → Under m t → Under m (low_t v t) × Under m (high_t v t)
unfolding Under low_t high_t
under_sides m v none u = (tt, tt)
under_sides m v all u = (tt, tt)
under_sides m v (node b l h) u =
    ⊎_elim
    (λ (e : eqb b v ≡ true). rw e (u.1, u.2))
    (λ (e : eqb b v ≡ false). rw e (u, u))
    (test (eqb b v))
