-- A name of a set and a name of the utility diagram: what the readers say of their trees. Assumes nothing.
use Prim.Native.Nat.{ℕ, zero, suc, ◌+◌, ◌-◌, ◌≤◌, ◌<◌, min}
use mathlib.Core.Path.{◌≡◌, refl, sym, ap, ◌∙◌}
use mathlib.Core.Bool.{true, false}
use mathlib.Core.Logic.{⊎_elim}
use mathlib.Core.List.{List}
use native.Mathlib.Omega.{arith}
use lib.ListN.{get_or}
use lib.Dec.{ltb}
use borrow.Author.Tests.{ltb-true, ltb-false, eq-eqb, ne_eqb}
use Rattle.diagrams.specs.Tree.{Tree, none, all, node, named, Canon, low_t, high_t}
use Rattle.diagrams.specs.Store.{Table, tree, Store}
use Rattle.diagrams.specs.Memo.{Memo}
use Rattle.diagrams.specs.declared.Split.{Split}
use Rattle.diagrams.proofs.Trees.{test}
use Rattle.diagrams.proofs.Entries.{tree_canon}
use Rattle.diagrams.proofs.Applies.{lead}
use Rattle.diagrams.proofs.Children.{tree_inner}
use Rattle.diagrams.proofs.Memos.{memo_extends}
use Rattle.utility.specs.Within.{within_t}
use Rattle.utility.specs.Reading.{nodes, end_of, pair_of, Names}
use Rattle.std.specs.Prelude.{Option, Some, None}
use Rattle.utility.proofs.Adds.{sides_canon}
use Rattle.utility.proofs.Within.{Walks, within_end, within_none, within_all, within_lead}

-- a store that is only read needs no working lists
abbrev pub bare : Table → Table
bare s = nodes s.bit s.low s.high s.count

pub store_bare : (s : Table) → Store s → Store (bare s)
store_bare s st =
    record {
      low_length = st.low_length;
      high_length = st.high_length;
      short = st.short;
      room = st.room;
      low_earlier = st.low_earlier;
      high_earlier = st.high_earlier;
      apart = st.apart;
      canon = st.canon;
      chained = record { links = λ k lt le some. absurd (omega arith); reach = λ k lt le some. absurd (omega arith) };
    }

pub memo_bare : (s : Table) (memo : List ℕ) → Memo s memo → Memo (bare s) memo
memo_bare s memo m = memo_extends s (bare s) (omega arith) (λ n h. refl) m.states memo m

pub memo_full : (s : Table) (memo : List ℕ) → Memo (bare s) memo → Memo s memo
memo_full s memo m = memo_extends (bare s) s (omega arith) (λ n h. refl) m.states memo m

-- a name other than 0 stands for a set that is not empty
pub not_none : (s : Table) (st : Store s) (a : ℕ) → a < s.count + 2 → (a ≡ 0 → ⊥) → tree s a ≡ none → ⊥
unfolding named
not_none s st zero lt n e = n refl
not_none s st (suc zero) lt n e = let z : ◌≡◌ {A = ℕ} 0 1 = cc in omega arith
not_none s st (suc (suc k)) lt n e =
    let i = tree_inner s st (suc (suc k)) (omega arith) lt in
    let z : ◌≡◌ {A = ℕ} 0 1 = cc in
    omega arith

some_same : {v w : ℕ} → ◌≡◌ {A = Option ℕ} (Some v) (Some w) → v ≡ w
some_same e = cc

none_some : {v : ℕ} → ◌≡◌ {A = Option ℕ} None (Some v) → ⊥
none_some e = cc

-- a name that stands for an end value
module _ {A : Type 0} (end : Tree → ℕ → A) (join : ℕ → A → A → A) (𝓦 : Walks end join) (x : Table) (sx : Store x) (t : Tree) where
  low_end : (d : ℕ) → d < 2 → within_t end join t (tree x d) ≡ end t 0
  unfolding named
  low_end zero lt = within_none end join 𝓦 t
  low_end (suc zero) lt = within_all end join 𝓦 t
  low_end (suc (suc d)) lt = absurd (omega arith)

  pub end_value : (d v : ℕ) → d < x.count + 2 → end_of x.bit d ≡ Some v → within_t end join t (tree x d) ≡ end t v
  end_value d v lt is =
      ⊎_elim
      (λ (p : ltb d 2 ≡ true). rw (← some_same (rw p at is)) (low_end d (ltb-true d 2 p)))
      (λ (p : ltb d 2 ≡ false).
      ⊎_elim
      (λ (q : ltb (get_or x.bit (d - 2) 0) 64 ≡ true). absurd (none_some (rw (p, q) at is)))
      (λ (q : ltb (get_or x.bit (d - 2) 0) 64 ≡ false).
      rw (← some_same (rw (p, q) at is), tree_inner x sx d (ltb-false d 2 p) lt) (within_end end join 𝓦 t _ _ _ (ltb-false (get_or x.bit (d - 2) 0) 64 q)))
      (test (ltb (get_or x.bit (d - 2) 0) 64)))
      (test (ltb d 2))

-- a name that stands for no end value
pub no_end : (ubit : List ℕ) (d : ℕ) → end_of ubit d ≡ None → (2 ≤ d) × (get_or ubit (d - 2) 0 < 64)
no_end ubit d is =
    ⊎_elim
    (λ (p : ltb d 2 ≡ true). absurd (none_some (sym (rw p at is))))
    (λ (p : ltb d 2 ≡ false).
    ⊎_elim
    (λ (q : ltb (get_or ubit (d - 2) 0) 64 ≡ true). (ltb-false d 2 p, ltb-true (get_or ubit (d - 2) 0) 64 q))
    (λ (q : ltb (get_or ubit (d - 2) 0) 64 ≡ false). absurd (none_some (sym (rw (p, q) at is))))
    (test (ltb (get_or ubit (d - 2) 0) 64)))
    (test (ltb d 2))

-- the names l and h stand for the sides of the name a at the bit v
pub record Side (s : Table) (v a l h : ℕ) : Type 0 where
  pub low_le : l ≤ a
  pub high_le : h ≤ a
  pub low_is : tree s l ≡ low_t v (tree s a)
  pub high_is : tree s h ≡ high_t v (tree s a)
  pub order : Canon v (tree s a)

flat_low : (s : Table) (v n : ℕ) → n < 2 → tree s n ≡ low_t v (tree s n)
unfolding named low_t
flat_low s v zero lt = refl
flat_low s v (suc zero) lt = refl
flat_low s v (suc (suc n)) lt = absurd (omega arith)

flat_high : (s : Table) (v n : ℕ) → n < 2 → tree s n ≡ high_t v (tree s n)
unfolding named high_t
flat_high s v zero lt = refl
flat_high s v (suc zero) lt = refl
flat_high s v (suc (suc n)) lt = absurd (omega arith)

flat_canon : (s : Table) (v n : ℕ) → n < 2 → Canon v (tree s n)
unfolding named Canon
flat_canon s v zero lt = tt
flat_canon s v (suc zero) lt = tt
flat_canon s v (suc (suc n)) lt = absurd (omega arith)

module _ (s : Table) (st : Store s) (a : ℕ) (la : a < s.count + 2) where
  -- a name without a node
  flat : (v : ℕ) → a < 2 → Side s v a a a
  flat v lt = record { low_le = omega arith; high_le = omega arith; low_is = flat_low s v a lt; high_is = flat_high s v a lt; order = flat_canon s v a lt }

  module _ (ha : 2 ≤ a) where
    abbrev b : ℕ
    b = get_or s.bit (a - 2) 0

    abbrev l : ℕ
    l = get_or s.low (a - 2) 0

    abbrev h : ℕ
    h = get_or s.high (a - 2) 0

    inner : tree s a ≡ node b (tree s l) (tree s h)
    inner = tree_inner s st a ha la

    falls : (l < a) × (h < a)
    falls = (omega (arith, st.low_earlier (a - 2) (omega arith)), omega (arith, st.high_earlier (a - 2) (omega arith)))

    -- the root has the bit v
    own : (v : ℕ) → v ≡ b → Side s v a l h
    unfolding low_t high_t Canon
    own v e =
        let c : Canon 0 (node b (tree s l) (tree s h)) = rw inner at (tree_canon s st a la) in
        record {
          low_le = omega (arith, falls);
          high_le = omega (arith, falls);
          low_is = rw (inner, eq-eqb b v (sym e));
          high_is = rw (inner, eq-eqb b v (sym e));
          order = rw inner (omega arith, c.1, c.2, c.3);
        }

    -- the root has a greater bit
    other : (v : ℕ) → v < b → Side s v a a a
    unfolding low_t high_t Canon
    other v lt =
        let c : Canon 0 (node b (tree s l) (tree s h)) = rw inner at (tree_canon s st a la) in
        record {
          low_le = omega arith;
          high_le = omega arith;
          low_is = rw (inner, ne_eqb b v (omega arith));
          high_is = rw (inner, ne_eqb b v (omega arith));
          order = rw inner (omega arith, c.1, c.2, c.3);
        }

-- a name of a set and one of the diagram, and the names on the two sides of the lesser of their bits
pub record Pair (s x : Table) (a d : ℕ) (p : Split) : Type 0 where
  pub of_set : Side s p.bit a p.al p.ah
  pub of_values : Side x p.bit d p.bl p.bh
  pub low_falls : p.al + p.bl < a + d
  pub high_falls : p.ah + p.bh < a + d
  pub leads : p.bit ≡ lead (tree s a) (tree x d)
  pub below : p.bit < 64

-- the names on the two sides of a pair
module _ (s x : Table) (n a d : ℕ) (f : Names s x n a d) (p : Split) (q : Pair s x a d p) where
  side_canon : (s : Table) (a l h : ℕ) → Side s p.bit a l h → Canon (suc p.bit) (tree s l) × Canon (suc p.bit) (tree s h)
  side_canon s a l h e = let c = sides_canon p.bit (tree s a) e.order in (rw e.low_is c.0, rw e.high_is c.1)

  pub low_names : Names s x (suc p.bit) p.al p.bl
  low_names =
      record {
        a_below = omega (arith, f.a_below, q.of_set.low_le);
        d_below = omega (arith, f.d_below, q.of_values.low_le);
        a_from = (side_canon s a p.al p.ah q.of_set).0;
        d_from = (side_canon x d p.bl p.bh q.of_values).0;
      }

  pub high_names : Names s x (suc p.bit) p.ah p.bh
  high_names =
      record {
        a_below = omega (arith, f.a_below, q.of_set.high_le);
        d_below = omega (arith, f.d_below, q.of_values.high_le);
        a_from = (side_canon s a p.al p.ah q.of_set).1;
        d_from = (side_canon x d p.bl p.bh q.of_values).1;
      }

lead_from : (n c : ℕ) (t l h : Tree) → Canon n t → Canon n (node c l h) → n ≤ lead t (node c l h)
unfolding Canon lead
lead_from n c none l h ct cu = cu.0
lead_from n c all l h ct cu = cu.0
lead_from n c (node b m k) l h ct cu = omega (arith, ct.0, cu.0)

module _ (s x : Table) (st : Store s) (sx : Store x) (a d : ℕ) (la : a < s.count + 2) (ld : d < x.count + 2) (hd : 2 ≤ d) (small : get_or x.bit (d - 2) 0 < 64) (some : a ≡ 0 → ⊥) where
  abbrev c : ℕ
  c = get_or x.bit (d - 2) 0

  abbrev a_bit : ℕ
  a_bit = get_or s.bit (a - 2) 0

  d_inner : tree x d ≡ node c (tree x (get_or x.low (d - 2) 0)) (tree x (get_or x.high (d - 2) 0))
  d_inner = tree_inner x sx d hd ld

  d_falls : (get_or x.low (d - 2) 0 < d) × (get_or x.high (d - 2) 0 < d)
  d_falls = falls x sx d ld hd

  full_lead : a < 2 → c ≡ lead (tree s a) (tree x d)
  unfolding lead named
  full_lead lt = let e : a ≡ 1 = omega arith in rw (e, d_inner)

  lead_min : 2 ≤ a → lead (tree s a) (tree x d) ≡ min a_bit c
  unfolding lead
  lead_min ha = rw (tree_inner s st a ha la, d_inner)

  pub pair : (p : Split) → p ≡ pair_of s.bit s.low s.high x.bit x.low x.high a d → Pair s x a d p
  pair p is =
      ⊎_elim
      (λ (e : ltb a 2 ≡ true).
      let lt = ltb-true a 2 e in
      rw (rw e at is)
      (record { of_set = flat s st a la c lt; of_values = own x sx d ld hd c refl; low_falls = omega (arith, d_falls); high_falls = omega (arith, d_falls); leads = full_lead lt; below = small }))
      (λ (e : ltb a 2 ≡ false).
      let ha = ltb-false a 2 e in
      let fa = falls s st a la ha in
      ⊎_elim
      (λ (f : ltb a_bit c ≡ true).
      let lt = ltb-true a_bit c f in
      rw (rw (e, f) at is)
      (record { of_set = own s st a la ha a_bit refl; of_values = other x sx d ld hd a_bit lt; low_falls = omega (arith, fa); high_falls = omega (arith, fa); leads = omega (arith, lead_min ha); below = omega arith }))
      (λ (f : ltb a_bit c ≡ false).
      let ge = ltb-false a_bit c f in
      ⊎_elim
      (λ (g : ltb c a_bit ≡ true).
      let gt = ltb-true c a_bit g in
      rw (rw (e, f, g) at is)
      (record { of_set = other s st a la ha c gt; of_values = own x sx d ld hd c refl; low_falls = omega (arith, d_falls); high_falls = omega (arith, d_falls); leads = omega (arith, lead_min ha); below = small }))
      (λ (g : ltb c a_bit ≡ false).
      let le = ltb-false c a_bit g in
      rw (rw (e, f, g) at is)
      (record { of_set = own s st a la ha a_bit refl; of_values = own x sx d ld hd a_bit (omega arith); low_falls = omega (arith, fa, d_falls); high_falls = omega (arith, fa, d_falls); leads = omega (arith, lead_min ha); below = omega arith }))
      (test (ltb c a_bit)))
      (test (ltb a_bit c)))
      (test (ltb a 2))

  -- the walk goes on at the two sides
  pub walk_on : {A : Type 0} (end : Tree → ℕ → A) (join : ℕ → A → A → A) (𝓦 : Walks end join) (p : Split) → Pair s x a d p → within_t end join (tree s a) (tree x d) ≡ join p.bit (within_t end join (tree s p.al) (tree x p.bl)) (within_t end join (tree s p.ah) (tree x p.bh))
  walk_on end join 𝓦 p q =
      rw (q.of_set.low_is, q.of_set.high_is, q.of_values.low_is, q.of_values.high_is)
      (rw d_inner (within_lead end join 𝓦 (tree s a) c _ _ p.bit (not_none s st a la some) small (q.leads ∙ ap (lead (tree s a)) d_inner)))

  -- the lesser bit of a pair whose bits are n or more
  pub pair_from : (n : ℕ) → Names s x n a d → (p : Split) → Pair s x a d p → n ≤ p.bit
  pair_from n f p q = let cd = rw d_inner at f.d_from in omega (arith, q.leads ∙ ap (lead (tree s a)) d_inner, lead_from n c (tree s a) _ _ f.a_from cd)
