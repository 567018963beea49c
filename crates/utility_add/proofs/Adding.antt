-- The addition of a weight as an operation of the loops. Assumes nothing.
use Prim.Native.Nat.{ℕ, zero, suc, ◌+◌, ◌-◌, ◌≤◌, ◌<◌}
use mathlib.Core.Path.{◌≡◌, refl, sym}
use mathlib.Core.Bool.{Bool, true, false}
use mathlib.Core.Logic.{◌⊎◌, inl, inr, ⊎_elim}
use mathlib.Core.List.{List}
use native.Mathlib.Omega.{arith}
use native.Mathlib.Numerals.{add-one}
use lib.ListN.{get_or}
use lib.Dec.{ltb, eqb}
use borrow.Author.Tests.{le-ltb, ltb-true, ltb-false, eq-eqb, eqb-true}
use Rattle.std.specs.Prelude.{Option, Some, None, Result, Ok, is_err}
use Rattle.diagrams.specs.Tree.{Tree, node, mk_t, named, Canon, Under, low_t, high_t}
use Rattle.diagrams.specs.Store.{Table, blank, tree, Store, Done, Makes}
use Rattle.diagrams.specs.Memo.{Stamped, Recalls, Keeps}
use Rattle.diagrams.specs.declared.Full.{Full}
use Rattle.diagrams.specs.declared.Split.{Split}
use Rattle.diagrams.proofs.Trees.{test}
use Rattle.diagrams.proofs.Meets.{canon_low, canon_high}
use Rattle.diagrams.proofs.Making.{kept}
use Rattle.diagrams.proofs.Children.{tree_inner, child_low, child_high, child_le}
use Rattle.diagrams.proofs.Memos.{stamped_recall, stamped_remember}
use Rattle.diagram_loops.specs.Loops.{Parts, Kept}
use Rattle.diagram_loops.specs.declared.Waiting.{Waiting}
use Rattle.cube_bits.specs.Following.{Following}
use Rattle.cube_bits.proofs.Words.{following_later}
use Rattle.utility.specs.Adding.{add_at}
use Rattle.utility_add.specs.Adds.{Asks, Added, Adds}
use Rattle.cube_bits.specs.Cuts.{Parts as Cut}
use Rattle.cube_bits.proofs.Cutting.{bit_below}
use Rattle.utility_add.specs.Adding.{Addable, adding, ending_of, Right}
use Rattle.utility_add.specs.Sums.{add_from}
use Rattle.utility_add.proofs.Sums.{from_outside, from_none, from_all, from_end, from_sum, from_root, from_bit, under_sides}

some_same : {v w : ℕ} → ◌≡◌ {A = Option ℕ} (Some v) (Some w) → v ≡ w
some_same e = cc

none_some : {v : ℕ} → ◌≡◌ {A = Option ℕ} None (Some v) → ⊥
none_some e = cc

-- an end value that takes the weight, and none
pub ends_some : (bit : List ℕ) (x k b : ℕ) → ending_of bit x k ≡ Some b → (k ≡ 64) × ((2 ≤ x) × ((64 ≤ b) × (b ≡ get_or bit (x - 2) 0)))
ends_some bit x k b is =
    ⊎_elim
    (λ (e : eqb k 64 ≡ true).
    ⊎_elim
    (λ (f : ltb x 2 ≡ true). absurd (none_some (rw (e, f) at is)))
    (λ (f : ltb x 2 ≡ false).
    ⊎_elim
    (λ (g : ltb (get_or bit (x - 2) 0) 64 ≡ true). absurd (none_some (rw (e, f, g) at is)))
    (λ (g : ltb (get_or bit (x - 2) 0) 64 ≡ false).
    let q : get_or bit (x - 2) 0 ≡ b = some_same (rw (e, f, g) at is) in
    (eqb-true k 64 e, (ltb-false x 2 f, (omega (arith, q, ltb-false (get_or bit (x - 2) 0) 64 g), sym q))))
    (test (ltb (get_or bit (x - 2) 0) 64)))
    (test (ltb x 2)))
    (λ (e : eqb k 64 ≡ false). absurd (none_some (rw e at is)))
    (test (eqb k 64))

pub ends_none : (bit : List ℕ) (x k : ℕ) → ending_of bit x k ≡ None → 2 ≤ x → k ≡ 64 → get_or bit (x - 2) 0 < 64
ends_none bit x k is two e =
    ⊎_elim
    (λ (g : ltb (get_or bit (x - 2) 0) 64 ≡ true). ltb-true (get_or bit (x - 2) 0) 64 g)
    (λ (g : ltb (get_or bit (x - 2) 0) 64 ≡ false). absurd (none_some (sym (rw (eq-eqb k 64 e, le-ltb x 2 two, g) at is))))
    (test (ltb (get_or bit (x - 2) 0) 64))

-- what is made, from what is asked at the beginning
module _ (s : Table) (stamp k care value w a : ℕ) (q : Asks s k care w a) where
  pub add_in : (y : ℕ) → Following care k y → (f : Bool) → f ≡ true → (s' : Table) (memo' : List ℕ) (r : Result ℕ Full) → Makes s s' r (add_from care value w y (tree s a)) → (is_err r ≡ false → Right care value w stamp s' memo') → Adds s s' memo' stamp care value w r (add_at f k care value w (tree s a))
  unfolding add_at
  add_in y n f e s' memo' r m right = rw e (record { makes = rw (from_sum care value w k y (tree s a) q.order n) at m; keeps = λ x. (right x).stamped })

  -- the cube has no state at all
  pub add_out : Store s → (memo : List ℕ) → Stamped blank memo stamp (Added s care value w) → (f : Bool) → f ≡ false → Adds s s memo stamp care value w (Ok a) (add_at f k care value w (tree s a))
  unfolding add_at
  add_out st memo m f e = rw e (record { makes = kept s st a _ q.below refl; keeps = λ _. m })

-- a name without a node stands for itself
flat : (s : Table) (care value w k n : ℕ) → n < 2 → tree s n ≡ add_from care value w k (tree s n)
unfolding named
flat s care value w k zero lt = sym (from_none care value w k)
flat s care value w k (suc zero) lt = sym (from_all care value w k)
flat s care value w k (suc (suc n)) lt = absurd (omega arith)

module _ (s : Table) (st : Store s) (care value w n x k : ℕ) (f : Addable care w s n x k) where
  shown : (r : ℕ) → r < s.count + 2 → tree s r ≡ add_from care value w k (tree s x) → Done s s r (add_from care value w k (tree s x))
  shown r lt e = (kept s st r _ lt e).done refl

  -- the cube has none of the states
  pub shown_outside : k ≡ 65 → Done s s x (add_from care value w k (tree s x))
  shown_outside e = shown x f.below (sym (from_outside care value w k (tree s x) e))

  -- a name without a node
  pub shown_flat : x < 2 → Done s s x (add_from care value w k (tree s x))
  shown_flat lt = shown x f.below (flat s care value w k x lt)

  -- the memo has the result
  pub shown_recalled : (memo : List ℕ) (stamp : ℕ) → Stamped blank memo stamp (Added s care value w) → (r : ℕ) → Recalls memo stamp x k (Some r) → Done s s r (add_from care value w k (tree s x))
  shown_recalled memo stamp right r rc = let q = stamped_recall blank memo stamp (Added s care value w) x k r right rc in shown r q.r_below q.means

  module _ (two : 2 ≤ x) where
    abbrev b : ℕ
    b = get_or s.bit (x - 2) 0

    abbrev l : ℕ
    l = get_or s.low (x - 2) 0

    abbrev h : ℕ
    h = get_or s.high (x - 2) 0

    abbrev t : Tree
    t = tree s x

    inner : tree s x ≡ node b (tree s l) (tree s h)
    inner = tree_inner s st x two f.below

    order : Canon f.level (node b (tree s l) (tree s h))
    order = rw inner at f.order

    -- an end value takes the weight
    end_fits : b + w < 4294967296
    unfolding Under
    end_fits = let u : Under (4294967296 - w) (node b (tree s l) (tree s h)) = rw inner at f.room in omega (arith, u.0)

    end_sum : k ≡ 64 → 64 ≤ b → add_from care value w k (tree s x) ≡ mk_t (b + w) (tree s 0) (tree s 1)
    unfolding named
    end_sum e ge = rw inner (from_end care value w k b (tree s l) (tree s h) e ge)

    module _ (small : care < 281474976710656) (inside : k ≡ 65 → ⊥) (past : k ≡ 64 → b < 64) (p : Split) (c : Cut s.bit s.low s.high care value x k p) (stamp : ℕ) where
      next : Following care f.level k
      next = ⊎_elim (λ (e : k ≡ 65). absurd (inside e)) (λ (y : Following care f.level k). y) f.next

      low_is : tree s p.al ≡ low_t p.bit t
      low_is = rw c.a_low (child_low s st p.bit x f.below)

      high_is : tree s p.ah ≡ high_t p.bit t
      high_is = rw c.a_high (child_high s st p.bit x f.below)

      low_le : p.al ≤ x
      low_le = omega (arith, c.a_low, child_le s st s.low st.low_earlier p.bit x f.below)

      high_le : p.ah ≤ x
      high_le = omega (arith, c.a_high, child_le s st s.high st.high_earlier p.bit x f.below)

      frame : f.level ≤ p.bit → p.bit < 64 → p.bit ≤ b → add_from care value w k t ≡ mk_t p.bit (add_from care value w p.bl (tree s p.al)) (add_from care value w p.bh (tree s p.ah)) → (p.bl ≡ 65) ⊎ Following care (suc p.bit) p.bl → (p.bh ≡ 65) ⊎ Following care (suc p.bit) p.bh → p.al + (65 - p.bl) < x + (65 - k) → p.ah + (65 - p.bh) < x + (65 - k) → Parts (adding care value w stamp) s n x k (record { a = x; b = k; part = p; lo = 4294967295 })
      unfolding Canon
      frame lv lt le nd nl nh ll hl =
          let v = p.bit in
          let cv : Canon v t = rw inner (le, order.1, order.2, order.3) in
          let u = under_sides (4294967296 - w) v t f.room in
          record {
            awaits = refl;
            same = refl;
            node = nd;
            from = omega (arith, f.from, lv);
            upto = lt;
            fit = f;
            low_fit = record { below = omega (arith, low_le, f.below); level = suc v; from = omega arith; order = rw low_is (canon_low v t cv); room = rw low_is u.0; next = nl };
            high_fit = record { below = omega (arith, high_le, f.below); level = suc v; from = omega arith; order = rw high_is (canon_high v t cv); room = rw high_is u.1; next = nh };
            low_less = ll;
            high_less = hl;
            own = tt;
          }

      -- at the root bit
      at_root : b < k → Parts (adding care value w stamp) s n x k (record { a = x; b = k; part = p; lo = 4294967295 })
      unfolding Canon
      at_root lt =
          let e = c.root lt in
          let q : b ≡ p.bit = sym e.0 in
          let al : p.al ≡ l = rw (le-ltb x 2 two, eq-eqb b p.bit q) at c.a_low in
          let ah : p.ah ≡ h = rw (le-ltb x 2 two, eq-eqb b p.bit q) at c.a_high in
          let later : Following care (suc b) k = following_later care f.level (suc b) k next (omega (arith, order.0)) (omega arith) in
          let nd : add_from care value w k t ≡ mk_t p.bit (add_from care value w p.bl (tree s p.al)) (add_from care value w p.bh (tree s p.ah)) = rw (al, ah, e.0, e.1.0, e.1.1, inner) (from_root care value w small f.level k b (tree s l) (tree s h) order next lt) in
          let nl : Following care (suc p.bit) p.bl = rw (e.0, e.1.0) later in
          let nh : Following care (suc p.bit) p.bh = rw (e.0, e.1.1) later in
          frame (omega (arith, order.0, q)) (omega (arith, q, next.upto)) (omega (arith, q)) nd (inr nl) (inr nh)
          (omega (arith, al, e.1.0, st.low_earlier (x - 2) (omega (arith, f.below))))
          (omega (arith, ah, e.1.1, st.high_earlier (x - 2) (omega (arith, f.below))))

      -- at the next bit
      at_bit : k ≤ b → Parts (adding care value w stamp) s n x k (record { a = x; b = k; part = p; lo = 4294967295 })
      unfolding Canon
      at_bit ge =
          let e = c.cared ge in
          let q = e.0 in
          let lt = bit_below k b next.upto past ge in
          let ck : Canon k t = rw inner (ge, order.1, order.2, order.3) in
          let nd : add_from care value w k t ≡ mk_t p.bit (add_from care value w p.bl (tree s p.al)) (add_from care value w p.bh (tree s p.ah)) = rw (low_is, high_is, q) (from_bit care value w small f.level k t ck next lt p.bl p.bh e.1) in
          ⊎_elim
          (λ o.
          let nl : Following care (suc p.bit) p.bl = rw (q, ← add-one k) o.1.0 in
          frame (omega (arith, q, next.from)) (omega (arith, q, lt)) (omega (arith, q, ge)) nd (inr nl) (inl o.1.1) (omega (arith, low_le, o.1.0.from, lt)) (omega (arith, high_le, o.1.1, lt)))
          (λ o.
          let nh : Following care (suc p.bit) p.bh = rw (q, ← add-one k) o.1.1 in
          frame (omega (arith, q, next.from)) (omega (arith, q, lt)) (omega (arith, q, ge)) nd (inl o.1.0) (inr nh) (omega (arith, low_le, o.1.0, lt)) (omega (arith, high_le, o.1.1.from, lt)))
          e.1

      pub looked_parted : Parts (adding care value w stamp) s n x k (record { a = x; b = k; part = p; lo = 4294967295 })
      looked_parted = ⊎_elim (λ (e : ltb b k ≡ true). at_root (ltb-true b k e)) (λ (e : ltb b k ≡ false). at_bit (ltb-false b k e)) (test (ltb b k))

-- the two names without a node may stand below any bit
pub flat_canon : (s : Table) (n : ℕ) → Canon n (tree s 0) × Canon n (tree s 1)
unfolding named Canon
flat_canon s n = (tt, tt)

-- an end value that takes the weight is made
module _ (s : Table) (st : Store s) (care value w n x k : ℕ) (f : Addable care w s n x k) (b : ℕ) (e : ending_of s.bit x k ≡ Some b) where
  pub end_room : b + w < 4294967296
  end_room = let q = ends_some s.bit x k b e in omega (arith, q, end_fits s st care value w n x k f q.1.0)

  pub end_made : (s' : Table) (r : Result ℕ Full) → Makes s s' r (mk_t (b + w) (tree s 0) (tree s 1)) → Makes s s' r (add_from care value w k (tree s x))
  end_made s' r m =
      let q = ends_some s.bit x k b e in
      let is : add_from care value w k (tree s x) ≡ mk_t (b + w) (tree s 0) (tree s 1) = rw q.1.1.1 (end_sum s st care value w n x k f q.1.0 q.0 (omega (arith, q))) in
      rw is m

-- a result is put into the memo
pub kept_right : (care value w stamp : ℕ) (memo memo' : List ℕ) (g : Waiting) (r : ℕ) → Keeps memo memo' stamp g.a g.b r → Kept (adding care value w stamp) memo memo' g r
kept_right care value w stamp memo memo' g r k =
    record {
      right = λ s n f o lt e q. record {
        small = q.small;
        stamped = stamped_remember blank memo stamp (Added s care value w) memo' g.a g.b r q.stamped (record { a_below = f.below; r_below = lt; means = e }) k;
      };
    }
