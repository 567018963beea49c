-- The walk for the greatest value: down to the low sides until a number is known, then up as long as it is the high side's. What each turn keeps. Assumes nothing.
use Prim.Native.Nat.{ℕ, ◌+◌, ◌≤◌, ◌<◌, max}
use mathlib.Core.Path.{◌≡◌, refl, sym, ◌∙◌}
use mathlib.Core.Bool.{true, false}
use mathlib.Core.List.{List, [], ◌∷◌}
use native.Mathlib.Omega.{arith}
use lib.ListN.{length}
use borrow.Author.Tests.{eq-eqb, ne_eqb}
use Rattle.diagrams.specs.Memo.{Keeps}
use Rattle.diagrams.proofs.Trees.{no_both}
use Rattle.diagrams.proofs.Memos.{stamped_remember, keeps_size}
use Rattle.diagram_loops.specs.declared.Waiting.{Waiting}
use Rattle.diagram_loops.specs.Walks.{awaited, with_low, costs}
use Rattle.diagram_loops.specs.Stacks.{rest, turned}
use Rattle.diagram_loops.proofs.Walks.{cost_some, cost_both}
use Rattle.utility.specs.Reading.{Names}
use Rattle.utility_greatest.specs.Greatest.{MostOf}
use Rattle.utility_greatest.specs.Walking.{above, up_left, down_left, sets, values, number, Ready, Parts, Waiter, Waits, Down, Sinking, Rising, Reaches, Turns}
use Rattle.utility_greatest.specs.declared.Walk.{Walk}
use Rattle.utility_greatest.proofs.Looking.{small}

-- what the way down keeps
pub record Sunk (w : Walk) (fs fs' : List Waiting) (a a' d d' : ℕ) : Type 0 where
  pub down : (u : ℕ) → Down w u fs a d → Down w u fs' a' d'
  pub falls : down_left fs' a' d' ≤ down_left fs a d

-- what the way up keeps
pub record Risen (w : Walk) (fs fs' : List Waiting) (r r' : ℕ) : Type 0 where
  pub up : (u : ℕ) → Waits w u fs r → Waits w u fs' r'
  pub falls : up_left fs' ≤ up_left fs

pub sunk_same : (w : Walk) (fs : List Waiting) (a d : ℕ) → Sunk w fs fs a a d d
sunk_same w fs a d = record { down = λ u k. k; falls = omega arith }

pub risen_same : (w : Walk) (fs : List Waiting) (r : ℕ) → Risen w fs fs r r
risen_same w fs r = record { up = λ u k. k; falls = omega arith }

module _ (w : Walk) where
  waits_depth : (u : ℕ) (fs : List Waiting) (v : ℕ) → Waits w u fs v → length fs ≤ above fs
  unfolding Waits above
  waits_depth u [] v h = omega arith
  waits_depth u (f ∷ fs) v h = omega (arith, waits_depth u fs (number w f.a f.b) h.1, h.0.rises)

  -- there are no more frames than bits
  pub waits_deep : (u : ℕ) (fs : List Waiting) (v : ℕ) → Waits w u fs v → length fs ≤ 64
  unfolding Waits above
  waits_deep u [] v h = omega arith
  waits_deep u (f ∷ fs) v h = omega (arith, waits_depth u fs (number w f.a f.b) h.1, h.0.rises, h.0.upto)

  pub down_start : (a d : ℕ) → Names (sets w) (values w) 0 a d → Down w (number w a d) [] a d
  unfolding above Waits
  down_start a d f = record { waits = refl; names = f }

  -- the first number of what waits
  pub up_done : (u r : ℕ) → Waits w u [] r → r ≡ u
  unfolding Waits
  up_done u r h = h

  module _ (u : ℕ) (fs : List Waiting) (a d : ℕ) (k : Down w u fs a d) (f : Waiting) (p : Parts w (above fs) a d f) where
    pub down_room : length fs < 64
    down_room = omega (arith, waits_depth u fs (number w a d) k.waits, p.from, p.upto)

    -- down to the low side
    pub down_push : Down w u (f ∷ fs) f.part.al f.part.bl
    unfolding above Waits
    down_push =
        let e : awaited f ≡ true = eq-eqb f.lo 4294967295 p.awaits in
        let v : Waiter w (above fs) f (number w f.part.al f.part.bl) =
        record { rises = p.from; upto = p.upto; names = rw (p.a_is, p.d_is) k.names; high_names = p.high_names; first = λ _. rw (p.a_is, p.d_is) p.joins; second = λ n. absurd (no_both e n) } in
        record { waits = (v, rw (p.a_is, p.d_is) k.waits); names = p.low_names }

    pub less_push : down_left (f ∷ fs) f.part.al f.part.bl < down_left fs a d
    unfolding costs
    less_push =
        let e : awaited f ≡ true = eq-eqb f.lo 4294967295 p.awaits in
        rw e (omega (arith, cost_both (f.part.al + f.part.bl) (f.part.ah + f.part.bh) (a + d) p.low_less p.high_less))

  module _ (u : ℕ) (f : Waiting) (fs : List Waiting) (r : ℕ) (k : Waits w u (f ∷ fs) r) where
    waiter : Waiter w (above fs) f r
    unfolding Waits
    waiter = k.0

    module _ (e : awaited f ≡ true) (memo : List ℕ) (q : Ready w memo) where
      no_none : awaited (with_low f r) ≡ false
      no_none =
          let v = waiter in
          ne_eqb r 4294967295 (λ z. omega (arith, v.first e, small (sets w) (values w) q.set_store q.value_store q.narrow.at f.a f.b v.names.a_below v.names.d_below))

      -- from the low side to the high side
      pub up_turn : Down w u (with_low f r ∷ fs) f.part.ah f.part.bh
      unfolding above Waits
      up_turn =
          let v = waiter in
          let g : Waiter w (above fs) (with_low f r) (number w f.part.ah f.part.bh) = record { rises = v.rises; upto = v.upto; names = v.names; high_names = v.high_names; first = λ z. absurd (no_both z no_none); second = λ _. v.first e } in
          record { waits = (g, k.1); names = v.high_names }

      pub less_turn : down_left (with_low f r ∷ fs) f.part.ah f.part.bh < up_left (f ∷ fs)
      unfolding costs
      less_turn = rw (e, no_none) (omega arith)

    module _ (e : awaited f ≡ false) where
      -- both sides are there: the larger is the frame's number
      pub up_number : (r' : ℕ) → r' ≡ max f.lo r → MostOf (sets w) (values w) f.a f.b r'
      up_number r' is = record { below = waiter.names.a_below; is = is ∙ waiter.second e }

      pub up_larger : (r' : ℕ) → r' ≡ max f.lo r → Waits w u fs r'
      unfolding Waits
      up_larger r' is = rw (up_number r' is).is k.1

      pub less_larger : up_left fs < up_left (f ∷ fs)
      unfolding costs
      less_larger = rw e (omega arith)

-- a number is put into the memo
pub kept_ready : (w : Walk) (memo memo' : List ℕ) (a d r : ℕ) → MostOf (sets w) (values w) a d r → Keeps memo memo' w.stamp a d r → Ready w memo → Ready w memo'
kept_ready w memo memo' a d r m kp q =
    record {
      set_store = q.set_store;
      value_store = q.value_store;
      narrow = q.narrow;
      right = stamped_remember (sets w) memo w.stamp (MostOf (sets w) (values w)) memo' a d r q.right m kp;
      size = q.size ∙ sym (keeps_size memo memo' w.stamp a d r kp);
    }

module _ {w : Walk} {fs fs₁ : List Waiting} {a x d y : ℕ} (k : Sunk w fs fs₁ a x d y) where
  pub sunk_known : (r : ℕ) → r ≡ number w x y → Reaches w fs fs₁ a d r
  sunk_known r e = record { up = λ u g. rw e (k.down u g).waits; falls = omega (arith, k.falls, cost_some (x + y)) }

  module _ (g : Sinking w fs a d) where
    pub sunk_names : Names (sets w) (values w) (above fs₁) x y
    sunk_names = (k.down g.goal g.down).names

    module _ (f : Waiting) (p : (n : ℕ) → Names (sets w) (values w) n x y → Parts w n x y f) where
      parts : Parts w (above fs₁) x y f
      parts = p (above fs₁) sunk_names

      pub sunk_room : length fs₁ < 64
      sunk_room = down_room w g.goal fs₁ x y (k.down g.goal g.down) f parts

      pub sunk_less : (fs' : List Waiting) → fs' ≡ f ∷ fs₁ → down_left fs' f.part.al f.part.bl < down_left fs₁ x y
      sunk_less fs' q = rw q (less_push w g.goal fs₁ x y (k.down g.goal g.down) f parts)

      pub sunk_push : (fs' : List Waiting) → fs' ≡ f ∷ fs₁ → Sunk w fs fs' a f.part.al d f.part.bl
      sunk_push fs' q = record { down = λ u h. rw q (down_push w u fs₁ x y (k.down u h) f parts); falls = omega (arith, sunk_less fs' q, k.falls) }

module _ {w : Walk} {fs fs₁ : List Waiting} {a r : ℕ} (k : Risen w fs fs₁ a r) (g : Rising w fs a) where
  pub risen_deep : length fs₁ ≤ 64
  risen_deep = waits_deep w g.goal fs₁ r (k.up g.goal g.up)

  pub risen_end : fs₁ ≡ [] → (u : ℕ) → Waits w u fs a → r ≡ u
  risen_end e u h = up_done w u r (rw e at (k.up u h))

  module _ (f : Waiting) (vs : List Waiting) (e : fs₁ ≡ f ∷ vs) where
    pub risen_turn : awaited f ≡ true → (memo : List ℕ) → Ready w memo → (fs' : List Waiting) → fs' ≡ turned fs₁ r → Turns w fs fs' a f.part.ah f.part.bh
    risen_turn z memo q fs' t =
        let t' : fs' ≡ turned (f ∷ vs) r = rw e at t in
        record {
          down = λ u h. rw t' (up_turn w u f vs r (rw e at (k.up u h)) z memo q);
          falls = rw t' (omega (arith, less_turn w g.goal f vs r (rw e at (k.up g.goal g.up)) z memo q, rw e at k.falls));
        }

    module _ (z : awaited f ≡ false) where
      pub risen_number : (r' : ℕ) → r' ≡ max f.lo r → MostOf (sets w) (values w) f.a f.b r'
      risen_number r' is = up_number w g.goal f vs r (rw e at (k.up g.goal g.up)) z r' is

      pub risen_less : (fs' : List Waiting) → fs' ≡ rest fs₁ → up_left fs' < up_left fs₁
      risen_less fs' t = rw (t, e) (less_larger w g.goal f vs r (rw e at (k.up g.goal g.up)) z)

      pub risen_larger : (r' : ℕ) → r' ≡ max f.lo r → (fs' : List Waiting) → fs' ≡ rest fs₁ → Risen w fs fs' a r'
      risen_larger r' is fs' t =
          let t' : fs' ≡ vs = rw e at t in
          record { up = λ u h. rw t' (up_larger w u f vs r (rw e at (k.up u h)) z r' is); falls = omega (arith, risen_less fs' t, k.falls) }
