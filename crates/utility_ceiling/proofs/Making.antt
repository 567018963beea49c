-- The bits of a variable, from its last up: what stands for the bound so far, and after all of them for the permitted values. Assumes nothing.
use Prim.Native.Nat.{ℕ, zero, suc, ◌+◌, ◌-◌, ◌*◌, ◌/◌, ◌%◌, ◌^◌, ◌≤◌, ◌<◌}
use mathlib.Core.Path.{◌≡◌, refl, sym, ap, subst, ◌∙◌}
use mathlib.Core.Bool.{Bool, true, false, true≢false}
use mathlib.Core.Logic.{⊎_elim}
use mathlib.Core.List.{List, [], ◌∷◌}
use native.Mathlib.Omega.{arith, pow_step}
use native.Mathlib.Nat.{mul_assoc, mul_comm, add-mul, suc-mul}
use lib.Dec.{eqb}
use lib.ListN.{length, get_or, drop, length-append}
use lib.Seq.{drop-cons, drop-length}
use borrow.Author.Tests.{le-ltb, eqb-true, eqb-false}
use Rattle.planning.specs.Coding.{width, bits, offset}
use Rattle.planning.proofs.Facts.{offset_suc, offset_all}
use Rattle.planning.proofs.Widths.{width_fits}
use Rattle.diagrams.specs.Tree.{Tree, none, node, named, same, has, mk_t, end_t, diagram, grow, Canon}
use Rattle.diagrams.specs.Store.{Table, entries, tree, Store, Makes}
use Rattle.std.specs.Prelude.{Result, Ok, Err, is_err, IsOk}
use Rattle.diagrams.specs.declared.Full.{Full}
use Rattle.diagrams.proofs.Trees.{Inside, test, same_true, same_refl, no_both, mk_t_same, mk_t_node, insert_old, insert_new, grow_inside}
use Rattle.diagrams.proofs.Entries.{entries_length, entries_inside}
use Rattle.diagrams.proofs.Steps.{done_count, done_tree}
use Rattle.diagrams.proofs.Canonical.{canon_weaken}
use Rattle.diagrams.proofs.Diagrams.{canon_set}
use Rattle.diagrams.proofs.Unders.{under_mk_t, under_done, under_none}
use Rattle.utility_ceiling.specs.Permitted.{below, permitted}
use Rattle.utility_ceiling.specs.Sets.{Filled, Stands, Behind, bound_t, Adds, From}
use Rattle.utility_ceiling.proofs.Bounds.{bound_one, bound_zero, bound_none}

-- ---- one node more
ok_of : (r : Result ℕ Full) → is_err r ≡ false → IsOk r
ok_of (Ok x) e = refl
ok_of (Err x) e = absurd (true≢false e)

module _ (ts : List Tree) (b : ℕ) (l h : Tree) (il : Inside ts l) (ih : Inside ts h) where
  -- a node over two trees that are there is at most one entry more
  node_length : length (grow ts (mk_t b l h)) ≤ suc (length ts)
  unfolding grow
  node_length =
      ⊎_elim
      (λ (e : same l h ≡ true). rw (mk_t_same b l h (same_true l h e), grow_inside ts l il) (omega arith))
      (λ (e : same l h ≡ false).
      rw (mk_t_node b l h (λ q. no_both (subst (λ (u : Tree). same l u ≡ true) q (same_refl l)) e), grow_inside ts l il, grow_inside ts h ih)
      (⊎_elim
      (λ (x : has ts (node b l h) ≡ true). rw (insert_old ts (node b l h) x) (omega arith))
      (λ (x : has ts (node b l h) ≡ false). rw (insert_new ts (node b l h) x) (omega (arith, length-append ts (node b l h ∷ []))))
      (test (has ts (node b l h)))))
      (test (same l h))

module _ (s s' : Table) (b l h : ℕ) (f : Filled s (suc b)) (lb : l < s.count + 2) (hb : h < s.count + 2) where
  abbrev made : Tree
  made = mk_t b (tree s l) (tree s h)

  few : length (grow (entries s) made) ≤ suc s.count
  few =
      let st = f.store in
      omega (arith, node_length (entries s) b (tree s l) (tree s h) (entries_inside s st l lb) (entries_inside s st h hb), entries_length s st)

  -- the lists have room for it
  pub node_fits : (r : Result ℕ Full) → Makes s s' r (mk_t b (tree s l) (tree s h)) → IsOk r
  node_fits r m =
      let room : s.count + suc b ≤ 48 = f.room in
      ok_of r (m.full ∙ le-ltb (length s.bit) (length (grow (entries s) made)) (omega (arith, few, f.long)))

  pub adds_node : (name : ℕ) → Makes s s' (Ok name) (mk_t b (tree s l) (tree s h)) → length s'.bit ≡ length s.bit → Adds s s' name b (mk_t b (tree s l) (tree s h))
  adds_node name m len =
      let room : s.count + suc b ≤ 48 = f.room in
      let d = m.done refl in
      let count : s'.count ≡ length (grow (entries s) made) = sym (entries_length s' d.store) ∙ ap length d.grown in
      record {
        filled = record {
          store = d.store;
          long = len ∙ f.long;
          room = omega (arith, few);
          states = under_done 64 s s' name made d f.states (under_mk_t 64 b (tree s l) (tree s h) (omega arith) (f.states l) (f.states h));
        };
        done = d;
      }

-- both ways to put a bit in front
pub adds_one : (s s' : Table) (name b next tight : ℕ) (one : Bool) → one ≡ true → Behind s b next tight → Makes s s' (Ok name) (mk_t b (tree s next) (tree s tight)) → length s'.bit ≡ length s.bit → Adds s s' name b (bound_t one b (tree s next) (tree s tight))
unfolding bound_t
adds_one s s' name b next tight one e p m len = rw e (adds_node s s' b next tight p.filled p.next_within p.tight_within name m len)

pub adds_zero : (s s' : Table) (name b next tight : ℕ) (one : Bool) → one ≡ false → Behind s b next tight → Makes s s' (Ok name) (mk_t b (tree s tight) (tree s 0)) → length s'.bit ≡ length s.bit → Adds s s' name b (bound_t one b (tree s next) (tree s tight))
unfolding bound_t named
adds_zero s s' name b next tight one e p m len = rw e (adds_node s s' b tight 0 p.filled p.tight_within (omega arith) name m len)

-- ---- names keep what they stand for
module _ (s s' : Table) (name b : ℕ) (t : Tree) (st : Store s) (a : Adds s s' name b t) where
  kept : (m n k : ℕ) (g : List Bool → Bool) → Stands s m n k g → Stands s' m n k g
  kept m n k g x = record {
    within = omega (arith, x.within, done_count s s' st name t a.done);
    means = done_tree s s' st name t a.done m x.within ∙ x.means;
  }

-- ---- the bits of a variable: x is its greatest value, `rest` what is left of it; `taken` bits are done, whose part of x is `part`
pub record Bounding (s : Table) (n : ℕ) (g : List Bool → Bool) (next at w x rest left tight : ℕ) : Type 0 where
  pub taken : ℕ
  pub part : ℕ
  pub bits_are : taken + left ≡ w
  pub value : rest * 2 ^ taken + part ≡ x
  pub less : part < 2 ^ taken
  pub filled : Filled s (at + left)
  pub next_is : Stands s next n (at + w) g
  pub tight_is : Stands s tight (taken + n) (at + left) (below taken (suc part) g)

pub bounding_none : (s : Table) (n : ℕ) (g : List Bool → Bool) (next at w x : ℕ) → Filled s (at + w) → Stands s next n (at + w) g → Bounding s n g next at w x x w next
bounding_none s n g next at w x f b = record {
  taken = 0;
  part = 0;
  bits_are = omega arith;
  value = omega arith;
  less = omega arith;
  filled = f;
  next_is = b;
  tight_is = record { within = b.within; means = b.means ∙ bound_none n (at + w) g };
}

-- the value of the bits that are done, with one more of them
value_one : (rest p p' part x : ℕ) → p' ≡ 2 * p → rest % 2 ≡ 1 → rest * p + part ≡ x → rest / 2 * p' + (p + part) ≡ x
value_one rest p p' part x e o h =
    let q = rest / 2 in
    let r : rest ≡ 2 * q + 1 = omega arith in
    let f : (2 * q + 1) * p ≡ 2 * q * p + 1 * p = add-mul (2 * q) 1 p in
    let k : q * (2 * p) ≡ 2 * q * p = sym (mul_assoc q 2 p) ∙ ap (λ z. z * p) (mul_comm q 2) in
    let i : rest * p ≡ (2 * q + 1) * p = ap (λ z. z * p) r in
    rw e (omega (arith, f, k, i))

value_zero : (rest p p' part x : ℕ) → p' ≡ 2 * p → (rest % 2 ≡ 1 → ⊥) → rest * p + part ≡ x → rest / 2 * p' + part ≡ x
value_zero rest p p' part x e o h =
    let q = rest / 2 in
    let r : rest ≡ 2 * q = omega arith in
    let k : q * (2 * p) ≡ 2 * q * p = sym (mul_assoc q 2 p) ∙ ap (λ z. z * p) (mul_comm q 2) in
    let i : rest * p ≡ 2 * q * p = ap (λ z. z * p) r in
    rw e (omega (arith, k, i))

-- the whole value is in the bits that are done
whole : (rest p part x : ℕ) → rest * p + part ≡ x → x < p → part ≡ x
whole zero p part x e lt = omega arith
whole (suc r) p part x e lt = let f : suc r * p ≡ r * p + p = suc-mul r p in absurd (omega (arith, f))

module _ (s : Table) (n : ℕ) (g : List Bool → Bool) (next at w x rest left tight : ℕ) (𝓑 : Bounding s n g next at w x rest left tight) where
  pub bounding_behind : 0 < left → Behind s (at + (left - 1)) next tight
  bounding_behind lt =
      let e : suc (at + (left - 1)) ≡ at + left = omega arith in
      let a : Canon (at + left) (tree s next) = rw 𝓑.next_is.means (canon_weaken (at + left) (at + w) _ (omega (arith, 𝓑.bits_are)) (canon_set n (at + w) g)) in
      let b : Canon (at + left) (tree s tight) = rw 𝓑.tight_is.means (canon_set (𝓑.taken + n) (at + left) (below 𝓑.taken (suc 𝓑.part) g)) in
      record {
        filled = rw e 𝓑.filled;
        next_within = 𝓑.next_is.within;
        tight_within = 𝓑.tight_is.within;
        next_from = rw e a;
        tight_from = rw e b;
      }

  pub bounding_room : at + left ≤ 48
  bounding_room = omega (arith, 𝓑.filled.room)

  module _ (lt : 0 < left) (s' : Table) (name : ℕ) where
    abbrev b : ℕ
    b = at + (left - 1)

    abbrev i : ℕ
    i = 𝓑.taken

    abbrev p : ℕ
    p = 𝓑.part

    same_bit : i + suc b ≡ at + w
    same_bit = omega (arith, 𝓑.bits_are)

    next_tree : tree s next ≡ diagram end_t n (i + suc b) g
    next_tree = rw same_bit 𝓑.next_is.means

    tight_tree : tree s tight ≡ diagram end_t (i + n) (suc b) (below i (suc p) g)
    tight_tree = let e : suc b ≡ at + left = omega arith in rw e 𝓑.tight_is.means

    step_one : rest % 2 ≡ 1 → Adds s s' name (at + (left - 1)) (mk_t (at + (left - 1)) (tree s next) (tree s tight)) → Bounding s' n g next at w x (rest / 2) (left - 1) name
    step_one o a =
        let pow : 2 ^ suc i ≡ 2 * 2 ^ i = pow_step 2 i in
        let e : 2 ^ i + suc p ≡ suc (2 ^ i + p) = omega arith in
        record {
          taken = suc i;
          part = 2 ^ i + p;
          bits_are = omega (arith, 𝓑.bits_are);
          value = value_one rest (2 ^ i) (2 ^ suc i) p x pow o 𝓑.value;
          less = omega (arith, 𝓑.less);
          filled = a.filled;
          next_is = kept s s' name b _ 𝓑.filled.store a next n (at + w) g 𝓑.next_is;
          tight_is = record {
            within = a.done.within;
            means = a.done.means ∙ rw (next_tree, tight_tree, ← e) (bound_one i n b g (suc p));
          };
        }

    step_zero : (rest % 2 ≡ 1 → ⊥) → Adds s s' name (at + (left - 1)) (mk_t (at + (left - 1)) (tree s tight) none) → Bounding s' n g next at w x (rest / 2) (left - 1) name
    step_zero o a =
        let pow : 2 ^ suc i ≡ 2 * 2 ^ i = pow_step 2 i in
        record {
          taken = suc i;
          part = p;
          bits_are = omega (arith, 𝓑.bits_are);
          value = value_zero rest (2 ^ i) (2 ^ suc i) p x pow o 𝓑.value;
          less = omega (arith, 𝓑.less);
          filled = a.filled;
          next_is = kept s s' name b _ 𝓑.filled.store a next n (at + w) g 𝓑.next_is;
          tight_is = record {
            within = a.done.within;
            means = a.done.means ∙ rw tight_tree (bound_zero i n b g (suc p) 𝓑.less);
          };
        }

    pub bounding_more : Adds s s' name (at + (left - 1)) (bound_t (eqb (rest % 2) 1) (at + (left - 1)) (tree s next) (tree s tight)) → Bounding s' n g next at w x (rest / 2) (left - 1) name
    unfolding bound_t
    bounding_more a =
        ⊎_elim
        (λ (e : eqb (rest % 2) 1 ≡ true). step_one (eqb-true (rest % 2) 1 e) (rw e at a))
        (λ (e : eqb (rest % 2) 1 ≡ false). step_zero (eqb-false (rest % 2) 1 e) (rw e at a))
        (test (eqb (rest % 2) 1))

  -- no bit is left
  pub bounding_done : left ≤ 0 → x < 2 ^ w → Filled s at × Stands s tight (w + n) at (below w (suc x) g)
  bounding_done z small =
      let l : at + left ≡ at = omega arith in
      let i : 𝓑.taken ≡ w = omega (arith, 𝓑.bits_are) in
      let v : 𝓑.part ≡ x = whole rest (2 ^ w) 𝓑.part x (rw i at 𝓑.value) small in
      (rw l at 𝓑.filled, record { within = 𝓑.tight_is.within; means = rw (i, l, v) at 𝓑.tight_is.means })

-- ---- the variables, from the last up

-- before all of them
pub from_none : (ds : List ℕ) (s : Table) → Store s → length s.bit ≡ 48 → s.count ≡ 0 → bits ds ≤ 48 → From ds s 1 (length ds)
unfolding permitted bits diagram end_t named
from_none ds s st long clear bound = record {
  filled = record { store = st; long = long; room = omega (arith, offset_all ds); states = under_none 64 s clear };
  stands = record { within = omega arith; means = rw (drop-length ds) refl };
}

-- the next variable to be put in front is the one before, if there is one
pub from_before : (ds : List ℕ) (s : Table) (name v : ℕ) → 0 < v → From ds s name v → From ds s name (suc (v - 1))
from_before ds s name v lt f = let e : suc (v - 1) ≡ v = omega arith in rw e f

pub from_first : (ds : List ℕ) (s : Table) (name v : ℕ) → v ≤ 0 → From ds s name v → From ds s name 0
from_first ds s name v z f = let e : v ≡ 0 = omega arith in rw e at f

module _ (ds : List ℕ) (s : Table) (v at w : ℕ) (lt : v < length ds) (at-is : at ≡ offset ds v) (w-is : w ≡ width (get_or ds v 0)) where
  -- before the bits of variable v
  pub from_begins : (next x : ℕ) → From ds s next (suc v) → Bounding s (bits (drop (suc v) ds)) (permitted (drop (suc v) ds)) next at w x x w next
  from_begins next x f =
      let e : offset ds (suc v) ≡ at + w = offset_suc ds v lt ∙ rw (at-is, w-is) in
      bounding_none s (bits (drop (suc v) ds)) (permitted (drop (suc v) ds)) next at w x (rw e at f.filled) (rw e at f.stands)

  -- after them
  pub from_ends : (next x rest left tight : ℕ) → Bounding s (bits (drop (suc v) ds)) (permitted (drop (suc v) ds)) next at w x rest left tight → left ≤ 0 → suc x ≡ get_or ds v 0 → From ds s tight v
  unfolding bits permitted
  from_ends next x rest left tight 𝓑 z x-is =
      let small : x < 2 ^ w = rw w-is (omega (arith, width_fits (get_or ds v 0))) in
      let d = bounding_done s _ _ next at w x rest left tight 𝓑 z small in
      let means : tree s tight ≡ diagram end_t (w + bits (drop (suc v) ds)) at (below w (suc x) (permitted (drop (suc v) ds))) = d.1.means in
      record {
        filled = rw (← at-is) d.0;
        stands = record { within = d.1.within; means = rw (drop-cons ds v 0 lt, ← at-is, ← w-is, ← x-is) means };
      }
