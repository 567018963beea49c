-- The walk for the greatest value, as a loop goes through a set and the utility diagram: what a look shows, what waits, and what is left to do.
use Rattle.std.specs.Prelude.{ℕ, suc, ◌+◌, ◌≤◌, ◌<◌, max, ◌≡◌, true, false, cond, List, [], ◌∷◌, get_or}
use Rattle.diagrams.specs.Store.{Table, tree, Store, view_table}
use Rattle.diagrams.specs.Memo.{Stamped, size_of}
use Rattle.diagram_loops.specs.declared.Waiting.{Waiting}
use Rattle.diagram_loops.specs.declared.Look.{Look}
use Rattle.diagram_loops.specs.declared.Look.TheVariants.{Known, Parted}
use Rattle.diagram_loops.specs.declared.Turn.{Turn}
use Rattle.diagram_loops.specs.declared.Turn.TheVariants.{Done, High}
use Rattle.diagram_loops.specs.Walks.{awaited, cost, costs}
use Rattle.utility.specs.Within.{most_t}
use Rattle.utility.specs.Reading.{Names}
use Rattle.utility_greatest.specs.Greatest.{MostOf}
use Rattle.utility_greatest.specs.declared.Walk.{Walk}

-- 32-bit numbers
pub record Narrow (list : List ℕ) : Type 0 where
  pub at : (i : ℕ) → get_or list i 0 < 4294967296

-- the bits of what waits are below this
unfoldable pub above : List Waiting → ℕ
above [] = 0
above (f ∷ fs) = suc f.part.bit

-- what is left to do
abbrev pub left : Waiting → ℕ
left f = cond (awaited f) (cost (f.part.ah + f.part.bh) + 2) 1

abbrev pub up_left : List Waiting → ℕ
up_left fs = costs left fs

abbrev pub down_left : List Waiting → ℕ → ℕ → ℕ
down_left fs a d = cost (a + d) + up_left fs

module _ (w : Walk) where
  abbrev pub sets : Table
  sets = view_table w.set

  abbrev pub values : Table
  values = view_table w.utility

  -- both lists are stores, the utility diagram's bits are 32-bit numbers, and the memo, which has these slots, has right numbers
  pub record Ready (memo : List ℕ) : Type 0 where
    pub set_store : Store sets
    pub value_store : Store values
    pub narrow : Narrow values.bit
    pub right : Stamped sets memo w.stamp (MostOf sets values)
    pub size : w.slots.n ≡ size_of memo

  abbrev pub number : ℕ → ℕ → ℕ
  number a d = most_t (tree sets a) (tree values d)

  -- the frame f stands for the pair (a, d), whose number is the larger of those of its sides
  pub record Parts (n a d : ℕ) (f : Waiting) : Type 0 where
    pub a_is : f.a ≡ a
    pub d_is : f.b ≡ d
    pub awaits : f.lo ≡ 4294967295
    pub joins : max (number f.part.al f.part.bl) (number f.part.ah f.part.bh) ≡ number a d
    pub from : n ≤ f.part.bit
    pub upto : f.part.bit < 64
    pub low_names : Names sets values (suc f.part.bit) f.part.al f.part.bl
    pub high_names : Names sets values (suc f.part.bit) f.part.ah f.part.bh
    pub low_less : f.part.al + f.part.bl < a + d
    pub high_less : f.part.ah + f.part.bh < a + d

  -- a look at the pair (a, d) shows its number or how it is parted
  abbrev pub Looked : ℕ → ℕ → Look → Type 0
  Looked a d (Known r) = r ≡ number a d
  Looked a d (Parted f) = (n : ℕ) → Names sets values n a d → Parts n a d f

  -- the frame, whose bit is n or more, waits for the number v of one of its sides: of the low one, or, where that one's number is there, of the high one
  pub record Waiter (n : ℕ) (f : Waiting) (v : ℕ) : Type 0 where
    pub rises : n ≤ f.part.bit
    pub upto : f.part.bit < 64
    pub names : Names sets values n f.a f.b
    pub high_names : Names sets values (suc f.part.bit) f.part.ah f.part.bh
    pub first : awaited f ≡ true → max v (number f.part.ah f.part.bh) ≡ number f.a f.b
    pub second : awaited f ≡ false → max f.lo v ≡ number f.a f.b

  -- the first frame waits for v, the next for the number of the first, and so on; the last has the number u
  unfoldable pub Waits : ℕ → List Waiting → ℕ → Type 0
  Waits u [] v = v ≡ u
  Waits u (f ∷ fs) v = Waiter (above fs) f v × Waits u fs (number f.a f.b)

  -- the walk on its way down, at the pair (a, d)
  pub record Down (u : ℕ) (fs : List Waiting) (a d : ℕ) : Type 0 where
    pub waits : Waits u fs (number a d)
    pub names : Names sets values (above fs) a d

  -- a walk is on its way down
  pub record Sinking (fs : List Waiting) (a d : ℕ) : Type 0 where
    pub goal : ℕ
    pub down : Down goal fs a d

  -- a walk is on its way up, with the number r
  pub record Rising (fs : List Waiting) (r : ℕ) : Type 0 where
    pub goal : ℕ
    pub up : Waits goal fs r

  -- a way down of any walk has come to a number
  pub record Reaches (fs fs' : List Waiting) (a d r : ℕ) : Type 0 where
    pub up : (u : ℕ) → Down u fs a d → Waits u fs' r
    pub falls : up_left fs' < down_left fs a d

  -- a way up of any walk has come to a high side
  pub record Turns (fs fs' : List Waiting) (r a d : ℕ) : Type 0 where
    pub down : (u : ℕ) → Waits u fs r → Down u fs' a d
    pub falls : down_left fs' a d < up_left fs

  -- or to its end
  abbrev pub Turned : List Waiting → List Waiting → ℕ → Turn → Type 0
  Turned fs fs' r (Done v) = (u : ℕ) → Waits u fs r → v ≡ u
  Turned fs fs' r (High a d) = Turns fs fs' r a d
