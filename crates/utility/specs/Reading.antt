-- What a name of the utility diagram stands for, and how a name of a set and one of the diagram are parted.
use Rattle.std.specs.Prelude.{ℕ, ◌+◌, ◌-◌, ◌<◌, ◌≡◌, cond, List, [], ltb, length, get_or, Option, Some, None}
use Rattle.diagrams.specs.Tree.{Canon}
use Rattle.diagrams.specs.Store.{Table, table, tree}
use Rattle.diagrams.specs.declared.Split.{Split}
use Rattle.diagrams.specs.declared.NodeView.{NodeView}

-- node lists that are only read, with this many entries in use
abbrev pub nodes : List ℕ → List ℕ → List ℕ → ℕ → Table
nodes bit low high count = table bit low high [] [] count

-- the lists are of one length
pub record SameLengths (n : NodeView) : Type 0 where
  pub low_length : length n.low.now ≡ length n.bit.now
  pub high_length : length n.high.now ≡ length n.bit.now

-- the end value that the name stands for, if it stands for one; the names 0 and 1 count as the value 0
abbrev pub end_of : List ℕ → ℕ → Option ℕ
end_of ubit u =
    let c = get_or ubit (u - 2) 0 in
    cond (ltb u 2) (Some 0) (cond (ltb c 64) None (Some (c - 64)))

-- the names a, of a set, and u, of the diagram, parted at the lesser of their bits
abbrev pub pair_of : List ℕ → List ℕ → List ℕ → List ℕ → List ℕ → List ℕ → ℕ → ℕ → Split
pair_of bit low high ubit ulow uhigh a u =
    let b = get_or bit (a - 2) 0 in
    let l = get_or low (a - 2) 0 in
    let h = get_or high (a - 2) 0 in
    let c = get_or ubit (u - 2) 0 in
    let m = get_or ulow (u - 2) 0 in
    let k = get_or uhigh (u - 2) 0 in
    cond (ltb a 2) (record { bit = c; al = a; ah = a; bl = m; bh = k })
    (cond (ltb b c) (record { bit = b; al = l; ah = h; bl = u; bh = u })
    (cond (ltb c b) (record { bit = c; al = a; ah = a; bl = m; bh = k }) (record { bit = b; al = l; ah = h; bl = m; bh = k })))

-- a name of a set and one of the diagram, whose bits are n or more
pub record Names (s x : Table) (n a d : ℕ) : Type 0 where
  pub a_below : a < s.count + 2
  pub d_below : d < x.count + 2
  pub a_from : Canon n (tree s a)
  pub d_from : Canon n (tree x d)
