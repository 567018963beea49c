-- Bytes written into a list, as far as the list goes.
use Rattle.std.specs.Prelude.{ℕ, zero, suc, ◌+◌, ◌*◌, ◌/◌, ◌%◌, List, [], ◌∷◌, set}

-- bytes written from a place on
unfoldable pub overlay : List ℕ → ℕ → List ℕ → List ℕ
overlay file at [] = file
overlay file at (x ∷ xs) = overlay (set file at x) (suc at) xs

-- a number of two bytes, low byte first
abbrev pub put16 : List ℕ → ℕ → ℕ → List ℕ
put16 file at x = set (set file at (x % 256)) (at + 1) (x / 256)

-- the n variables from v on get d values each, from byte 28 on
unfoldable pub put_sizes : List ℕ → ℕ → ℕ → ℕ → List ℕ
put_sizes file d zero v = file
put_sizes file d (suc n) v = put_sizes (set file (28 + 2 * v) d) d n (suc v)
