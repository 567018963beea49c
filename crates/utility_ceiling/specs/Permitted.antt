-- The states with permitted values, as bits: the bits of each variable number one of its values.
use Rattle.std.specs.Prelude.{ℕ, Bool, true, List, [], ◌∷◌, ltb, take, drop}
use Rattle.planning.specs.Connectives.{◌and◌}
use Rattle.planning.specs.Coding.{width, number}

-- the first w bits number a value below d, and g holds of those behind them
unfoldable pub below : ℕ → ℕ → (List Bool → Bool) → List Bool → Bool
below w d g σ = ltb (number 0 (take w σ)) d and g (drop w σ)

-- the bits of each variable, of these sizes, number a value below its size
unfoldable pub permitted : List ℕ → List Bool → Bool
permitted [] = λ σ. true
permitted (d ∷ ds) = below (width d) d (permitted ds)
