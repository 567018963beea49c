-- Bytes written one after another. In a loop: what is left to write, from i on, makes the whole.
use Prim.Native.Nat.{ℕ, suc, ◌+◌, ◌-◌, ◌*◌, ◌≤◌, ◌<◌}
use mathlib.Core.Path.{◌≡◌, sym, ap, ◌∙◌}
use mathlib.Core.List.{List}
use native.Mathlib.Omega.{arith}
use native.Mathlib.Nat.{add-zero, sub-zero, sub-eq-zero_of_le}
use native.Mathlib.Numerals.{add-one}
use lib.ListN.{length, get_or, drop, set, drop_of_length-le}
use lib.Seq.{drop-cons}
use Rattle.planning.proofs.Scan.{left}
use Rattle.stand.specs.Bytes.{overlay, put_sizes}

module _ (file₀ bytes : List ℕ) (at : ℕ) where
  abbrev pub Copied : List ℕ → ℕ → Type 0
  Copied file i = overlay file₀ at bytes ≡ overlay file (at + i) (drop i bytes)

  pub copy_none : Copied file₀ 0
  copy_none = rw add-zero

  pub copy_more : (file : List ℕ) (i : ℕ) → i < length bytes → Copied file i → Copied (set file (at + i) (get_or bytes i 0)) (i + 1)
  unfolding overlay
  copy_more file i lt e =
      let k : at + suc i ≡ suc (at + i) = omega arith in
      e ∙ ap (overlay file (at + i)) (drop-cons bytes i 0 lt) ∙ rw (add-one, k)

  pub copy_done : (file : List ℕ) (i : ℕ) → length bytes ≤ i → Copied file i → file ≡ overlay file₀ at bytes
  unfolding overlay
  copy_done file i ge e = sym (e ∙ ap (overlay file (at + i)) (drop_of_length-le bytes ge))

module _ (file₀ : List ℕ) (d n : ℕ) where
  abbrev pub Sized : List ℕ → ℕ → Type 0
  Sized file v = put_sizes file₀ d n 0 ≡ put_sizes file d (n - v) v

  pub sizes_none : Sized file₀ 0
  sizes_none = rw sub-zero

  pub sizes_more : (file : List ℕ) (v : ℕ) → v < n → Sized file v → Sized (set file (28 + 2 * v) d) (v + 1)
  unfolding put_sizes
  sizes_more file v lt e = e ∙ rw (left n v lt, add-one)

  pub sizes_done : (file : List ℕ) (v : ℕ) → n ≤ v → Sized file v → file ≡ put_sizes file₀ d n 0
  unfolding put_sizes
  sizes_done file v ge e = sym (e ∙ ap (λ (m : ℕ). put_sizes file d m v) (sub-eq-zero_of_le ge))
