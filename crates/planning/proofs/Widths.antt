-- `width d` is the fewest bits that number d values, for every count of values by one argument.
use Prim.Native.Nat.{ℕ, zero, suc, ◌+◌, ◌^◌, ◌≤◌, ◌<◌}
use mathlib.Core.Path.{◌≡◌, refl}
use mathlib.Core.Bool.{Bool, true, false}
use native.Mathlib.Omega.{arith}
use native.Mathlib.Decide.{ℕ_discrete}
use lib.Dec.{leb}
use borrow.Author.Tests.{leb-true, leb-false}
use Rattle.planning.specs.Connectives.{pick}
use Rattle.planning.specs.Coding.{wide, width}

lt_pow : (n : ℕ) → n < 2 ^ n
lt_pow zero = omega arith
lt_pow (suc n) = omega (arith, lt_pow n)

wide_fits : (f w d : ℕ) → d ≤ 2 ^ (f + w) → d ≤ 2 ^ wide f w d
unfolding wide pick
wide_fits zero w d h = let e : 0 + w ≡ w = omega arith in rw e at h
wide_fits (suc f) w d h = by (leb d (2 ^ w)) refl (wide_fits f (suc w) d (let x : suc f + w ≡ f + suc w = omega arith in rw x at h))
  where
    by : (v : Bool) → leb d (2 ^ w) ≡ v → d ≤ 2 ^ wide f (suc w) d → d ≤ 2 ^ pick v w (wide f (suc w) d)
    by true e rec = leb-true d (2 ^ w) e
    by false e rec = rec

-- its bits number all values
pub width_fits : (d : ℕ) → d ≤ 2 ^ width d
unfolding width
width_fits d = wide_fits d 0 d (let e : d + 0 ≡ d = omega arith in rw e (omega (arith, lt_pow d)))

wide_least : (f w d k : ℕ) → w ≤ k → d ≤ 2 ^ k → wide f w d ≤ k
unfolding wide pick
wide_least zero w d k le h = le
wide_least (suc f) w d k le h = by (leb d (2 ^ w)) refl (λ x. wide_least f (suc w) d k x h)
  where
    by : (v : Bool) → leb d (2 ^ w) ≡ v → (suc w ≤ k → wide f (suc w) d ≤ k) → pick v w (wide f (suc w) d) ≤ k
    by true e rec = le
    by false e rec = rec (go (ℕ_discrete w k))
      where
        go : Dec (w ≡ k) → suc w ≤ k
        go (yes x) = absurd (omega (arith, leb-false d (2 ^ w) e, rw (← x) at h))
        go (no x) = omega arith

-- no number of bits below it will do
pub width_least : (d k : ℕ) → d ≤ 2 ^ k → width d ≤ k
unfolding width
width_least d k h = wide_least d 0 d k (omega arith) h
