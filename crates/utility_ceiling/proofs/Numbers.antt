-- Bits and the numbers that they are, high bit first. Assumes nothing.
use Prim.Native.Nat.{ℕ, suc, ◌+◌, ◌*◌, ◌/◌, ◌%◌, ◌^◌, ◌<◌}
use mathlib.Core.Path.{◌≡◌, sym, ap, ◌∙◌}
use mathlib.Core.Bool.{Bool, true, false}
use mathlib.Core.List.{List, [], ◌∷◌, ◌++◌, append-nil}
use native.Mathlib.Omega.{arith, pow_step}
use native.Mathlib.Nat.{mul_assoc, mul_comm, add-mul}
use lib.ListN.{length}
use Rattle.planning.specs.Connectives.{pick}
use Rattle.planning.specs.Coding.{bin, number}
use Rattle.planning.proofs.Words.{bit_le, bit_eqb}

-- the bits before weigh 2 to the number of those behind
number_after : (x : ℕ) (τ : List Bool) → number x τ ≡ x * 2 ^ length τ + number 0 τ
unfolding number
number_after x [] = omega arith
number_after x (b ∷ τ) =
    let p : 2 ^ length (b ∷ τ) ≡ 2 * 2 ^ length τ = pow_step 2 (length τ) in
    let e : 2 * 0 + pick b 1 0 ≡ pick b 1 0 = omega arith in
    let f : (2 * x + pick b 1 0) * 2 ^ length τ ≡ 2 * x * 2 ^ length τ + pick b 1 0 * 2 ^ length τ = add-mul (2 * x) (pick b 1 0) (2 ^ length τ) in
    let g : x * (2 * 2 ^ length τ) ≡ 2 * x * 2 ^ length τ = sym (mul_assoc x 2 (2 ^ length τ)) ∙ ap (λ z. z * 2 ^ length τ) (mul_comm x 2) in
    rw (e, p) (omega (arith, number_after (2 * x + pick b 1 0) τ, number_after (pick b 1 0) τ, f, g))

-- a first bit that is 1 is worth 2 to the number of the others
pub number_one : (τ : List Bool) → number 1 τ ≡ 2 ^ length τ + number 0 τ
number_one τ = omega (arith, number_after 1 τ)

pub number_small : (τ : List Bool) → number 0 τ < 2 ^ length τ
unfolding number pick
number_small [] = omega arith
number_small (false ∷ τ) = let p : 2 ^ length (false ∷ τ) ≡ 2 * 2 ^ length τ = pow_step 2 (length τ) in omega (arith, number_small τ)
number_small (true ∷ τ) = let p : 2 ^ length (true ∷ τ) ≡ 2 * 2 ^ length τ = pow_step 2 (length τ) in omega (arith, number_small τ, number_one τ)

-- the bits of the number that they are
bin_more : (x v : ℕ) (τ others : List Bool) → bin (length τ + v) (number x τ) others ≡ bin v x (τ ++ others)
unfolding bin number
bin_more x v [] others = let e : length {A = Bool} [] + v ≡ v = omega arith in rw e
bin_more x v (b ∷ τ) others =
    let e : length (b ∷ τ) + v ≡ length τ + suc v = omega arith in
    let h : (2 * x + pick b 1 0) / 2 ≡ x = omega (arith, bit_le b) in
    let l : (2 * x + pick b 1 0) % 2 ≡ pick b 1 0 = omega (arith, bit_le b) in
    rw e (bin_more (2 * x + pick b 1 0) (suc v) τ others ∙ rw (h, l, bit_eqb b))

pub bin_number : (w : ℕ) (τ : List Bool) → length τ ≡ w → bin w (number 0 τ) [] ≡ τ
unfolding bin
bin_number w τ e =
    let f : length τ + 0 ≡ w = omega arith in
    (rw f at (bin_more 0 0 τ [])) ∙ append-nil τ
