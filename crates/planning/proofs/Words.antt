-- Lists of bits as numbers, in which bit k is worth 2 ^ k.
use Prim.Native.Nat.{ℕ, zero, suc, ◌+◌, ◌*◌, ◌/◌, ◌%◌, ◌^◌, ◌≤◌, ◌<◌}
use mathlib.Core.Path.{◌≡◌, refl, sym, ap, ◌∙◌}
use mathlib.Core.Bool.{Bool, true, false}
use mathlib.Core.List.{List, [], ◌∷◌, ◌++◌}
use native.Mathlib.Nat.{mul_assoc, zero-div, div-one}
use native.Mathlib.Omega.{arith, pow_step}
use lib.Pow.{shr-shr}
use lib.Dec.{eqb}
use lib.ListN.{length, get_or}
use Rattle.planning.specs.Connectives.{pick}
use Rattle.planning.specs.Coding.{word}

-- ---- bits of numbers

pub shr_suc : (x k : ℕ) → x / 2 ^ suc k ≡ x / 2 / 2 ^ k
shr_suc x k = let e : suc k ≡ 1 + k = omega arith in rw e (sym (shr-shr x 1 k))

-- the lowest bit
pub bit_zero : (x : ℕ) → x / 2 ^ 0 % 2 ≡ x % 2
bit_zero x = ap (λ z. z % 2) (div-one x)

zero_bit : (k : ℕ) → 0 / 2 ^ k % 2 ≡ 0
zero_bit k = ap (λ z. z % 2) (zero-div (2 ^ k))

pub bit_le : (b : Bool) → pick b 1 0 ≤ 1
unfolding pick
bit_le true = omega arith
bit_le false = omega arith

pub bit_eqb : (b : Bool) → eqb (pick b 1 0) 1 ≡ b
unfolding pick
bit_eqb true = refl
bit_eqb false = refl

-- ---- lists of bits

pub word_lt : (σ : List Bool) → word σ < 2 ^ length σ
unfolding word
word_lt [] = omega arith
word_lt (b ∷ σ) = let e : 2 ^ length (b ∷ σ) ≡ 2 * 2 ^ length σ = pow_step 2 (length σ) in omega (arith, word_lt σ, bit_le b)

pub word_bit : (σ : List Bool) (k : ℕ) → word σ / 2 ^ k % 2 ≡ pick (get_or σ k false) 1 0
unfolding word pick
word_bit [] k = zero_bit k
word_bit (b ∷ σ) zero = bit_zero (pick b 1 0 + 2 * word σ) ∙ omega (arith, bit_le b)
word_bit (b ∷ σ) (suc k) =
    let e : (pick b 1 0 + 2 * word σ) / 2 ≡ word σ = omega (arith, bit_le b) in
    rw (shr_suc (pick b 1 0 + 2 * word σ) k, e) (word_bit σ k)

pub word_append : (σ τ : List Bool) → word (σ ++ τ) ≡ word σ + 2 ^ length σ * word τ
unfolding word
word_append [] τ = omega arith
word_append (b ∷ σ) τ =
    let e : 2 ^ length (b ∷ σ) * word τ ≡ 2 * (2 ^ length σ * word τ) = ap (λ z. z * word τ) (pow_step 2 (length σ)) ∙ mul_assoc 2 (2 ^ length σ) (word τ) in
    omega (arith, word_append σ τ)
