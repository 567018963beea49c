-- A scan of the numbers below n that a chain over their range runs: `all` tells whether the test holds at each, and `find` of a number at
-- which it fails gives the first.
use Prim.Native.Nat.{ℕ, zero, suc, ◌+◌, ◌≤◌, ◌<◌, zero-le}
use mathlib.Core.Path.{◌≡◌, refl, sym, ap, ◌∙◌}
use mathlib.Core.Bool.{Bool, true, false, true≢false}
use mathlib.Core.List.{List}
use native.Mathlib.Omega.{arith}
use lib.ListN.{length, get_or}
use denote.Ref.{Bor}
use denote.Param.Members.{Mut}
use Rattle.std.specs.Prelude.{Option, Some, None, MatchOption}
use Rattle.std.specs.declared.ops.Range.{Range}
use Rattle.std.specs.Bool.{⊤, MatchBool}
use Rattle.std.specs.Fn.{Called, CalledAt}
use Rattle.std.specs.Iterator.{YieldsThen}
use Rattle.std.specs.List.{FoldsTo, range_with_len, AllWithin, HoldsAt}
use Rattle.std.proofs.iter.Yields.{nat_range_steps}
use Rattle.std.proofs.lemmas.Iterator.{YieldsList-from_range, cases_from_all, first_from_Range}
use Rattle.std.proofs.lemmas.List.FromFn.{length-range_with_len, get_or-range_with_len}
use Rattle.planning.specs.Connectives.{pick}
use Rattle.planning.specs.Scan.{first_bad, every}
use Rattle.planning.proofs.Scan.{every_at, every_all}

-- ---- tests that hold up to the first that fails
module _ (ok : ℕ → Bool) where
  first_is : (m n i : ℕ) → m < n → ((k : ℕ) → i ≤ k → k < i + m → ok k ≡ true) → ok (i + m) ≡ false → first_bad ok n i ≡ i + m
  unfolding first_bad pick
  first_is zero (suc n) i lt h wrong =
      let same : i + 0 ≡ i = omega arith in
      let here : ok i ≡ false = rw same at wrong in
      rw here (omega arith)
  first_is (suc m) (suc n) i lt h wrong =
      let same : i + suc m ≡ suc i + m = omega arith in
      let next : ok (suc i + m) ≡ false = rw same at wrong in
      rw (h i (omega arith) (omega arith), same) (first_is m n (suc i) (omega arith) (λ k from to. h k (omega arith) (omega arith)) next)
  first_is m zero i lt h wrong = absurd (omega arith)

  first_none : (n i : ℕ) → ((k : ℕ) → i ≤ k → k < i + n → ok k ≡ true) → first_bad ok n i ≡ i + n
  unfolding first_bad pick
  first_none zero i h = omega arith
  first_none (suc n) i h =
      let same : i + suc n ≡ suc i + n = omega arith in
      rw (h i (omega arith) (omega arith), same) (first_none n (suc i) (λ k from to. h k (omega arith) (omega arith)))

  every_fails : (n k : ℕ) → k < n → ok k ≡ false → (b : Bool) → every ok n 0 ≡ b → b ≡ false
  every_fails n k lt wrong true e = absurd (true≢false (sym (every_at ok n 0 e k zero-le (omega arith)) ∙ wrong))
  every_fails n k lt wrong false e = refl

-- ---- the chains: what the closure answered tells of the test
module _ {F : Type 0} (ok : ℕ → Bool) (n : ℕ) (u : Range ℕ) (f : F) where
  pub every_ran : {g : Mut F (ℕ × Unit {0}) Bool} (r : Bool) → (xs : List ℕ) × (o : Option ℕ) × (j : F) × YieldsThen nat_range_steps (record { start = 0; end = n }) xs o u × FoldsTo (λ p x q. Called g p (x, tt) true q) f xs j × MatchOption o (r ≡ true) (λ x. (r ≡ false) × ((h : F) × Called g j (x, tt) false h)) → ((x : ℕ) (q : F) → Called g f (x, tt) true q → (q ≡ f) × (ok x ≡ true)) → ((x : ℕ) (q : F) → Called g f (x, tt) false q → ok x ≡ false) → r ≡ every ok n 0
  every_ran r ran right wrong =
      answers r (cases_from_all u f r (λ k. ok k ≡ true) (λ k. ok k ≡ false) ran (YieldsList-from_range 0 n n refl (omega arith)) right wrong)
    where
      all : List ℕ
      all = range_with_len 0 n

      at : (k : ℕ) → k < n → get_or all k 0 ≡ k
      at k lt = get_or-range_with_len 0 n k 0 lt ∙ omega arith

      answers : (b : Bool) → MatchBool b (AllWithin (λ k. ok k ≡ true) all 0 (length all)) ((k : ℕ) × (k < length all) × HoldsAt (λ k. ok k ≡ false) all k) → b ≡ every ok n 0
      answers true h =
          sym (every_all ok n 0 (λ k from to. ap ok (sym (at k (omega arith))) ∙ h k 0 zero-le (rw length-range_with_len (omega arith))))
      answers false h =
          let lt : h.0 < n = rw length-range_with_len at h.1 in
          sym (every_fails ok n h.0 lt (ap ok (sym (at h.0 lt)) ∙ h.2 0) _ refl)

  pub first_ran : {g : Mut F (Bor ℕ × Unit {0}) Bool} (r : Option ℕ) → (xs : List ℕ) × (j : F) × YieldsThen nat_range_steps (record { start = 0; end = n }) xs r u × FoldsTo (λ p x q. CalledAt g p x false q) f xs j × MatchOption r ⊤ (λ x. (h : F) × CalledAt g j x true h) → ((x : ℕ) (q : F) → CalledAt g f x true q → ok x ≡ false) → ((x : ℕ) (q : F) → CalledAt g f x false q → (q ≡ f) × (ok x ≡ true)) → MatchOption r (first_bad ok n 0 ≡ n) (λ i. (i ≡ first_bad ok n 0) × (i < n))
  first_ran r ran wrong right = answers r (first_from_Range (record { start = 0; end = n }) u f r (λ k. ok k ≡ false) (λ k. ok k ≡ true) ran wrong right)
    where
      answers : (o : Option ℕ) → MatchOption o ((k : ℕ) → 0 ≤ k → k < n → ok k ≡ true) (λ i. (0 ≤ i) × (i < n) × (ok i ≡ false) × ((k : ℕ) → 0 ≤ k → k < i → ok k ≡ true)) → MatchOption o (first_bad ok n 0 ≡ n) (λ i. (i ≡ first_bad ok n 0) × (i < n))
      answers None h = first_none ok n 0 (λ k from to. h k from (omega arith)) ∙ omega arith
      answers (Some i) h =
          let at : 0 + i ≡ i = omega arith in
          (sym (first_is ok i n 0 h.1 (λ k from to. h.3 k from (omega arith)) (rw at h.2) ∙ at), h.1)
