-- From one listed pair down to the one before it: the sets made for its wanted set, and the sets its operators lead into.
use Prim.Native.Nat.{ℕ, suc, ◌+◌, ◌-◌, ◌≤◌, ◌<◌}
use mathlib.Core.Path.{◌≡◌, refl, sym, ap, ◌∙◌}
use mathlib.Core.Bool.{Bool, true, false}
use mathlib.Core.List.{List, [], ◌∷◌, ◌++◌}
use mathlib.Core.Logic.{◌⊎◌, inl, inr}
use native.Mathlib.Decide.{dec_le, dec_lt}
use native.Mathlib.Omega.{arith}
use lib.ListN.{length, get_or}
use Rattle.diagrams.specs.Tree.{Tree, none}
use Rattle.diagrams.proofs.Trees.{no_both}
use Rattle.planning.proofs.Connectives.{cases_lt}
use Rattle.search_theory.specs.Sets.{is_empty}
use Rattle.search_theory.specs.Bits.{BitTask, bit_operator_at}
use Rattle.search_theory.specs.Passes.{gather_sets}
use Rattle.search_theory.specs.Levels.{level}
use Rattle.search_theory.specs.Wanted.{wanted_pass, wants_from, want}
use Rattle.search_theory.specs.Made.{want_sets, backward_sets}
use Rattle.search_theory.specs.Pairs.{pairs_to}
use Rattle.search_theory.proofs.Levels.{SoundBits}
use Rattle.search_theory.proofs.Wanted.{want_source, past_target}
use Rattle.search_theory.proofs.PairLists.{pairs_full, pairs_rising, in_pairs}
use Rattle.search_theory.proofs.Gaps.{want_empty, wants_made, back_gap}

-- a number between two neighbours of the list has an empty level
pub pairs_between : (t : BitTask) (n j m : ℕ) → suc j < length (pairs_to t n) → get_or (pairs_to t n) j 0 < m → m < get_or (pairs_to t n) (suc j) 0 → is_empty (level t m) ≡ true
pairs_between t n j m lt lo hi = by (is_empty (level t m)) refl
  where
    apart : (i : ℕ) → i < length (pairs_to t n) → get_or (pairs_to t n) i 0 ≡ m → (i < j) ⊎ (i ≡ j) ⊎ (j < i) → ⊥
    apart i b e (inl h) = omega (arith, pairs_rising t n i j h (omega arith))
    apart i b e (inr (inl h)) = omega (arith, ap (λ (k : ℕ). get_or (pairs_to t n) k 0) h)
    apart i b e (inr (inr h)) = above (dec_lt (suc j) i)
      where
        above : Dec (suc j < i) → ⊥
        above (yes k) = omega (arith, pairs_rising t n (suc j) i k b)
        above (no k) = let x : i ≡ suc j = omega arith in omega (arith, ap (λ (k : ℕ). get_or (pairs_to t n) k 0) x)

    by : (v : Bool) → is_empty (level t m) ≡ v → is_empty (level t m) ≡ true
    by true e = e
    by false e =
        let r = (in_pairs t n m (omega (arith, (pairs_full t n (suc j) lt).0))).0 e in
        absurd (apart r.0 r.1 r.2 (cases_lt r.0 j))

module _ (t : BitTask) (u : List Bool → ℕ) (U G : ℕ) where
  -- the sets made down to a after those down to b, where the levels between are empty and that of a is not
  pub back_step : (a b : ℕ) → a < b → b ≤ G → ((m : ℕ) → a < m → m < b → is_empty (level t m) ≡ true) → is_empty (level t a) ≡ false
      → backward_sets t u U G (G - a) ≡ backward_sets t u U G (G - b) ++ (gather_sets t.width (wanted_pass (wants_from t u U G (G - suc a))) t.operators none ++ (want t u U G a ∷ []))
  unfolding backward_sets
  back_step a b lt le between full =
      let top : G - a ≡ suc (G - suc a) = omega arith in
      let at : G - suc (G - suc a) ≡ a = omega arith in
      let sum : b - suc a + (G - b) ≡ G - suc a = omega arith in
      let skip : backward_sets t u U G (G - suc a) ≡ backward_sets t u U G (G - b) = rw sum at (back_gap t u U G (G - b) (b - suc a) (λ i h. between (G - suc (i + (G - b))) (omega arith) (omega arith))) in
      let made : want_sets t u U G (G - suc a) ≡ gather_sets t.width (wanted_pass (wants_from t u U G (G - suc a))) t.operators none ++ (want t u U G a ∷ []) = rw at at (wants_made t u U G (G - suc a) (rw at full)) in
      rw (top, skip, made)

  -- the set an operator leads into from h: the wanted set of the listed pair it leads to; empty if there is none
  pub wanted_source : SoundBits t → is_empty (level t G) ≡ false → (h o : ℕ) → h < G → o < length t.operators → (x : Tree)
      → ((i : ℕ) → i < length (pairs_to t G) → get_or (pairs_to t G) i 0 ≡ h + (bit_operator_at t.operators o).cost → x ≡ want t u U G (get_or (pairs_to t G) i 0))
      → (((i : ℕ) → i < length (pairs_to t G) → get_or (pairs_to t G) i 0 ≡ h + (bit_operator_at t.operators o).cost → ⊥) → x ≡ none)
      → x ≡ get_or (wants_from t u U G (G - suc h)) ((bit_operator_at t.operators o).cost - 1) none
  wanted_source 𝓢 full h o lt b x found lost = by (dec_le (h + c) G) (is_empty (level t (h + c))) refl
    where
      c : ℕ
      c = (bit_operator_at t.operators o).cost

      pos : 1 ≤ c
      pos = 𝓢.costs o b

      none_at : is_empty (level t (h + c)) ≡ true → x ≡ none
      none_at e = lost (λ i l y. no_both e (rw y at (pairs_full t G i l).1))

      below : is_empty (level t (h + c)) ≡ true → h + c ≤ G → h + c < G
      below e le = strict (dec_lt (h + c) G)
        where
          strict : Dec (h + c < G) → h + c < G
          strict (yes k) = k
          strict (no k) = let y : h + c ≡ G = omega arith in absurd (no_both e (rw y full))

      by : Dec (h + c ≤ G) → (v : Bool) → is_empty (level t (h + c)) ≡ v → x ≡ get_or (wants_from t u U G (G - suc h)) (c - 1) none
      by (yes le) true e = none_at e ∙ sym (want_source t u U G h c pos le ∙ want_empty t u U G (h + c) (below e le) e)
      by (yes le) false e =
          let r = (in_pairs t G (h + c) le).0 e in
          found r.0 r.1 r.2 ∙ ap (want t u U G) r.2 ∙ sym (want_source t u U G h c pos le)
      by (no gt) v e = lost (λ i l y. omega (arith, (pairs_full t G i l).0)) ∙ sym (past_target t u U G h c lt (omega arith))
