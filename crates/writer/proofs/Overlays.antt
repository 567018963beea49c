-- Laws of bytes put over a list's, each in the direction in which a need asks it.
use Prim.Native.Nat.{ℕ, ◌+◌, ◌≤◌, ◌<◌}
use mathlib.Core.Path.{◌≡◌, refl, sym, ap, ◌∙◌}
use mathlib.Core.List.{List, [], ◌++◌, append_assoc}
use native.Mathlib.Omega.{arith}
use native.Mathlib.Nat.{zero-add, add_assoc, le_antisymm}
use native.Mathlib.Numerals.{add-one}
use lib.ListN.{length, get_or, take, drop, set, length-append, length-set}
use lib.Seq.{length-take-le, take-length, take_at, drop_at, drop-drop, paste, paste-zero, paste-suc, length-paste}
use Rattle.writer.specs.Write.{overlay}

module _ (out : List ℕ) (at : ℕ) where
  pub overlay_nothing : out ≡ overlay out at []
  unfolding overlay
  overlay_nothing = paste-zero out at []

  -- a copy that is done
  pub overlay_paste : (bytes : List ℕ) → overlay out at bytes ≡ paste out at bytes (length bytes)
  unfolding overlay
  overlay_paste bytes = rw (take-length bytes)

  pub length_overlay : (bytes : List ℕ) → at + length bytes ≤ length out → length (overlay out at bytes) ≡ length out
  length_overlay bytes h = rw (overlay_paste bytes) (length-paste out at bytes (length bytes) h (omega arith))

  -- bytes, and then bytes behind them
  pub overlay_behind : (xs ys : List ℕ) → at + length xs ≤ length out → overlay (overlay out at xs) (at + length xs) ys ≡ overlay out at (xs ++ ys)
  unfolding overlay
  overlay_behind xs ys h =
      let front : List ℕ = take at out ++ xs in
      let long : length front ≡ at + length xs = length-append (take at out) xs ∙ ap (λ (n : ℕ). n + length xs) (length-take-le at out (omega arith)) in
      let past : drop (at + length xs + length ys) (front ++ drop (at + length xs) out) ≡ drop (at + length xs + length ys) out =
      sym (drop-drop (length ys) (at + length xs) (front ++ drop (at + length xs) out))
      ∙ ap (drop (length ys)) (drop_at front (drop (at + length xs) out) (at + length xs) long)
      ∙ drop-drop (length ys) (at + length xs) out in
      ap (λ (r : List ℕ). r ++ ys ++ drop (at + length xs + length ys) (front ++ drop (at + length xs) out)) (take_at front (drop (at + length xs) out) (at + length xs) long)
      ∙ ap (λ (r : List ℕ). front ++ ys ++ r) past
      ∙ rw (length-append xs ys, append_assoc (take at out) xs ys, add_assoc at (length xs) (length ys))

  pub overlay_next : (to : ℕ) (xs ys : List ℕ) → at + length xs ≡ to → to ≤ length out → overlay (overlay out at xs) to ys ≡ overlay out at (xs ++ ys)
  overlay_next to xs ys e h = rw (← e) (overlay_behind xs ys (omega arith))

-- bytes in front
pub overlay_front : (out bytes : List ℕ) → overlay out 0 bytes ≡ bytes ++ drop (length bytes) out
unfolding overlay
overlay_front out bytes = rw (zero-add (length bytes))

-- ---- a copy in a loop: the first i bytes are there
module _ (out₀ : List ℕ) (at : ℕ) (bytes : List ℕ) where
  pub record Copied (out : List ℕ) (i : ℕ) : Type 0 where
    pub few : i ≤ length bytes
    pub long : length out ≡ length out₀
    pub is : out ≡ paste out₀ at bytes i

  pub copied_none : Copied out₀ 0
  copied_none = record { few = omega arith; long = refl; is = paste-zero out₀ at bytes }

  pub copied_more : (out : List ℕ) (i : ℕ) → at + length bytes ≤ length out₀ → i < length bytes → Copied out i → Copied (set out (at + i) (get_or bytes i 0)) (i + 1)
  copied_more out i room lt c =
      record {
        few = omega arith;
        long = length-set out (at + i) (get_or bytes i 0) ∙ c.long;
        is = rw (c.is, add-one) (paste-suc out₀ at bytes i 0 (omega arith) lt);
      }

  pub copied_done : (out : List ℕ) (i : ℕ) → length bytes ≤ i → Copied out i → out ≡ overlay out₀ at bytes
  copied_done out i ge c =
      let e : i ≡ length bytes = le_antisymm c.few ge in
      c.is ∙ rw e (sym (overlay_paste out₀ at bytes))
