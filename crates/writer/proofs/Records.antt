-- Records of w bytes each, one behind the other: how long they are together, each of them found again, and the part of a file that they are.
use Prim.Native.Nat.{ℕ, zero, suc, ◌+◌, ◌*◌, ◌≤◌, ◌<◌}
use mathlib.Core.Path.{◌≡◌, sym, ap, ◌∙◌}
use mathlib.Core.List.{List, ◌++◌, flatten, append_assoc}
use native.Mathlib.Omega.{arith}
use native.Mathlib.Nat.{add-zero, zero-add, add_comm, add_assoc, mul-zero, mul-suc, mul-le-mul_left, not-suc-le-zero, le_of_suc-le-suc}
use lib.ListN.{length, take, drop, length-append}
use lib.Seq.{take_at, drop_at, drop-drop, drop-append-add, take-add}
use Rattle.planning.specs.Scan.{tab}
use Rattle.task.specs.Bytes.{part}
use Rattle.task.proofs.Laws.{part_is, part_long}

module _ (bytes : ℕ → List ℕ) (w : ℕ) where
  -- each of the n records from i on has w bytes
  abbrev pub Wide : ℕ → ℕ → Type 0
  Wide n i = (k : ℕ) → i ≤ k → k < i + n → length (bytes k) ≡ w

  wide_rest : (n i : ℕ) → Wide (suc n) i → Wide n (suc i)
  wide_rest n i wide k from to = wide k (omega arith) (omega arith)

  pub length_records : (n i : ℕ) → Wide n i → length (flatten (tab bytes n i)) ≡ w * n
  unfolding tab flatten
  length_records zero i wide = sym (mul-zero w)
  length_records (suc n) i wide =
      rw (length-append (bytes i) (flatten (tab bytes n (suc i))), wide i (omega arith) (omega arith), length_records n (suc i) (wide_rest n i wide), mul-suc w n) (add_comm w (w * n))

  -- record k stands behind the k before it
  pub record_found : (n i k : ℕ) (rest : List ℕ) → Wide n i → k < n → take w (drop (w * k) (flatten (tab bytes n i) ++ rest)) ≡ bytes (i + k)
  unfolding tab flatten
  record_found zero i k rest wide lt = absurd (not-suc-le-zero lt)
  record_found (suc n) i zero rest wide lt =
      rw (mul-zero w, add-zero i, append_assoc (bytes i) (flatten (tab bytes n (suc i))) rest)
      (take_at (bytes i) (flatten (tab bytes n (suc i)) ++ rest) w (wide i (omega arith) (omega arith)))
  record_found (suc n) i (suc k) rest wide lt =
      let behind : List ℕ = flatten (tab bytes n (suc i)) ++ rest in
      let step : drop (w * suc k) (bytes i ++ behind) ≡ drop (w * k) behind =
      rw (mul-suc w k, add_comm (w * k) w, ← drop-drop (w * k) w (bytes i ++ behind), drop_at (bytes i) behind w (wide i (omega arith) (omega arith))) in
      let same : suc i + k ≡ i + suc k = omega arith in
      rw (append_assoc (bytes i) (flatten (tab bytes n (suc i))) rest, step, ← same) (record_found n (suc i) k rest (wide_rest n i wide) (le_of_suc-le-suc lt))

  -- and so it is read where it stands in a whole file
  pub record_read : (front rest : List ℕ) (at n k : ℕ) → length front ≡ at → Wide n 0 → k < n → part (front ++ (flatten (tab bytes n 0) ++ rest)) (at + w * k) w ≡ bytes k
  record_read front rest at n k long wide lt =
      let all : List ℕ = flatten (tab bytes n 0) ++ rest in
      let within : w * suc k ≤ w * n = mul-le-mul_left w lt in
      let whole : length (front ++ all) ≡ at + (w * n + length rest) =
      length-append front all ∙ rw (long, length-append (flatten (tab bytes n 0)) rest, length_records n 0 wide) in
      let next : w * suc k ≡ w * k + w = mul-suc w k in
      rw (part_is (front ++ all) (at + w * k) w (omega arith), ← long, drop-append-add front all (w * k)) (record_found n 0 k rest wide lt ∙ ap bytes (zero-add k))

-- ---- the section of n records of w bytes from at on, as one part of the file
module _ (f : List ℕ) (at w : ℕ) where
  run : (n i : ℕ) → at + w * (i + n) ≤ length f → take (w * n) (drop (at + w * i) f) ≡ flatten (tab (λ k. part f (at + w * k) w) n i)
  unfolding tab flatten
  run zero i h = rw (mul-zero w)
  run (suc n) i h =
      let next : at + w * i + w ≡ at + w * suc i = add_assoc at (w * i) w ∙ ap (λ (m : ℕ). at + m) (sym (mul-suc w i)) in
      let far : w * suc i ≤ w * (i + suc n) = mul-le-mul_left w (omega arith) in
      let same : suc i + n ≡ i + suc n = omega arith in
      rw (part_is f (at + w * i) w (omega arith), mul-suc w n, add_comm (w * n) w, take-add w (w * n) (drop (at + w * i) f), drop-drop w (at + w * i) f, next)
      (ap (λ (r : List ℕ). take w (drop (at + w * i) f) ++ r) (run n (suc i) (rw same h)))

  pub section_is : (n : ℕ) → at + w * n ≤ length f → part f at (w * n) ≡ flatten (tab (λ k. part f (at + w * k) w) n 0)
  section_is n h =
      let none : at + w * 0 ≡ at = ap (λ (m : ℕ). at + m) (mul-zero w) ∙ add-zero at in
      rw (part_is f at (w * n) h) (rw none at (run n 0 (rw (zero-add n) h)))

  pub section_wide : (n : ℕ) → at + w * n ≤ length f → Wide (λ k. part f (at + w * k) w) w n 0
  section_wide n h k from to =
      let far : w * suc k ≤ w * n = mul-le-mul_left w (omega arith) in
      let next : w * suc k ≡ w * k + w = mul-suc w k in
      part_long f (at + w * k) w (omega arith)
