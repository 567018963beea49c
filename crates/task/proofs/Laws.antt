-- Laws of the reads and the parts, each in the direction in which a need asks it.
use Prim.Native.Nat.{ℕ, ◌+◌, ◌-◌, ◌≤◌, ◌<◌}
use mathlib.Core.Path.{◌≡◌, sym}
use mathlib.Core.List.{List, []}
use native.Mathlib.Omega.{arith}
use native.Mathlib.Nat.{add-sub_cancel_left}
use lib.ListN.{length, take, drop, length-drop, get_or-eq_default}
use lib.Seq.{length-take-le, take_all}
use borrow.Author.Tests.{le-leb, lt-leb, eq-eqb, ne_eqb}
use Rattle.planning.specs.Connectives.{pick}
use Rattle.task.specs.Limits.{operator_bytes, effects_at}
use Rattle.task.specs.Bytes.{byte, part}
use Rattle.task.specs.Format.{effects}

-- ---- reads past the end
pub byte_out : (f : List ℕ) (at : ℕ) → length f ≤ at → 0 ≡ byte f at
unfolding byte
byte_out f at h = sym (get_or-eq_default f 0 h)

-- ---- a part within the file, and one that runs past its end
pub part_is : (f : List ℕ) (at n : ℕ) → at + n ≤ length f → part f at n ≡ take n (drop at f)
unfolding part pick
part_is f at n h = rw (le-leb (at + n) (length f) h)

pub part_long : (f : List ℕ) (at n : ℕ) → at + n ≤ length f → length (part f at n) ≡ n
part_long f at n h = rw (part_is f at n h) (length-take-le n (drop at f) (rw (length-drop at f) (omega arith)))

pub part_in : (f : List ℕ) (at n : ℕ) → at + n ≤ length f → take ((at + n) - at) (drop at f) ≡ part f at n
part_in f at n h = rw (part_is f at n h, add-sub_cancel_left)

pub part_out : (f : List ℕ) (at n : ℕ) → length f < at + n → [] ≡ part f at n
unfolding part pick
part_out f at n h = rw (lt-leb (at + n) (length f) h)

pub effects_in : (r : List ℕ) → length r ≡ operator_bytes → take (length r - effects_at) (drop effects_at r) ≡ effects r
unfolding effects pick
effects_in r h =
    rw (eq-eqb (length r) operator_bytes h) (take_all (length r - effects_at) (drop effects_at r) (rw (length-drop effects_at r) (omega arith)))

pub effects_out : (r : List ℕ) → (length r ≡ operator_bytes → ⊥) → [] ≡ effects r
unfolding effects pick
effects_out r h = rw (ne_eqb (length r) operator_bytes h)
