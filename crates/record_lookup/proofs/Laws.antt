-- The record that is handed out, case by case, in the direction in which a need asks it; then what it is in the file's bytes.
use Prim.Native.Nat.{ℕ, ◌+◌, ◌*◌, ◌≤◌, ◌<◌}
use mathlib.Core.Path.{◌≡◌, refl, sym}
use mathlib.Core.Bool.{true, false}
use mathlib.Core.List.{List, []}
use lib.ListN.{take, drop}
use borrow.Author.Tests.{lt-ltb, le-ltb}
use Rattle.planning.proofs.Guards.{pick_yes, pick_no}
use Rattle.task.specs.Limits.{operator_bytes}
use Rattle.task.specs.Format.{operators, operators_at, operator_record}
use Rattle.task.specs.Check.{accepted}
use Rattle.task.proofs.Acceptance.{record_is}
use Rattle.record_lookup.specs.Lookup.{operator_part}

module _ (f : List ℕ) (o : ℕ) where
  pub part_refused : accepted f ≡ false → [] ≡ operator_part f o
  unfolding operator_part
  part_refused r = pick_no _ _ _ _ r refl

  pub part_none : accepted f ≡ true → operators f ≤ o → [] ≡ operator_part f o
  unfolding operator_part
  part_none a h = pick_yes _ _ _ _ a (pick_no _ _ _ _ (le-ltb o (operators f) h) refl)

  pub part_record : accepted f ≡ true → o < operators f → operator_record f o ≡ operator_part f o
  unfolding operator_part
  part_record a h = pick_yes _ _ _ _ a (pick_yes _ _ _ _ (lt-ltb o (operators f) h) refl)

  -- the 36 bytes from the record's place on
  pub operator_is : accepted f ≡ true → o < operators f → operator_part f o ≡ take operator_bytes (drop (operators_at f + operator_bytes * o) f)
  operator_is a h = rw (sym (part_record a h)) (record_is f a o h)
