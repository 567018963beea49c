-- Document 02's Paper 2: one file for one task.
use Prim.Native.Nat.{ℕ, ◌≤◌}
use mathlib.Core.Path.{◌≡◌, refl, sym}
use mathlib.Core.Bool.{true}
use mathlib.Core.Logic.{◌↔◌}
use mathlib.Core.List.{List}
use native.Mathlib.Nat.{le_trans}
use lib.ListN.{length}
use borrow.Author.Tests.{le-leb}
use Rattle.planning.proofs.Guards.{pick_yes}
use Rattle.task.specs.Check.{accepted}
use Rattle.task.specs.Decode.{task_of}
use Rattle.std.specs.Prelude.{Ok}
use Rattle.writer.specs.Canonical.{written, most_written_bytes}
use Rattle.writer.specs.Same.{Same}
use Rattle.writer.specs.Write.{write_of}
use Rattle.writer.proofs.Same.{same_sym, same_trans, same_task, same_bytes}
use Rattle.writer.proofs.Sections.{end_short, end_small}
use Rattle.writer.proofs.Readback.{written_long, same_written, written_accepted}

-- two accepted files carry the same counts, bound and records in order exactly if the writer gives equal bytes for both
pub one_file : (f g : List ℕ) → accepted f ≡ true → accepted g ≡ true → (written f ≡ written g) ↔ Same f g
one_file f g a b = (λ e. same_trans (same_written f a) (rw e (same_sym (same_written g b))), same_bytes f g)

module _ (f : List ℕ) (a : accepted f ≡ true) where
  -- the output is accepted, carries the file's records, and reads back as its task
  pub reads_back : (accepted (written f) ≡ true) × (Same f (written f) × (task_of (written f) ≡ task_of f))
  reads_back = (written_accepted f a, (same_written f a, sym (same_task f (written f) (same_written f a))))

  -- writing what was written changes nothing
  pub written_again : written (written f) ≡ written f
  written_again = sym (same_bytes f (written f) (same_written f a))

  -- the written file is no longer than the file, and never longer than 12,380 bytes
  pub written_short : length (written f) ≤ length f
  written_short = rw (written_long f) (end_short f a)

  pub written_small : length (written f) ≤ most_written_bytes
  written_small = rw (written_long f) (end_small f a)

  -- so a list as long as the file is never refused 22
  pub room_enough : (room : ℕ) → length f ≤ room → write_of f room ≡ Ok (length (written f))
  unfolding write_of
  room_enough room h = sym (pick_yes _ _ _ _ a (pick_yes _ _ _ _ (le-leb (length (written f)) room (le_trans written_short h)) refl))
