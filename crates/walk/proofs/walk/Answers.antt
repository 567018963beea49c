use Prim.Native.Nat.{◌≤◌}
use native.Mathlib.Omega.{arith}
use mathlib.Core.Path.{sym, ◌∙◌}
use lib.Seq.{length-take-le}
use Rattle.std.proofs.lemmas.Result.{err_from_is_err_and}
use Rattle.task_check.proofs.Laws.{told_accepted, told_refused}
use Rattle.task.proofs.Acceptance.{sound}
use Rattle.walk.proofs.Steps.{walk_refused, walk_odd, walk_even}
use Rattle.walk.proofs.walk.Goals as goal

pub returns-in_err-check : goal.returns-in_err-check
returns-in_err-check c =
    let told = told_refused _ _ c.check.ensures _ c.in_err-check.was in
    let p = err_from_is_err_and c.from_residual.result c.from_residual.ensures.1 in
    rw (p.1, p.2) (walk_refused _ _ _ told.0 told.1)

pub returns-then-plan-ne0 : goal.returns-then-plan-ne0
returns-then-plan-ne0 c =
    walk_odd _ _ (sym (told_accepted _ _ c.check.ensures _ c.in_ok-check.was)) c.if-plan-ne0.true

pub slice_bounds-state-end : goal.slice_bounds-state-end
slice_bounds-state-end c =
    omega (arith, (sound _ (told_accepted _ _ c.check.ensures _ c.in_ok-check.was)).few_variables, c.variables-n.ensures.is)

pub slice_bounds-walk_in-end : goal.slice_bounds-walk_in-end
slice_bounds-walk_in-end c =
    sym (length-take-le _ _ (omega (arith, (sound _ (told_accepted _ _ c.check.ensures _ c.in_ok-check.was)).few_variables, c.variables-n.ensures.is)))

pub walk_in-requires : goal.walk_in-requires
walk_in-requires c =
    let room : c.variables-n.result ≤ 32 = omega (arith, (sound _ (told_accepted _ _ c.check.ensures _ c.in_ok-check.was)).few_variables, c.variables-n.ensures.is) in
    let l = length-take-le _ _ room in
    (l ∙ c.variables-n.ensures.is, omega (arith, l, room))

pub returns : goal.returns
returns c =
    walk_even _ _ _ (sym (told_accepted _ _ c.check.ensures _ c.in_ok-check.was)) c.if-plan-ne0.false c.walk_in.ensures
