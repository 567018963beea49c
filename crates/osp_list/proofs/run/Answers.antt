-- What a search finds fits the plan list, whose length it keeps.
use Rattle.std.proofs.Common.{◌≤◌, length, sym, arith}
use Rattle.std.proofs.lemmas.List.{length-take-le}
use Rattle.osp_list.proofs.Found.{fits}
use Rattle.osp_list.proofs.run.Goals as goal

pub slice_bounds-plan-end : goal.slice_bounds-plan-end
slice_bounds-plan-end g c = omega (arith, fits _ _ _ _ c.in-Ok.ensures, c.search-answer.auto.plan)

pub slice_bounds-print_steps-end : goal.slice_bounds-print_steps-end
slice_bounds-print_steps-end g c =
    let h : c.in-Ok.found.steps ≤ length c.search-answer.new.plan = omega (arith, fits _ _ _ _ c.in-Ok.ensures, c.search-answer.auto.plan) in
    sym (length-take-le _ _ h)
