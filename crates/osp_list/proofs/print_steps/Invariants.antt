-- The cost so far is at most 65,536 for each step before this one.
use Rattle.std.proofs.Common.{◌*◌, ◌≤◌}
use Rattle.osp_list.proofs.print_steps.Given as goal

abbrev pub invariant-loop-step : goal.invariant-loop-step
invariant-loop-step g l = l.so_far ≤ 65536 * l.step-counter
