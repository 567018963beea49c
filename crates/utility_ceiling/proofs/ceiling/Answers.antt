use Prim.Native.Nat.{suc}
use mathlib.Core.Path.{◌≡◌}
use native.Mathlib.Omega.{arith}
use Rattle.planning.specs.Ceiling.{ceiling}
use Rattle.diagrams.specs.Store.{view_table}
use Rattle.task.specs.Decode.{task_of}
use Rattle.utility_ceiling.proofs.Files.{ceiling_found}
use Rattle.utility_ceiling.proofs.ceiling.Goals as goal

pub overflow_sub-result : goal.overflow_sub-result
overflow_sub-result c =
    omega (arith, (let found : c.greatest_within.result ≡ suc (ceiling (task_of c.args.file.now)) = ceiling_found c.args.file.now c.requires.file_value c.permitted_states-set.new.nodes c.view.result (view_table c.args.utility.nodes) c.permitted_states-set.result c.args.utility.root c.greatest_within.result c.view.ensures c.permitted_states-set.ensures.from c.requires.valued c.greatest_within.ensures in found))

pub returns : goal.returns
returns c =
    omega (arith, (let found : c.greatest_within.result ≡ suc (ceiling (task_of c.args.file.now)) = ceiling_found c.args.file.now c.requires.file_value c.permitted_states-set.new.nodes c.view.result (view_table c.args.utility.nodes) c.permitted_states-set.result c.args.utility.root c.greatest_within.result c.view.ensures c.permitted_states-set.ensures.from c.requires.valued c.greatest_within.ensures in found))
