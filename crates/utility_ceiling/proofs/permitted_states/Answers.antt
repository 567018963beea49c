use Rattle.std.proofs.Common.{rules}
use Rattle.utility_ceiling.proofs.Files.{none_from}
use Rattle.utility_ceiling.proofs.permitted_states.Goals as goal

pub loop-v-init : goal.loop-v-init
loop-v-init c =
    (none_from c.args.file.now c.requires.file_value _ _ _ _ _ c.variables-v.result c.requires.bit_len.0 c.requires.bit_len.1 c.requires.bit_len.2 c.variables-v.ensures.is, search rules)
