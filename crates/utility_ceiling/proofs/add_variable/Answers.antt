use Prim.Native.Nat.{◌≤◌}
use Rattle.std.proofs.Common.{rules}
use native.Mathlib.Omega.{arith}
use Rattle.utility_ceiling.proofs.Making.{bounding_behind, bounding_more}
use Rattle.utility_ceiling.proofs.Files.{few_variables, two_values, variable_begins, variable_ends}
use Rattle.utility_ceiling.proofs.add_variable.Goals as goal

pub size-d-requires : goal.size-d-requires
size-d-requires c = omega (arith, c.requires.file_value.1, few_variables c.args.file.now c.requires.file_value.0)

pub bit_offset-first-requires : goal.bit_offset-first-requires
bit_offset-first-requires c = (omega (arith, c.requires.file_value.1), omega (arith, c.requires.file_value.1, few_variables c.args.file.now c.requires.file_value.0))

pub overflow_sub-rest : goal.overflow_sub-rest
overflow_sub-rest c =
    omega (arith, (let two : 2 ≤ c.size-d.result = two_values c.args.file.now c.requires.file_value.0 c.args.v c.size-d.result c.bit_offset-first.result c.requires.file_value.1 c.size-d.ensures.is c.bit_offset-first.ensures.is in two))

pub loop-k-init : goal.loop-k-init
loop-k-init c =
    (variable_begins c.args.file.now c.requires.file_value.0 c.args.v c.size-d.result c.bit_offset-first.result c.requires.file_value.1 c.size-d.ensures.is c.bit_offset-first.ensures.is _ c.args.next c.width-k.result c.width-k.ensures.is c.requires.from, search rules)

pub bound_bit-tight-requires : goal.bound_bit-tight-requires
bound_bit-tight-requires c = bounding_behind _ _ _ _ _ _ _ _ _ _ c.loop-k.invariant.0 c.loop-k-test.true

pub loop-k-preserved : goal.loop-k-preserved
loop-k-preserved c =
    (bounding_more _ _ _ _ _ _ _ _ _ _ c.loop-k.invariant.0 c.loop-k-test.true _ c.bound_bit-tight.result c.bound_bit-tight.ensures.adds, search rules)

pub returns-clause-from : goal.returns-clause-from
returns-clause-from c =
    variable_ends c.args.file.now c.requires.file_value.0 c.args.v c.size-d.result c.bit_offset-first.result c.requires.file_value.1 c.size-d.ensures.is c.bit_offset-first.ensures.is _ c.args.next c.loop-k.rest c.loop-k.k c.loop-k.tight c.loop-k.invariant.0 (omega (arith, c.loop-k-test.false))
