use Rattle.std.proofs.Common.{refl}
use Rattle.std.proofs.lemmas.Result.{err_from_is_err_and}
use Rattle.diagrams.specs.Tree.{named, Canon}
use Rattle.diagrams.specs.Store.{table_of, blank}
use Rattle.diagrams.proofs.Unders.{under_none}
use Rattle.utility_build.proofs.Stages.{zero_full, zero_ready, whole}
use Rattle.utility_build.proofs.build.Goals as goal

pub mk-requires-clause-fact : goal.mk-requires-clause-fact
unfolding named Canon
mk-requires-clause-fact c = (tt, tt)

pub returns-in_err-zero-clause-builds : goal.returns-in_err-zero-clause-builds
returns-in_err-zero-clause-builds c =
    let l = c.requires.low_len in
    let e = err_from_is_err_and c.from_residual.result c.from_residual.ensures.1 in
    rw e.1 (zero_full c.args.file.now c.requires.file_value (table_of c.args.nodes.now) l.0 l.1 l.2 (table_of c.mk.new.nodes) _ c.in_err-zero.ensures.made refl (table_of c.mk.new.nodes))

pub add_terms-requires : goal.add_terms-requires
add_terms-requires c =
    let l = c.requires.low_len in
    zero_ready c.args.file.now c.requires.file_value (table_of c.args.nodes.now) l.0 l.1 l.2 (table_of c.mk.new.nodes) _ c.in_ok-zero.ensures.made refl c.begin.new.memo (c.begin.ensures.for blank (under_none 64 blank refl))

pub returns-clause-builds : goal.returns-clause-builds
returns-clause-builds c =
    let l = c.requires.low_len in
    whole c.args.file.now c.requires.file_value (table_of c.args.nodes.now) l.0 l.1 l.2 (table_of c.mk.new.nodes) _ c.in_ok-zero.ensures.made refl c.mk.ensures.lists.bit_length (table_of c.add_terms.new.nodes) c.add_terms.result c.add_terms.ensures.makes
