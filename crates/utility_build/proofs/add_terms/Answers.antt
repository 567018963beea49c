use Rattle.std.proofs.Common.{rules, refl}
use Rattle.std.proofs.lemmas.Result.{err_from_is_err_and}
use native.Mathlib.Omega.{arith}
use Rattle.utility_build.proofs.Stages.{added_end, added_full, added_next}
use Rattle.utility_build.proofs.add_terms.Goals as goal

pub returns-in_err-name-clause-makes : goal.returns-in_err-name-clause-makes
returns-in_err-name-clause-makes c =
    let e = err_from_is_err_and c.from_residual.result c.from_residual.ensures.1 in
    rw e.1 (added_full _ _ _ _ _ _ c.loop-t.invariant.0 (omega (arith, c.loop-t-test.true, c.terms-t-end.ensures.is)) _ _ _ c.in_err-name.ensures.adds refl)

pub loop-t-preserved : goal.loop-t-preserved
loop-t-preserved c =
    (added_next _ _ _ _ _ _ c.loop-t.invariant.0 (omega (arith, c.loop-t-test.true, c.terms-t-end.ensures.is)) _ _ _ c.in_ok-name.ensures.adds refl c.add_term.ensures.lists.bit_length, search rules)

pub returns-clause-makes : goal.returns-clause-makes
returns-clause-makes c = added_end _ _ _ _ _ _ c.loop-t.invariant.0 (omega (arith, c.loop-t-test.false, c.terms-t-end.ensures.is))
