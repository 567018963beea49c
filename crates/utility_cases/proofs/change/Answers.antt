use Rattle.utility_cases.proofs.Going.{goes_on, operands}
use Rattle.utility_cases.proofs.change.Goals as goal

pub difference-requires : goal.difference-requires
difference-requires c = λ _. operands _ _ _ _ _ c.in_ok-cube.ensures.makes c.requires.ready.store _ c.requires.ready.within

pub returns-then-y-eq0-clause-goes : goal.returns-then-y-eq0-clause-goes
returns-then-y-eq0-clause-goes c =
    goes_on _ _ _ _ _ (c.difference.ensures.makes.makes (operands _ _ _ _ _ c.in_ok-cube.ensures.makes c.requires.ready.store _ c.requires.ready.within))

pub union-requires : goal.union-requires
union-requires c = λ _. operands _ _ _ _ _ c.in_ok-cube.ensures.makes c.requires.ready.store _ c.requires.ready.within

pub returns-clause-goes : goal.returns-clause-goes
returns-clause-goes c =
    goes_on _ _ _ _ _ (c.union.ensures.makes.makes (operands _ _ _ _ _ c.in_ok-cube.ensures.makes c.requires.ready.store _ c.requires.ready.within))
