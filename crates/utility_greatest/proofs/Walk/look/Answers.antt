use mathlib.Core.Path.{sym, ◌∙◌}
use Rattle.utility_greatest.proofs.Looking.{looked_none, looked_end, looked_recalled, looked_parted}
use Rattle.utility_greatest.proofs.Walk.look.Goals as goal

pub returns-then-x-eq0 : goal.returns-then-x-eq0
returns-then-x-eq0 c = looked_none _ _ c.requires.ready _ _ c.requires.names.0 c.requires.names.1 c.if-x-eq0.true

pub returns-in-Some : goal.returns-in-Some
returns-in-Some c =
    looked_end _ _ c.requires.ready _ _ c.requires.names.0 c.requires.names.1 c.if-x-eq0.false c.in-Some.value (sym c.end.ensures.value ∙ c.in-Some.is)

pub returns-in-Some-recall : goal.returns-in-Some-recall
returns-in-Some-recall c =
    looked_recalled _ _ c.requires.ready _ _ c.requires.names.0 c.requires.names.1 _ (rw c.in-Some-recall.is at c.recall.ensures)

pub returns : goal.returns
returns c =
    rw c.awaiting.ensures
    (looked_parted _ _ c.requires.ready _ _ c.requires.names.0 c.requires.names.1 c.if-x-eq0.false (sym c.end.ensures.value ∙ c.in_default.is) _ c.part.ensures)
