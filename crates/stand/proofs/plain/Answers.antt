-- Written to zeros, byte by byte, the parts are the file.
use Rattle.stand.specs.Bytes.{overlay}
use Rattle.stand.proofs.plain.Goals as goal

pub returns : goal.returns
unfolding overlay
returns c =
    λ e. rw (c.copy-2.ensures, c.operator-2.ensures, c.operator.ensures, c.copy.ensures, c.header.ensures, e)
