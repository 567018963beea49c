-- Written to zeros, byte by byte, the parts are the file.
use Rattle.stand.specs.Bytes.{overlay, put_sizes}
use Rattle.stand.proofs.p.Goals as goal

pub returns : goal.returns
unfolding overlay put_sizes
returns c =
    λ e. rw (c.copy-2.ensures, c.copy.ensures, c.operator-3.ensures, c.operator-2.ensures, c.operator.ensures, c.variables.ensures, c.header.ensures, e)
