-- Each number is written behind the last.
use Rattle.stand.specs.Bytes.{overlay}
use Rattle.stand.proofs.header.Goals as goal

pub returns : goal.returns
unfolding overlay
returns c =
    rw (c.set32-4.ensures, c.set32-3.ensures, c.set32-2.ensures, c.set32.ensures, c.set16-4.ensures, c.set16-3.ensures, c.set16-2.ensures, c.set16.ensures, c.copy.ensures)
