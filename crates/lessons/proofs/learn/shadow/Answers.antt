-- `shadow` meets its contract.
use Rattle.lessons.proofs.Lessons.{shadows}
use Rattle.lessons.proofs.learn.shadow.Goals as goal

pub returns : goal.returns
returns c = shadows c.requires.holding c.spread.ensures (rw (c.tail-tail.ensures.is) at c.undo_to.ensures) c.requires.notes (rw (c.tail-tail.ensures.is) at c.shade.ensures)
