-- `share` meets its contract.
use Rattle.lessons.proofs.Lessons.{shares}
use Rattle.lessons.proofs.learn.share.Goals as goal

pub returns : goal.returns
returns c = shares c.requires.holding c.spread.ensures (rw (c.tail-tail.ensures.is) at c.undo_to.ensures) (rw (c.tail-tail.ensures.is) at c.note.ensures)
