-- `teach` meets its contract: the failure is noted, and nothing more is learnt, or what `learn` learns.
use Rattle.meaning.proofs.CodeLaws.{opposite_below}
use Rattle.search.proofs.Settling.{teaches_noted, teaches_more, teaches_stands}
use Rattle.search.proofs.settle.teach.Goals as goal

pub returns-then-failure-lt-FAR : goal.returns-then-failure-lt-FAR
returns-then-failure-lt-FAR c = teaches_noted c.requires.state c.requires.c_bound.0 c.requires.c_bound.1 c.set_spare.ensures

pub returns-then-mark-ne0 : goal.returns-then-mark-ne0
returns-then-mark-ne0 c = teaches_noted c.requires.state c.requires.c_bound.0 c.requires.c_bound.1 c.set_spare.ensures

pub mark-requires-2 : goal.mark-requires-2
mark-requires-2 c = rw (c.opposite.ensures, c.set_spare.ensures.same.choices) (opposite_below _ _ c.requires.c_bound.2)

pub returns-then-mark-ne0-2 : goal.returns-then-mark-ne0-2
returns-then-mark-ne0-2 c = teaches_noted c.requires.state c.requires.c_bound.0 c.requires.c_bound.1 c.set_spare.ensures

pub learn-requires-clause-holding : goal.learn-requires-clause-holding
learn-requires-clause-holding c = (teaches_stands (teaches_noted c.requires.state c.requires.c_bound.0 c.requires.c_bound.1 c.set_spare.ensures)).holding

pub returns : goal.returns
returns c = teaches_more c.requires.c_bound.0 (teaches_noted c.requires.state c.requires.c_bound.0 c.requires.c_bound.1 c.set_spare.ensures) c.learn.ensures
