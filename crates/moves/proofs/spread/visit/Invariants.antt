use Rattle.moves.specs.Area.{link_of}
use Rattle.moves.proofs.Cursors.{left_of}
use Rattle.moves.proofs.Visiting.{Visiting}
use Rattle.moves.proofs.spread.visit.Given as goal

abbrev pub invariant-loop-at : goal.invariant-loop-at
invariant-loop-at l = Visiting l.n l.words l.fn.a.0 l.v l.initial.work l.tail l.work l.t (link_of l.at)

abbrev pub decreases-loop-at : goal.decreases-loop-at
decreases-loop-at l = left_of (link_of l.at)
