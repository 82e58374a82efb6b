use Rattle.chains.proofs.Picking.{Picking}
use Rattle.moves.proofs.Cursors.{left_of}
use Rattle.moves.specs.Area.{link_of}
use Rattle.chains.proofs.nearer.lowest.Given as goal

abbrev pub invariant-loop-at : goal.invariant-loop-at
invariant-loop-at l = Picking l.work.n l.work.rules l.work.words l.fn.a.0 l.d l.found (link_of l.at)

abbrev pub decreases-loop-at : goal.decreases-loop-at
decreases-loop-at l = left_of (link_of l.at)
