use Rattle.components.proofs.Looking.{Scanning}
use Rattle.moves.proofs.Cursors.{left_of}
use Rattle.components.proofs.tables.Walk.scan.Given as goal

abbrev pub invariant-loop-end : goal.invariant-loop-end
invariant-loop-end l = Scanning l.self.n l.self.words.now l.self.tables.now l.fn.a.0 l.low l.e

abbrev pub decreases-loop-end : goal.decreases-loop-end
decreases-loop-end l = left_of l.e
