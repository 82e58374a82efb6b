use Rattle.moves.proofs.Linking.{Indexing}
use Rattle.moves.proofs.index.index.Given as goal

abbrev pub invariant-loop-e : goal.invariant-loop-e
invariant-loop-e l = Indexing l.n l.words l.initial.work l.work l.e
