use Rattle.search.proofs.Settling.{Going}
use Rattle.search.proofs.first.search.Given as goal

abbrev pub invariant-loop-v : goal.invariant-loop-v
invariant-loop-v l = Going l.initial.work l.fn.from l.work l.v
