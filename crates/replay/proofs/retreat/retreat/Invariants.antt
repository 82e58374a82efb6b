use lib.ListN.{take}
use Rattle.replay.proofs.Passing.{Receding}
use Rattle.replay.proofs.retreat.retreat.Given as goal

abbrev pub invariant-loop-v : goal.invariant-loop-v
invariant-loop-v l = Receding l.initial.work (take l.initial.work.n l.rota) l.work l.v
