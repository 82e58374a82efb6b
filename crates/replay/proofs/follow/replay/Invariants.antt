use lib.ListN.{take}
use Rattle.replay.proofs.Passing.{Following}
use Rattle.replay.proofs.follow.replay.Given as goal

abbrev pub invariant-loop-i : goal.invariant-loop-i
invariant-loop-i l = Following l.initial.work (take l.initial.work.n l.rota) l.work l.i
