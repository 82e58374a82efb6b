use Rattle.replay.proofs.Passing.{Forgetting}
use Rattle.replay.proofs.turn.forget.Given as goal

abbrev pub invariant-loop-c : goal.invariant-loop-c
invariant-loop-c l = Forgetting l.initial.work l.work l.c
