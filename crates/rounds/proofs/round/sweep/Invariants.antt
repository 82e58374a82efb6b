use Rattle.rounds.proofs.Sweeping.{Sweeping}
use Rattle.rounds.proofs.round.sweep.Given as goal

abbrev pub invariant-loop-c : goal.invariant-loop-c
invariant-loop-c l = Sweeping l.initial.work l.work l.c
