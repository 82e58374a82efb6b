use Rattle.rounds.proofs.Sweeping.{Rounding}
use Rattle.rounds.proofs.round.round.Given as goal

abbrev pub invariant-loop-c : goal.invariant-loop-c
invariant-loop-c l = Rounding l.initial.work l.work
