use Rattle.lessons.proofs.Lessons.{Clearing}
use Rattle.lessons.proofs.learn.unshade.Given as goal

abbrev pub invariant-loop-c : goal.invariant-loop-c
invariant-loop-c l = Clearing l.initial.work l.work l.c
