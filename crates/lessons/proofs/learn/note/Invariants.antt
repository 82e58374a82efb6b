use Rattle.lessons.proofs.Lessons.{Noting}
use Rattle.lessons.proofs.learn.note.Given as goal

abbrev pub invariant-loop-i : goal.invariant-loop-i
invariant-loop-i l = Noting l.initial.work l.fn.from l.work l.i
