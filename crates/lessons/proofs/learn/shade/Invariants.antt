use Rattle.lessons.proofs.Lessons.{Shading}
use Rattle.lessons.proofs.learn.shade.Given as goal

abbrev pub invariant-loop-i : goal.invariant-loop-i
invariant-loop-i l = Shading l.initial.work l.fn.from l.work l.i
