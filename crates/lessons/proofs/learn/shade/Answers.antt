-- `shade` meets its contract. The invariant: the codes of the trail from `from` to i are shaded.
use native.Mathlib.Omega.{arith}
use Rattle.lessons.proofs.Lessons.{shading_turn}
use Rattle.lessons.proofs.learn.shade.Goals as goal

pub loop-i-preserved : goal.loop-i-preserved
loop-i-preserved c = shading_turn c.loop-i.invariant c.loop-i.auto.i (omega (arith, c.tail-i-end.ensures.is)) c.trail-x.ensures c.spare-s.ensures.is c.set_spare.ensures
