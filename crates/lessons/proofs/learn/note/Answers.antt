-- `note` meets its contract. The invariant: the codes of the trail from `from` to i are flagged.
use native.Mathlib.Omega.{arith}
use Rattle.lessons.proofs.Lessons.{noting_turn}
use Rattle.lessons.proofs.learn.note.Goals as goal

pub loop-i-preserved : goal.loop-i-preserved
loop-i-preserved c = noting_turn c.loop-i.invariant c.loop-i.auto.i (omega (arith, c.tail-i-end.ensures.is)) c.trail-x.ensures c.flag.ensures
