use Prim.Native.Nat.{◌*◌, ◌-◌}
use Rattle.moves.proofs.Pressing.{Pressing}
use Rattle.moves.proofs.attempt.press.Given as goal

abbrev pub invariant-loop-h : goal.invariant-loop-h
invariant-loop-h l = Pressing l.n l.words l.initial.work l.initial.h l.initial.t l.work l.h l.t

abbrev pub decreases-loop-h : goal.decreases-loop-h
decreases-loop-h l = 2 * l.n - l.h
