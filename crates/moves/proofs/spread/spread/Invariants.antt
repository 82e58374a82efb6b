use Prim.Native.Nat.{◌*◌, ◌-◌}
use Rattle.moves.proofs.Spreading.{Spreading}
use Rattle.moves.proofs.spread.spread.Given as goal

abbrev pub invariant-loop-h : goal.invariant-loop-h
invariant-loop-h l = Spreading l.n l.words l.initial.work l.initial.h l.initial.t l.work l.h l.t

abbrev pub decreases-loop-h : goal.decreases-loop-h
decreases-loop-h l = 2 * l.n - l.h
