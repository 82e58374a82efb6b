use Prim.Native.Nat.{◌≤◌}
use Rattle.moves.specs.Walks.{Undone}
use Rattle.moves.proofs.spread.undo.Given as goal

abbrev pub invariant-loop-i : goal.invariant-loop-i
invariant-loop-i l = (l.to ≤ l.i) × Undone l.n l.i l.initial.work l.work
