use Prim.Native.Nat.{◌≤◌, ◌<◌}
use Rattle.components.specs.Walk.{Least}
use Rattle.moves.specs.Layout.{trail}
use Rattle.components.proofs.tables.Walk.least.Given as goal

abbrev pub invariant-loop-p : goal.invariant-loop-p
invariant-loop-p l = (l.from < l.p) × (l.p ≤ l.self.top) × Least (trail l.self.n l.self.tables.now) l.from l.p l.l.0
