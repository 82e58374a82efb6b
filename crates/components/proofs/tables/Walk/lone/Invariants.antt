use Rattle.components.proofs.Looking.{Loning}
use Rattle.components.proofs.tables.Walk.lone.Given as goal

abbrev pub invariant-loop-p : goal.invariant-loop-p
invariant-loop-p l = Loning l.self.n l.from l.self.top l.self.tables.now l.l.0 l.p
