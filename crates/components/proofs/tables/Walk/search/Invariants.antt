use mathlib.Core.Path.{◌≡◌}
use Rattle.components.specs.Walk.{Alike, turns_left, walking}
use Rattle.components.proofs.Sweeping.{Searching}
use Rattle.components.proofs.tables.Walk.search.Given as goal

abbrev pub invariant-loop-self : goal.invariant-loop-self
invariant-loop-self l = (l.self.tables.ghost_name ≡ l.fn.self.tables.ghost_name) × Alike (walking l.fn.self) (walking l.self) × Searching l.fn.self.n l.fn.self.words.now l.fn.root.0 l.fn.self.tables.now l.self.tables.now l.self.top l.self.depth

abbrev pub decreases-loop-self : goal.decreases-loop-self
decreases-loop-self l = turns_left l.self.n l.self.tables.now l.self.depth
