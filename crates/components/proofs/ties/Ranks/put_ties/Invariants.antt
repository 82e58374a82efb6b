use Prim.Native.Nat.{◌≤◌}
use Rattle.components.proofs.Answers.{tie_of}
use Rattle.meaning.proofs.AreaLaws.{Written}
use Rattle.components.proofs.ties.Ranks.put_ties.Given as goal

abbrev pub invariant-loop-v : goal.invariant-loop-v
invariant-loop-v l = (l.v ≤ l.self.n) × Written l.v (tie_of l.self.n l.self.tables) l.initial.item-items l.item-items
