use Rattle.components.proofs.Answers.{TwoMarks}
use Rattle.components.proofs.ties.Ranks.some_clash.Given as goal

abbrev pub invariant-loop-v : goal.invariant-loop-v
invariant-loop-v l = TwoMarks l.self.n l.self.tables l.v
