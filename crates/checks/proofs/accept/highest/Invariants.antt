use Rattle.checks.proofs.Finding.{Finding}
use Rattle.checks.proofs.accept.highest.Given as goal

abbrev pub invariant-loop-word : goal.invariant-loop-word
invariant-loop-word l = Finding l.words l.word-index l.top
