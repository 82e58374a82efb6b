use Rattle.std.proofs.Common.{ℕ, ◌<◌, get_or}
use Rattle.checks.proofs.accept.first_over.Given as goal

abbrev pub invariant-loop-i : goal.invariant-loop-i
invariant-loop-i l = (j : ℕ) → j < l.i → get_or l.words j 0 < l.limit
