use Rattle.chains.proofs.Tracing.{Tracing}
use Rattle.chains.proofs.trace.trace.Given as goal

abbrev pub invariant-loop-i : goal.invariant-loop-i
invariant-loop-i l = Tracing l.work.n l.work.rules l.work.words l.fn.c.0 l.len l.initial.item-items l.item-items l.a.0 l.i
