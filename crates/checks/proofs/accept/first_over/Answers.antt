-- `first_over` meets its contract: every word that was passed is below the limit.
use mathlib.Core.Path.{sym}
use Rattle.std.proofs.Common.{arith, length}
use Rattle.meaning.proofs.RefusalLaws.{first_over_lem}
use Rattle.checks.proofs.accept.first_over.Goals as goal

pub returns-then-limit-from : goal.returns-then-limit-from
returns-then-limit-from c = sym (first_over_lem _ _ c.loop-i.i (omega arith) c.loop-i.invariant (λ h. omega arith))

pub returns : goal.returns
returns c = sym (first_over_lem _ _ (length c.args.words.now) (omega arith) (λ j h. c.loop-i.invariant j (omega arith)) (λ h. absurd (omega arith)))
