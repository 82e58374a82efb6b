-- `highest` meets its contract: of the words that were passed, it holds the highest.
use mathlib.Core.Path.{refl, ◌∙◌}
use native.Mathlib.Omega.{arith}
use Rattle.checks.proofs.Finding.{max_is, finding_start, finding_turn, finding_end}
use Rattle.checks.proofs.accept.highest.Goals as goal

pub loop-word-init : goal.loop-word-init
loop-word-init c = finding_start _

pub loop-word-preserved : goal.loop-word-preserved
loop-word-preserved c = finding_turn _ _ _ _ _ c.loop-word.invariant refl (c.max-top.ensures ∙ max_is _ _)

pub returns : goal.returns
returns c = finding_end _ _ _ (omega arith) c.loop-word.invariant
