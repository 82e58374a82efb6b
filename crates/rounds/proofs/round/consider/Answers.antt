-- `consider` meets its contract: something is noted already, or the code is in the set, or its opposite is, or it is tried.
use native.Mathlib.Omega.{arith}
use Rattle.meaning.proofs.CodeLaws.{opposite_below}
use Rattle.rounds.proofs.Sweeping.{considers_held}
use Rattle.rounds.proofs.round.consider.Goals as goal

pub returns-then-mark-ne0 : goal.returns-then-mark-ne0
returns-then-mark-ne0 c = considers_held c.requires.state c.requires.c_bound (omega (arith, c.mark.ensures.is, c.if-mark-ne0.true)) c.set_spare.ensures

pub mark-requires-2 : goal.mark-requires-2
mark-requires-2 c = rw c.opposite.ensures (opposite_below _ _ c.requires.c_bound)
