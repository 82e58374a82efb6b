-- `touch` meets its contract.
use mathlib.Core.Path.{sym, ◌∙◌}
use native.Mathlib.Omega.{arith}
use Rattle.moves.proofs.Trails.{trail_room}
use Rattle.moves.proofs.spread.touch.Goals as goal

pub set_trail-requires : goal.set_trail-requires
set_trail-requires c = (trail_room c.requires.2 c.requires.0 (sym c.mark_of.ensures ∙ c.if-mark_of-ne0.false), omega arith)

pub overflow_add-result : goal.overflow_add-result
overflow_add-result c = omega (arith, trail_room c.requires.2 c.requires.0 (sym c.mark_of.ensures ∙ c.if-mark_of-ne0.false))
