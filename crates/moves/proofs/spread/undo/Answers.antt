-- `undo` meets its contract. The invariant: the trail is taken back to i places.
use native.Mathlib.Omega.{arith}
use Rattle.moves.proofs.Trails.{trail_few}
use Rattle.moves.proofs.Spreading.{undo_turn}
use Rattle.moves.proofs.spread.undo.Goals as goal

pub trail_code-x-requires : goal.trail_code-x-requires
trail_code-x-requires c = omega (arith, trail_few c.loop-i.invariant.1.listed, c.loop-i.invariant.1.apart.long)

pub loop-i-preserved : goal.loop-i-preserved
loop-i-preserved c = (omega arith, undo_turn c.requires.0 (omega arith) c.loop-i.invariant.1 c.trail_code-x.ensures c.set_mark.ensures)
