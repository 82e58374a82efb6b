use native.Mathlib.Omega.{arith}
use Rattle.moves.proofs.Places.{tables}
use Rattle.moves.proofs.Trails.{trail_few}
use Rattle.moves.proofs.work.Work.trail.Goals as goal

pub trail_code-requires : goal.trail_code-requires
trail_code-requires c = (omega (arith, trail_few c.self.invariant.listed, rw (← c.self.view_is) at c.requires), tables c.self.invariant.ready.sizes)
