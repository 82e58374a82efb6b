-- `note` meets its contract.
use native.Mathlib.Omega.{arith}
use Rattle.meaning.proofs.CodeLaws.{opposite_below}
use Rattle.components.proofs.tables.Walk.note.Goals as goal

pub set_head-requires : goal.set_head-requires
set_head-requires c = omega (arith, c.opposite.ensures, opposite_below c.args.self.now.n c.args.a.0 c.requires.0)
