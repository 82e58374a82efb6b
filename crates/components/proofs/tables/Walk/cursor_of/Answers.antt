-- `cursor_of` meets its contract.
use native.Mathlib.Omega.{arith}
use Rattle.meaning.proofs.CodeLaws.{opposite_below}
use Rattle.components.proofs.tables.Walk.cursor_of.Goals as goal

pub head_of-requires : goal.head_of-requires
head_of-requires c = omega (arith, c.opposite.ensures, opposite_below c.args.self.now.n c.args.a.0 c.requires)
