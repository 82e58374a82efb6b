-- `flag` meets its contract.
use native.Mathlib.Omega.{arith}
use Rattle.meaning.proofs.CodeLaws.{opposite_below}
use Rattle.lessons.proofs.learn.flag.Goals as goal

pub spare-s-requires : goal.spare-s-requires
spare-s-requires c = omega (arith, c.opposite-o.ensures, opposite_below c.args.work.now.n c.args.x.0 c.requires)

pub set_spare-requires : goal.set_spare-requires
set_spare-requires c = omega (arith, c.opposite-o.ensures, opposite_below c.args.work.now.n c.args.x.0 c.requires)
