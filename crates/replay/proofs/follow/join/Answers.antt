-- `join` meets its contract: c or its opposite is in the set already, or c is tried.
use Prim.Native.Nat.{◌<◌}
use native.Mathlib.Omega.{arith}
use Rattle.moves.specs.Layout.{mark}
use Rattle.meaning.proofs.CodeLaws.{opposite_below}
use Rattle.replay.proofs.Passing.{joins_has, joins_barred}
use Rattle.replay.proofs.follow.join.Goals as goal

pub returns-then-mark-ne0 : goal.returns-then-mark-ne0
returns-then-mark-ne0 c = joins_has c.mark.ensures.sound c.requires.holding.0 c.requires.holding.1 (omega (arith, c.mark.ensures.is, c.if-mark-ne0.true))

pub mark-requires-2 : goal.mark-requires-2
mark-requires-2 c = omega (arith, c.opposite.ensures, opposite_below c.args.work.now.n c.args.c.0 c.requires.holding.1)

pub returns-then-mark-ne0-2 : goal.returns-then-mark-ne0-2
returns-then-mark-ne0-2 c = let p : 0 < mark c.args.work.now.n c.args.work.now.words c.opposite.result.0 = omega (arith, c.mark-2.ensures.is, c.if-mark-ne0-2.true) in
    joins_barred c.mark.ensures.sound c.requires.holding.0 (opposite_below c.args.work.now.n c.args.c.0 c.requires.holding.1) (rw c.opposite.ensures at p)
