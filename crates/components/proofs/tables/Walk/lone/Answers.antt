-- `lone` meets its contract. The invariant: no opposite passed was met, and l is the smallest of them and the first.
use mathlib.Core.Path.{◌≡◌, ap, ◌∙◌}
use native.Mathlib.Omega.{arith}
use Rattle.components.specs.Walk.{opposites}
use Rattle.meaning.specs.Codes.{opposite}
use Rattle.moves.specs.Layout.{trail}
use Rattle.meaning.proofs.CodeLaws.{opposite_below}
use Rattle.components.proofs.tables.Walk.lone.Goals as goal

pub rank_of-requires : goal.rank_of-requires
rank_of-requires c = let same : c.opposite-y.result.0 ≡ opposites c.args.self.now.n c.args.self.now.tables.now c.loop-p.p = c.opposite-y.ensures ∙ ap opposite c.stacked-in-loop-p.ensures in
    omega (arith, same, opposite_below c.args.self.now.n (trail c.args.self.now.n c.args.self.now.tables.now c.loop-p.p) (c.requires.1.codes c.loop-p.p (omega (arith, c.top-p-end.ensures.top))))
