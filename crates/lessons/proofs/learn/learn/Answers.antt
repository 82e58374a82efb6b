-- `learn` meets its contract.
use mathlib.Core.Path.{◌∙◌}
use Rattle.meaning.proofs.CodeLaws.{opposite_below}
use Rattle.lessons.proofs.Lessons.{learns}
use Rattle.lessons.proofs.learn.learn.Goals as goal

pub share-requires-clause-b_bound : goal.share-requires-clause-b_bound
share-requires-clause-b_bound c = let lo = opposite_below c.args.work.now.n c.args.b.0 c.requires.b_bound.0 in
    rw (c.shadow.ensures.same.choices, c.opposite.ensures) (lo, c.shadow.ensures.shadowed.still.marks _ lo ∙ c.requires.b_bound.2)

pub returns : goal.returns
returns c = learns c.requires.notes c.shadow.ensures (rw c.opposite.ensures at c.share.ensures) c.unshade.ensures
