use lib.ListN.{length}
use Rattle.moves.proofs.Steps.{other_end_below}
use Rattle.moves.proofs.work.Work.across.Goals as goal

pub code_at-requires : goal.code_at-requires
code_at-requires c = rw (c.other_end.ensures) (other_end_below c.args.end (length c.self.inside.rules.now) c.self.invariant.ready.sizes.even (rw (← c.self.view_is) at c.requires))
