-- `new` meets its contract.
use Rattle.moves.proofs.Moving.{begun}
use Rattle.moves.proofs.work.Work.new.Goals as goal

pub resume-requires : goal.resume-requires
resume-requires c = (begun c.args.words.ghost_name _ _ _ c.prepare.ensures.fresh).sound
