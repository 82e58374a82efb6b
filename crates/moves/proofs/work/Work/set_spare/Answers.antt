use mathlib.Core.Path.{refl}
use Rattle.moves.proofs.Moving.{sound_spare}
use Rattle.moves.proofs.work.Work.set_spare.Goals as goal

pub invariant_of-self : goal.invariant_of-self
invariant_of-self c = rw (c.set_spare.ensures) (sound_spare c.args.x.0 c.args.v c.self.invariant (rw (← c.self.view_is) at c.requires))

pub returns : goal.returns
returns c = rw (← c.self.view_is) (record { same = record { lent = refl; choices = refl; list = refl; sound = invariant_of-self c }; words = c.set_spare.ensures; stays = refl })
