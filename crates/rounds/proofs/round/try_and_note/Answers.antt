-- `try_and_note` meets its contract: a trial that is kept shows the code possible, and one that fails that it leads to its opposite.
use Rattle.search.proofs.Settling.{failed_stands}
use Rattle.rounds.proofs.Sweeping.{considers_kept, failed_teaches}
use Rattle.rounds.proofs.round.try_and_note.Goals as goal

pub teach-requires : goal.teach-requires
teach-requires c = record { state = failed_stands c.requires.state c.in-Err.ensures; c_bound = failed_teaches c.requires.c_bound.0 c.in-Err.ensures }

pub returns-in-Ok : goal.returns-in-Ok
returns-in-Ok c = considers_kept c.requires.state c.requires.c_bound.0 c.in-Ok.ensures c.set_spare.ensures
