-- `ask` meets its contract: something is noted already, or a round that starts with the code notes something.
use Rattle.rounds.proofs.Sweeping.{finds_out}
use Rattle.rounds.proofs.round.ask.Goals as goal

pub returns : goal.returns
returns c = finds_out c.requires.state c.requires.empty c.requires.c_bound c.consider.ensures c.round.ensures
