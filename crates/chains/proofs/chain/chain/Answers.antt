-- `chain` meets its contract: the walk's marks are the distances, and taking the walk back leaves none.
use Rattle.chains.specs.Traces.{Away}
use Rattle.chains.proofs.Distances.{away}
use Rattle.chains.proofs.chain.chain.Goals as goal

pub trace-length-requires : goal.trace-length-requires
trace-length-requires c = let s = c.spread.ensures.same in
    let far : Away c.args.work.now.n c.args.work.now.rules c.args.c.0 c.spread.new.self.words = away (rw (s.choices, s.list) at s.sound.ready.sizes) c.requires.unmarked c.requires.c_bound.0 c.spread.ensures.spread in
    rw (s.choices, s.list) (record { away = far; c_bound = (c.requires.c_bound.0, (far.least c.args.c.0 c.requires.c_bound.1.0 c.requires.c_bound.0 c.requires.c_bound.1.1).0, c.requires.c_bound.2) })
