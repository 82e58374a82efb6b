-- `spread` meets its contract.
use Rattle.moves.proofs.Moving.{sound_apart, spreads}
use Rattle.moves.proofs.work.Work.spread.Goals as goal

pub spread-self-inside-requires : goal.spread-self-inside-requires
spread-self-inside-requires c =
    let l = rw (← c.self.view_is) at c.requires.source_bound in
    let k = rw (← c.self.view_is) at c.requires.closed in
    record { ready = c.self.invariant.ready; source_bound = l; listed = (c.self.invariant.listed, k) }

pub invariant_of-self : goal.invariant_of-self
invariant_of-self c = sound_apart c.self.invariant c.spread-self-inside.ensures.apart c.spread-self-inside.ensures.listed

pub returns : goal.returns
returns c = rw (← c.self.view_is) (spreads c.self.invariant c.spread-self-inside.ensures)
