-- `find_next_lent` meets its contract: where no code has a mark, the empty trail holds the marked codes.
use Prim.Native.Nat.{◌*◌}
use Rattle.moves.specs.Layout.{mark, trail}
use Rattle.moves.proofs.Trails.{trail_none}
use Rattle.lent.proofs.find_next_lent.Goals as goal

pub resume-state-requires : goal.resume-state-requires
resume-state-requires c = record {
  ready = c.requires.ready;
  listed = trail_none (2 * c.args.n) (mark c.args.n c.args.words.now) (trail c.args.n c.args.words.now) c.requires.by_index.0;
}

pub returns-clause-says : goal.returns-clause-says
returns-clause-says c = rw (c.finish.ensures.words) (rw (c.resume-state.ensures) at c.find_next-answer.ensures.says)
