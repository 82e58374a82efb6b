-- `chain_lent` meets its contract: where no code has a mark, the empty trail holds the marked codes.
use Prim.Native.Nat.{◌*◌}
use Rattle.moves.specs.Layout.{mark, trail}
use Rattle.moves.proofs.Trails.{trail_none}
use Rattle.lent.proofs.chain_lent.Goals as goal

pub resume-state-requires : goal.resume-state-requires
resume-state-requires c = record {
  ready = c.requires.ready;
  listed = trail_none (2 * c.args.n) (mark c.args.n c.args.words.now) (trail c.args.n c.args.words.now) c.requires.unmarked;
}
