-- `search` meets its contract. The invariant: the state of the walk, with root met.
use Rattle.components.specs.Walk.{Alike, walking}
use Rattle.components.proofs.Sweeping.{Searching, search_begin}
use Rattle.components.proofs.tables.Walk.search.Goals as goal

pub loop-self-init : goal.loop-self-init
loop-self-init c = let r = c.requires.running in
    let begun : Alike (walking c.args.self.now) (walking c.push.new.self) × Searching c.args.self.now.n c.args.self.now.words.now c.args.root.0 c.args.self.now.tables.now c.push.new.self.tables.now c.push.new.self.top c.push.new.self.depth =
    search_begin c.requires.linked.sizes (rw (r.0, r.1) at r.2) r.0 r.1 c.requires.root.0 c.requires.root.1 c.push.ensures.pushed in
    (c.push.ensures.same, begun.0, begun.1)
