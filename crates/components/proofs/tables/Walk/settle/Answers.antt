-- `settle` meets its contract. The invariant: the codes passed have the rank.
use Prim.Native.Nat.{ℕ, ◌*◌, ◌<◌}
use mathlib.Core.Path.{◌≡◌, ap, ◌∙◌}
use native.Mathlib.Omega.{arith}
use lib.ListN.{set}
use Rattle.components.specs.Walk.{Walking, turned, codes_of, walking}
use Rattle.moves.specs.Layout.{mark_at, trail}
use Rattle.components.proofs.Looking.{settle_more, turned_below, retabled_more}
use Rattle.components.proofs.tables.Walk.settle.Goals as goal

pub set_rank-requires : goal.set_rank-requires
set_rank-requires c = let n_is : c.loop-p.self.n ≡ c.args.self.now.n = ap (λ (w : Walking). w.n) c.loop-p.invariant.retabled in
    let same : c.of-x.result.0 ≡ codes_of c.args.side c.args.self.now.n c.args.self.now.tables.now c.loop-p.p = c.of-x.ensures ∙ ap (turned c.args.side)
    (c.stacked.ensures ∙ ap (λ (n : ℕ). trail n c.loop-p.self.tables.now c.loop-p.p) n_is ∙ c.loop-p.invariant.settled.beyond.trails c.loop-p.p) in
    let code : c.of-x.result.0 < 2 * c.args.self.now.n = omega (arith, same, turned_below c.args.side c.args.self.now.n (trail c.args.self.now.n c.args.self.now.tables.now c.loop-p.p) (c.requires.2.codes c.loop-p.p (omega (arith, c.top-p-end.ensures.top)))) in
    omega (arith, n_is, code, c.settled_rank-rank.ensures.1)

pub loop-p-preserved : goal.loop-p-preserved
loop-p-preserved c = let n_is : c.loop-p.self.n ≡ c.args.self.now.n = ap (λ (w : Walking). w.n) c.loop-p.invariant.retabled in
    let same : c.of-x.result.0 ≡ codes_of c.args.side c.args.self.now.n c.args.self.now.tables.now c.loop-p.p = c.of-x.ensures ∙ ap (turned c.args.side)
    (c.stacked.ensures ∙ ap (λ (n : ℕ). trail n c.loop-p.self.tables.now c.loop-p.p) n_is ∙ c.loop-p.invariant.settled.beyond.trails c.loop-p.p) in
    let code : c.of-x.result.0 < 2 * c.args.self.now.n = omega (arith, same, turned_below c.args.side c.args.self.now.n (trail c.args.self.now.n c.args.self.now.tables.now c.loop-p.p) (c.requires.2.codes c.loop-p.p (omega (arith, c.top-p-end.ensures.top)))) in
    let stored : c.set_rank.new.self.tables.now ≡ set c.loop-p.self.tables.now (mark_at c.args.self.now.n c.of-x.result.0) c.settled_rank-rank.result =
    ap (λ (w : Walking). w.tables) c.set_rank.ensures.reranked ∙ ap (λ (n : ℕ). set c.loop-p.self.tables.now (mark_at n c.of-x.result.0) c.settled_rank-rank.result) n_is in
    record {
      from = omega arith;
      to = omega (arith, c.top-p-end.ensures.top);
      same = c.set_rank.ensures.same ∙ c.loop-p.invariant.same;
      retabled = retabled_more (walking c.args.self.now) c.loop-p.invariant.retabled c.set_rank.ensures.reranked;
      settled = settle_more c.top-p-end.ensures.room.1 c.loop-p.invariant.from code same stored c.loop-p.invariant.settled;
    }
