-- `spread` meets its contract. The invariant: the places of the trail up to h are visited.
use Prim.Native.Nat.{ℕ, ◌+◌}
use mathlib.Core.Path.{refl, ap}
use native.Mathlib.Omega.{arith}
use Rattle.moves.proofs.Places.{tables, tables_apart, apart_refl, ready_apart}
use Rattle.moves.proofs.Trails.{trail_few}
use Rattle.moves.proofs.Spreading.{walked_on, spread_turn, spread_done, walk_small}
use Rattle.moves.proofs.spread.spread.Goals as goal

pub touch-t-requires : goal.touch-t-requires
touch-t-requires c = (c.requires.source_bound.0, tables c.requires.ready.sizes, c.requires.listed.0)

pub loop-h-init : goal.loop-h-init
loop-h-init c = record { apart = apart_refl _ _; walk = λ src E s b. b }

pub trail_code-a-requires : goal.trail_code-a-requires
trail_code-a-requires c = let begun = walked_on (tables c.requires.ready.sizes) c.requires.source_bound c.requires.listed.0 c.touch-t.ensures c.loop-h.invariant in
    (omega (arith, trail_few begun.1.listed), tables_apart c.requires.ready.sizes begun.0)

pub mark_of-v-requires : goal.mark_of-v-requires
mark_of-v-requires c = let begun = walked_on (tables c.requires.ready.sizes) c.requires.source_bound c.requires.listed.0 c.touch-t.ensures c.loop-h.invariant in
    ((walk_small c.args.n c.loop-h.work begun.1 c.loop-h-test.true c.trail_code-a.ensures refl).0, tables_apart c.requires.ready.sizes begun.0)

pub overflow_add-v : goal.overflow_add-v
overflow_add-v c = let begun = walked_on (tables c.requires.ready.sizes) c.requires.source_bound c.requires.listed.0 c.touch-t.ensures c.loop-h.invariant in
    omega (arith, c.requires.ready.sizes.few, walk_small c.args.n c.loop-h.work begun.1 c.loop-h-test.true c.trail_code-a.ensures c.mark_of-v.ensures)

pub visit-t-requires : goal.visit-t-requires
visit-t-requires c = let begun = walked_on (tables c.requires.ready.sizes) c.requires.source_bound c.requires.listed.0 c.touch-t.ensures c.loop-h.invariant in
    record { ready = ready_apart c.requires.ready begun.0; a_bound = ((walk_small c.args.n c.loop-h.work begun.1 c.loop-h-test.true c.trail_code-a.ensures refl).0, omega arith, begun.1.listed) }

pub overflow_add-h : goal.overflow_add-h
overflow_add-h c = let begun = walked_on (tables c.requires.ready.sizes) c.requires.source_bound c.requires.listed.0 c.touch-t.ensures c.loop-h.invariant in
    omega (arith, c.requires.ready.sizes.few, trail_few begun.1.listed)

pub loop-h-smaller : goal.loop-h-smaller
loop-h-smaller c = let begun = walked_on (tables c.requires.ready.sizes) c.requires.source_bound c.requires.listed.0 c.touch-t.ensures c.loop-h.invariant in
    omega (arith, trail_few begun.1.listed)

pub loop-h-preserved : goal.loop-h-preserved
loop-h-preserved c = spread_turn c.requires.ready.sizes c.loop-h.invariant c.loop-h-test.true c.trail_code-a.ensures (ap (λ (x : ℕ). x + 1) c.mark_of-v.ensures) c.visit-t.ensures

pub shape_of-work : goal.shape_of-work
shape_of-work c = let begun = walked_on (tables c.requires.ready.sizes) c.requires.source_bound c.requires.listed.0 c.touch-t.ensures c.loop-h.invariant in
    begun.0.long

pub returns : goal.returns
returns c = let begun = walked_on (tables c.requires.ready.sizes) c.requires.source_bound c.requires.listed.0 c.touch-t.ensures c.loop-h.invariant in
    spread_done c.requires.ready.sizes c.requires.listed.1 begun.0 begun.1 (omega arith)
