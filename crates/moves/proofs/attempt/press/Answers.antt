-- `press` meets its contract. The invariant: the places of the trail up to h are visited, and the set is consistent.
use native.Mathlib.Omega.{arith}
use Rattle.std.proofs.lemmas.Result.{err_from_is_err_and}
use Rattle.moves.proofs.Places.{tables, tables_apart, apart_refl, ready_apart}
use Rattle.moves.proofs.Trails.{trail_few}
use Rattle.moves.proofs.Pressing.{pressed_on, press_turn, press_stop, press_done}
use Rattle.moves.proofs.attempt.press.Goals as goal

pub touch-t-requires : goal.touch-t-requires
touch-t-requires c = (c.requires.source_bound.0, tables c.requires.ready.sizes, c.requires.holding.listed)

pub loop-h-init : goal.loop-h-init
loop-h-init c = record { apart = apart_refl _ _; walk = λ src E s b. b }

pub trail_code-a-requires : goal.trail_code-a-requires
trail_code-a-requires c = let begun = pressed_on (tables c.requires.ready.sizes) c.requires.holding c.requires.source_bound c.touch-t.ensures c.loop-h.invariant in
    (omega (arith, trail_few begun.1.onto.listed), tables_apart c.requires.ready.sizes begun.0)

pub pull-requires-clause-ready : goal.pull-requires-clause-ready
pull-requires-clause-ready c = let begun = pressed_on (tables c.requires.ready.sizes) c.requires.holding c.requires.source_bound c.touch-t.ensures c.loop-h.invariant in
    ready_apart c.requires.ready begun.0

pub pull-requires-clause-a_bound : goal.pull-requires-clause-a_bound
pull-requires-clause-a_bound c = let begun = pressed_on (tables c.requires.ready.sizes) c.requires.holding c.requires.source_bound c.touch-t.ensures c.loop-h.invariant in
    (omega (arith, c.trail_code-a.ensures, (begun.1.onto.listed.inside c.loop-h.h c.loop-h-test.true).0), begun.1.onto.listed)

pub returns-in_err-t : goal.returns-in_err-t
returns-in_err-t c = let begun = pressed_on (tables c.requires.ready.sizes) c.requires.holding c.requires.source_bound c.touch-t.ensures c.loop-h.invariant in
    let p = err_from_is_err_and c.from_residual.result c.from_residual.ensures.1 in
    rw (p.1, p.2) (press_stop c.requires.ready.sizes begun.0 begun.1 c.loop-h-test.true c.trail_code-a.ensures c.in_err-t.ensures)

pub overflow_add-h : goal.overflow_add-h
overflow_add-h c = let begun = pressed_on (tables c.requires.ready.sizes) c.requires.holding c.requires.source_bound c.touch-t.ensures c.loop-h.invariant in
    omega (arith, c.requires.ready.sizes.few, trail_few begun.1.onto.listed)

pub loop-h-smaller : goal.loop-h-smaller
loop-h-smaller c = let begun = pressed_on (tables c.requires.ready.sizes) c.requires.holding c.requires.source_bound c.touch-t.ensures c.loop-h.invariant in
    omega (arith, trail_few begun.1.onto.listed)

pub loop-h-preserved : goal.loop-h-preserved
loop-h-preserved c = press_turn c.requires.ready.sizes c.loop-h.invariant c.loop-h-test.true c.trail_code-a.ensures c.in_ok-t.ensures

pub shape_of-work : goal.shape_of-work
shape_of-work c = let begun = pressed_on (tables c.requires.ready.sizes) c.requires.holding c.requires.source_bound c.touch-t.ensures c.loop-h.invariant in
    begun.0.long

pub returns : goal.returns
returns c = let begun = pressed_on (tables c.requires.ready.sizes) c.requires.holding c.requires.source_bound c.touch-t.ensures c.loop-h.invariant in
    press_done c.requires.ready.sizes c.requires.holding begun.0 begun.1 (omega arith)
