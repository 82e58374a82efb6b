-- `attempt` meets its contract.
use native.Mathlib.Omega.{arith}
use Rattle.moves.proofs.Places.{tables_apart}
use Rattle.moves.proofs.Trails.{trail_few}
use Rattle.moves.proofs.Trying.{tried_kept, tried_failed}
use Rattle.moves.proofs.attempt.attempt.Goals as goal

pub returns-in-Ok : goal.returns-in-Ok
returns-in-Ok c = let m = c.in-Ok.ensures in tried_kept c.requires.holding c.requires.c_bound m.0 m.1

pub undo-requires : goal.undo-requires
undo-requires c = let m = c.in-Err.ensures in
    (tables_apart c.requires.ready.sizes m.0.apart, omega (arith, m.0.onto.grows), m.0.onto.listed)

pub returns-in-Err : goal.returns-in-Err
returns-in-Err c = let m = c.in-Err.ensures in
    (tried_failed c.requires.holding c.requires.c_bound m.0 c.in-Err.stop.code.0 (m.1, m.2, m.3) c.undo.ensures, omega (arith, trail_few m.0.onto.listed))
