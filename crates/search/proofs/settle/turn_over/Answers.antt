-- `turn_over` meets its contract: late is kept, or both codes of the choice fail.
use mathlib.Core.Path.{◌≡◌, refl}
use native.Mathlib.Omega.{arith}
use Rattle.meaning.specs.Codes.{late}
use Rattle.meaning.proofs.CodeLaws.{opposite_late}
use Rattle.search.proofs.Settling.{settled_late, settled_stuck}
use Rattle.search.proofs.settle.turn_over.Goals as goal

pub attempt-tried-requires-clause-c_bound : goal.attempt-tried-requires-clause-c_bound
attempt-tried-requires-clause-c_bound c = let is_late : c.of.result.0 ≡ late c.args.v.0 = omega (arith, c.of.ensures, c.requires.state.ready.sizes.few, c.requires.v_lt_n.0) in
    rw is_late (omega (arith, c.requires.v_lt_n.0), c.requires.v_lt_n.1, rw (opposite_late c.args.v.0) c.requires.v_lt_n.2)

pub returns-in-Ok : goal.returns-in-Ok
returns-in-Ok c = let is_late : c.of.result.0 ≡ late c.args.v.0 = omega (arith, c.of.ensures, c.requires.state.ready.sizes.few, c.requires.v_lt_n.0) in
    settled_late c.requires.state c.requires.v_lt_n c.requires.reach (rw (c.in-Ok.is, is_late) at c.attempt-tried.ensures)

pub returns-in-Err : goal.returns-in-Err
returns-in-Err c = let is_late : c.of.result.0 ≡ late c.args.v.0 = omega (arith, c.of.ensures, c.requires.state.ready.sizes.few, c.requires.v_lt_n.0) in
    settled_stuck c.requires.reach (rw (c.in-Err.is, is_late) at c.attempt-tried.ensures) refl
