-- `try_both` meets its contract: early is kept, or it fails and late is tried.
use mathlib.Core.Path.{◌≡◌}
use native.Mathlib.Omega.{arith}
use Rattle.std.proofs.lemmas.Result.{err_from_is_err_and}
use Rattle.meaning.specs.Codes.{early}
use Rattle.meaning.proofs.CodeLaws.{opposite_early}
use Rattle.search.proofs.Settling.{failed_stands, failed_out, failed_leads, settled_early, settled_neither, settled_over}
use Rattle.search.proofs.settle.try_both.Goals as goal

pub attempt-requires-clause-c_bound : goal.attempt-requires-clause-c_bound
attempt-requires-clause-c_bound c = let is_early : c.of-first.result.0 ≡ early c.args.v.0 = omega (arith, c.of-first.ensures, c.requires.state.ready.sizes.few, c.requires.v_lt_n.0) in
    rw is_early (omega (arith, c.requires.v_lt_n.0), c.requires.v_lt_n.2, rw (opposite_early c.args.v.0) c.requires.v_lt_n.1)

pub returns-in_default : goal.returns-in_default
returns-in_default c = let is_early : c.of-first.result.0 ≡ early c.args.v.0 = omega (arith, c.of-first.ensures, c.requires.state.ready.sizes.few, c.requires.v_lt_n.0) in
    settled_early c.requires.state c.requires.v_lt_n (rw (c.in_default.is, is_early) at c.attempt.ensures)

pub turn_over-requires : goal.turn_over-requires
turn_over-requires c = let is_early : c.of-first.result.0 ≡ early c.args.v.0 = omega (arith, c.of-first.ensures, c.requires.state.ready.sizes.few, c.requires.v_lt_n.0) in
    record {
      state = failed_stands c.requires.state c.in-Err.ensures;
      v_lt_n = failed_out c.requires.v_lt_n (rw is_early at c.in-Err.ensures);
      reach = failed_leads c.requires.v_lt_n (rw is_early at c.in-Err.ensures);
    }

pub returns-in_err-turn_over : goal.returns-in_err-turn_over
returns-in_err-turn_over c = let is_early : c.of-first.result.0 ≡ early c.args.v.0 = omega (arith, c.of-first.ensures, c.requires.state.ready.sizes.few, c.requires.v_lt_n.0) in
    let p = err_from_is_err_and c.from_residual.result c.from_residual.ensures.1 in
    rw (p.1, p.2) (settled_neither c.requires.v_lt_n (rw is_early at c.in-Err.ensures) c.in_err-turn_over.ensures)

pub returns : goal.returns
returns c = let is_early : c.of-first.result.0 ≡ early c.args.v.0 = omega (arith, c.of-first.ensures, c.requires.state.ready.sizes.few, c.requires.v_lt_n.0) in
    settled_over c.requires.v_lt_n (rw is_early at c.in-Err.ensures) c.in_ok-turn_over.ensures c.teach.ensures
