-- `check_codes` meets its contract. The invariant: the codes left decide as all of them do.
use Prim.Native.Nat.{◌+◌, ◌-◌}
use native.Mathlib.Omega.{arith}
use Rattle.std.proofs.lemmas.Result.{err_from_is_err_and}
use Rattle.book.proofs.CodesWays.{check_turn, check_refused}
use Rattle.book.proofs.number.Reader.check_codes.Goals as goal

pub returns-in_err-number_below : goal.returns-in_err-number_below
returns-in_err-number_below c =
    let p = err_from_is_err_and c.from_residual.result c.from_residual.ensures.1 in
    rw (p.1, p.2) (check_refused _ _ _ _ _ c.loop.invariant (c.args.count - (c.loop.counter + 1)) (omega (arith, c.loop-test.true)) _ c.number_below.new.self c.in_err-number_below.ensures)

pub loop-preserved : goal.loop-preserved
loop-preserved c = check_turn _ _ _ _ _ c.loop.invariant _ (omega (arith, c.loop-test.true)) _ c.number_below.new.self c.in_ok-number_below.ensures
