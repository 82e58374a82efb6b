-- `search` meets its contract. The invariant: the choices from `from` to v are settled.
use native.Mathlib.Omega.{arith}
use Rattle.std.proofs.lemmas.Result.{err_from_is_err_and}
use Rattle.search.proofs.Settling.{going_turn, going_stop, going_done}
use Rattle.search.proofs.first.search.Goals as goal

pub returns-in_err-settle : goal.returns-in_err-settle
returns-in_err-settle c = let p = err_from_is_err_and c.from_residual.result c.from_residual.ensures.1 in
    rw (p.1, p.2) (going_stop c.loop-v.invariant (omega (arith, c.choices-n.ensures.is)) c.in_err-settle.ensures)

pub loop-v-preserved : goal.loop-v-preserved
loop-v-preserved c = going_turn c.loop-v.invariant c.in_ok-settle.ensures

pub returns : goal.returns
returns c = going_done c.loop-v.invariant (omega (arith, c.choices-n.ensures.is, c.requires.from_le_n, c.loop-v-test.false, c.loop-v.auto.v-end))
