-- `each_rota` gives the visitor every rota: by the laws of Visiting.
use Rattle.std.proofs.Common.{of_calls}
use Rattle.std.proofs.lemmas.Fn.{called_at}
use Rattle.engine.proofs.Visiting.{start, not_refuses, shrinks, turn, done}
use Rattle.engine.proofs.visit.each_rota.Goals as goal

pub loop-stop-init : goal.loop-stop-init
loop-stop-init g c = (c.requires, start _ _ _ _ _ _ _ _ (rw c.in_default.is at c.in_ok-choice.ensures))

pub returns-in_err-next-clause-visits : goal.returns-in_err-next-clause-visits
returns-in_err-next-clause-visits g c = absurd (not_refuses _ _ _ _ _ _ _ _ _ c.loop-stop.invariant.1 _ _ _ c.in_err-next.ensures)

pub returns-in_err-next-clause-refused : goal.returns-in_err-next-clause-refused
returns-in_err-next-clause-refused g c = absurd (not_refuses _ _ _ _ _ _ _ _ _ c.loop-stop.invariant.1 _ _ _ c.in_err-next.ensures)

pub loop-stop-smaller : goal.loop-stop-smaller
loop-stop-smaller g c = shrinks _ _ _ _ _ _ _ _ _ c.loop-stop.invariant.1 _ _ (rw c.in-Moved.is at c.in_ok-next.ensures)

pub loop-stop-preserved : goal.loop-stop-preserved
loop-stop-preserved g c =
    (search of_calls, turn _ _ _ _ _ _ _ _ _ c.loop-stop.invariant.1 _ _ _ (called_at g.F.FnMut c.visit.ensures c.in_default-visit.is) (rw c.in-Moved.is at c.in_ok-next.ensures))

pub returns-in_default-2 : goal.returns-in_default-2
returns-in_default-2 g c =
    record {
      visits = done _ _ _ _ _ _ _ _ _ c.loop-stop.invariant.1 _ _ _ (called_at g.F.FnMut c.visit.ensures c.in_default-visit.is) _ c.in_default-2.not-Moved c.in_ok-next.ensures;
      refused = tt;
      again = search of_calls;
    }
