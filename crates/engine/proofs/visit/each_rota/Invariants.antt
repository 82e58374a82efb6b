-- The loop of `each_rota`: the next rota stands in the area, and its number grows.
use Rattle.std.proofs.Common.{◌-◌, ◌^◌, take}
use denote.Param.Always.{always_mut}
use Rattle.std.specs.Fn.{CalledAt}
use Rattle.meaning.proofs.Counting.{number}
use Rattle.engine.proofs.Visiting.{Visiting}
use Rattle.engine.proofs.visit.each_rota.Given as goal

abbrev pub invariant-loop-stop : goal.invariant-loop-stop
invariant-loop-stop g l =
    always_mut g.F.FnMut l.visit
    × Visiting l.n l.words (CalledAt g.F.FnMut) l.fn.rota l.fn.work l.fn.visit l.rota l.work l.visit

abbrev pub decreases-loop-stop : goal.decreases-loop-stop
decreases-loop-stop g l = 2 ^ l.n - number (take l.n l.rota)
