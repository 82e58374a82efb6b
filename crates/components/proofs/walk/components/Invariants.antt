use mathlib.Core.Path.{◌≡◌}
use Rattle.components.specs.Walk.{walking}
use Rattle.components.proofs.Sweeping.{Sweeps}
use Rattle.components.proofs.walk.components.Given as goal

abbrev pub invariant-loop-x : goal.invariant-loop-x
invariant-loop-x l =
    record {
      same : l.walk.tables.ghost_name ≡ l.initial.walk.tables.ghost_name;
      sweeps : Sweeps l.fn.n l.fn.words l.fn.work (walking l.walk) l.x;
    }
