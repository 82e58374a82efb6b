use Prim.Native.Nat.{◌≤◌}
use mathlib.Core.Path.{◌≡◌}
use Rattle.components.specs.Walk.{Settled, codes_of, retabled, walking}
use Rattle.components.proofs.tables.Walk.settle.Given as goal

abbrev pub invariant-loop-p : goal.invariant-loop-p
invariant-loop-p l =
    record {
      from : l.from ≤ l.p;
      to : l.p ≤ l.initial.self.top;
      same : l.self.tables.ghost_name ≡ l.initial.self.tables.ghost_name;
      retabled : walking l.self ≡ retabled (walking l.initial.self) l.self.tables.now;
      settled : Settled l.initial.self.n (codes_of l.side l.initial.self.n l.initial.self.tables.now) l.from l.p l.rank l.initial.self.tables.now l.self.tables.now;
    }
