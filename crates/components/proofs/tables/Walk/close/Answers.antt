-- `close` meets its contract.
use Prim.Native.Nat.{◌+◌}
use native.Mathlib.Omega.{arith}
use mathlib.Core.Path.{◌≡◌, refl, ap}
use Rattle.components.specs.Walk.{Stacked, Lone, Walking, walking}
use Rattle.components.proofs.Looking.{lone_small, closed_both, retabled_more}
use Rattle.components.proofs.Storing.{stacked_beyond}
use Rattle.components.proofs.tables.Walk.close.Goals as goal

pub settle-requires-in-Some : goal.settle-requires-in-Some
settle-requires-in-Some c = let n_is : c.settle.new.self.n ≡ c.args.self.now.n = ap (λ (w : Walking). w.n) c.settle.ensures.retabled in
    let top_is : c.settle.new.self.top ≡ c.args.self.now.top = ap (λ (w : Walking). w.top) c.settle.ensures.retabled in
    let still : Stacked c.args.self.now.n c.settle.new.self.tables.now c.args.self.now.top = stacked_beyond c.requires.1 c.settle.ensures.settled.beyond in
    let facing : Lone c.args.self.now.n c.args.from c.args.self.now.top c.settle.new.self.tables.now (c.in-Some.m.0 + 1) = rw (n_is, top_is) at c.in-Some.ensures in
    rw (n_is, top_is) (omega arith, omega (arith, lone_small still facing (omega arith)), still)

pub returns-in-Some-clause-closes : goal.returns-in-Some-clause-closes
returns-in-Some-clause-closes c = let n_is : c.settle.new.self.n ≡ c.args.self.now.n = ap (λ (w : Walking). w.n) c.settle.ensures.retabled in
    let top_is : c.settle.new.self.top ≡ c.args.self.now.top = ap (λ (w : Walking). w.top) c.settle.ensures.retabled in
    let facing : Lone c.args.self.now.n c.args.from c.args.self.now.top c.settle.new.self.tables.now (c.in-Some.m.0 + 1) = rw (n_is, top_is) at c.in-Some.ensures in
    record {
      retabled = retabled_more (walking c.args.self.now) c.settle.ensures.retabled c.settle-in-Some.ensures.retabled;
      closed = closed_both c.in-Some.m.0 c.least-l.ensures refl c.settle.ensures.settled facing refl (rw (n_is, top_is) at c.settle-in-Some.ensures.settled);
    }
