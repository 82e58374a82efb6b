-- `put_ties` meets its contract. The invariant: the ties of the choices passed are written.
use mathlib.Core.Path.{◌≡◌, ap}
use native.Mathlib.Omega.{arith}
use lib.ListN.{length, take}
use Rattle.std.proofs.lemmas.List.{length-take-le}
use Rattle.components.specs.Leads.{Marked}
use Rattle.components.proofs.Answers.{ties_put}
use Rattle.components.proofs.ties.Ranks.put_ties.Goals as goal

pub returns : goal.returns
returns c = let n_is : c.self.inside.n ≡ c.args.self.now.n = ap (λ (m : Marked). m.n) c.self.view_is in
    let whole : length (take c.self.inside.n c.args.area.now) ≡ c.self.inside.n = length-take-le c.self.inside.n c.args.area.now (omega (arith, n_is, c.requires.room)) in
    rw n_is (ties_put (omega (arith, whole, n_is, c.loop-v-test.false)) c.requires.room (rw n_is at c.loop-v.invariant.1))
