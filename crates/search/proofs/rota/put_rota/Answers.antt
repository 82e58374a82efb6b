-- `put_rota` meets its contract. The invariant: the first v values are written.
use mathlib.Core.Path.{◌≡◌}
use native.Mathlib.Omega.{arith}
use lib.Seq.{length-take-le}
use Rattle.search.proofs.Writing.{written_front}
use Rattle.search.proofs.rota.put_rota.Goals as goal

pub returns : goal.returns
returns c = let n = length-take-le c.args.tables.n c.args.rota.now c.requires.1 in
    let e : c.loop-v.v ≡ c.args.tables.n = omega (arith, n, c.loop-v-test.false, c.loop-v.auto.v-end) in
    written_front _ _ _ _ c.requires.1 (rw e at c.loop-v.invariant)
