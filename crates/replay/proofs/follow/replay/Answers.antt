-- `replay` meets its contract. The invariant: the choices below i are replayed.
use mathlib.Core.Path.{◌≡◌}
use Prim.Native.Nat.{◌<◌}
use native.Mathlib.Omega.{arith}
use lib.ListN.{get_or, take, length-take}
use Rattle.meaning.specs.Codes.{late, code_of}
use Rattle.moves.proofs.Trails.{trail_few}
use Rattle.replay.proofs.Replaying.{rota_fits}
use Rattle.replay.proofs.Passing.{following_holds, following_turn, following_stop, following_done}
use Rattle.replay.proofs.follow.replay.Goals as goal

pub overflow_cast-tail : goal.overflow_cast-tail
overflow_cast-tail c = omega (arith, c.tail.ensures.is, trail_few c.loop-i.invariant.follows.stands.holding.listed, c.choices-n.ensures.sound.ready.sizes.few)

pub join-requires : goal.join-requires
join-requires c = let within : c.loop-i.i < c.args.work.now.n = omega (arith, c.loop-i-test.true, c.choices-n.ensures.is, length-take c.choices-n.result c.args.rota.now) in
    let late_code : c.of.result.0 ≡ late c.loop-i.i = omega (arith, c.of.ensures, within, c.choices-n.ensures.sound.ready.sizes.few) in
    let value_code : c.of-in-loop-i.result.0 ≡ code_of c.loop-i.i (get_or (take c.args.work.now.n c.args.rota.now) c.loop-i.i 0) =
    omega (arith, rw c.choices-n.ensures.is at c.of-in-loop-i.ensures, within, c.choices-n.ensures.sound.ready.sizes.few, c.requires.by_index.1.bits c.loop-i.i) in
    record { holding = (following_holds within c.loop-i.invariant late_code c.tail.ensures.is c.set_spare.ensures, omega (arith, value_code, within, c.set_spare.ensures.same.choices, c.loop-i.invariant.same.choices)) }

pub returns-then-not-join : goal.returns-then-not-join
returns-then-not-join c = let within : c.loop-i.i < c.args.work.now.n = omega (arith, c.loop-i-test.true, c.choices-n.ensures.is, length-take c.choices-n.result c.args.rota.now) in
    let late_code : c.of.result.0 ≡ late c.loop-i.i = omega (arith, c.of.ensures, within, c.choices-n.ensures.sound.ready.sizes.few) in
    let value_code : c.of-in-loop-i.result.0 ≡ code_of c.loop-i.i (get_or (take c.args.work.now.n c.args.rota.now) c.loop-i.i 0) =
    omega (arith, rw c.choices-n.ensures.is at c.of-in-loop-i.ensures, within, c.choices-n.ensures.sound.ready.sizes.few, c.requires.by_index.1.bits c.loop-i.i) in
    following_stop within c.loop-i.invariant late_code c.tail.ensures.is c.set_spare.ensures c.requires.by_index.1 value_code (rw c.if-not-join.true at c.join.ensures)

pub loop-i-preserved : goal.loop-i-preserved
loop-i-preserved c = let within : c.loop-i.i < c.args.work.now.n = omega (arith, c.loop-i-test.true, c.choices-n.ensures.is, length-take c.choices-n.result c.args.rota.now) in
    let late_code : c.of.result.0 ≡ late c.loop-i.i = omega (arith, c.of.ensures, within, c.choices-n.ensures.sound.ready.sizes.few) in
    let value_code : c.of-in-loop-i.result.0 ≡ code_of c.loop-i.i (get_or (take c.args.work.now.n c.args.rota.now) c.loop-i.i 0) =
    omega (arith, rw c.choices-n.ensures.is at c.of-in-loop-i.ensures, within, c.choices-n.ensures.sound.ready.sizes.few, c.requires.by_index.1.bits c.loop-i.i) in
    following_turn within c.loop-i.invariant late_code c.tail.ensures.is c.set_spare.ensures c.requires.by_index.1 value_code (rw c.if-not-join.false at c.join.ensures)

pub returns : goal.returns
returns c = rw c.choices-n.ensures.is (following_done (omega (arith, c.loop-i-test.false, c.choices-n.ensures.is, length-take c.choices-n.result c.args.rota.now, rota_fits _ _ c.requires.by_index.1)) c.loop-i.invariant)
