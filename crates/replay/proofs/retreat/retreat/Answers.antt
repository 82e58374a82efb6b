-- `retreat` meets its contract. The invariant: no allowed rota that leaves the given one at choice v or later comes after it.
use mathlib.Core.Bool.{true, false}
use mathlib.Core.Path.{◌≡◌, refl, ap, ◌∙◌, subst}
use lib.ListN.{take}
use Prim.Native.Nat.{ℕ, ◌-◌}
use native.Mathlib.Omega.{arith}
use Rattle.meaning.specs.Codes.{late}
use Rattle.moves.specs.Layout.{spare}
use Rattle.replay.specs.Replay.{length_at, Lifts}
use Rattle.replay.proofs.Passing.{receding_stands, receding_turn, receding_found}
use Rattle.replay.proofs.retreat.retreat.Goals as goal

pub undo_to-requires : goal.undo_to-requires
undo_to-requires c = let late_code : c.of.result.0 ≡ late (c.loop-v.v - 1) = omega (arith, c.of.ensures, c.requires.sound.ready.sizes.few, c.loop-v.invariant.recedes.high) in
    let before : c.from.result ≡ length_at c.loop-v.work.n c.loop-v.work.words (c.loop-v.v - 1) = c.from.ensures ∙ c.spare-before.ensures.is ∙ ap (spare c.loop-v.work.n c.loop-v.work.words) late_code in
    let here : c.from.result ≡ length_at c.args.work.now.n c.loop-v.work.words (c.loop-v.v - 1) = rw c.loop-v.invariant.same.choices at before in
    omega (arith, here, c.loop-v.invariant.recedes.levels.last (c.loop-v.v - 1) (omega arith))

pub lift-requires : goal.lift-requires
lift-requires c = let late_code : c.of.result.0 ≡ late (c.loop-v.v - 1) = omega (arith, c.of.ensures, c.requires.sound.ready.sizes.few, c.loop-v.invariant.recedes.high) in
    let before : c.from.result ≡ length_at c.loop-v.work.n c.loop-v.work.words (c.loop-v.v - 1) = c.from.ensures ∙ c.spare-before.ensures.is ∙ ap (spare c.loop-v.work.n c.loop-v.work.words) late_code in
    let n_is : c.undo_to.new.self.n ≡ c.args.work.now.n = c.undo_to.ensures.same.choices ∙ c.loop-v.invariant.same.choices in
    record {
      sound = c.undo_to.ensures.same.sound;
      rota = rw n_is (c.requires.rota.0, omega (arith, c.loop-v.invariant.recedes.high));
      stands = rw n_is (rw n_is at (receding_stands (omega arith) c.loop-v.invariant before c.undo_to.ensures));
    }

pub returns-then-lift : goal.returns-then-lift
returns-then-lift c = let late_code : c.of.result.0 ≡ late (c.loop-v.v - 1) = omega (arith, c.of.ensures, c.requires.sound.ready.sizes.few, c.loop-v.invariant.recedes.high) in
    let before : c.from.result ≡ length_at c.loop-v.work.n c.loop-v.work.words (c.loop-v.v - 1) = c.from.ensures ∙ c.spare-before.ensures.is ∙ ap (spare c.loop-v.work.n c.loop-v.work.words) late_code in
    let n_is : c.undo_to.new.self.n ≡ c.args.work.now.n = c.undo_to.ensures.same.choices ∙ c.loop-v.invariant.same.choices in
    receding_found (omega arith) c.loop-v.invariant before c.undo_to.ensures refl (subst (λ (m : ℕ). Lifts c.undo_to.new.self (take m c.args.rota.now) (c.loop-v.v - 1) c.lift.new.work true) n_is (rw c.if-lift.true at c.lift.ensures))

pub loop-v-preserved : goal.loop-v-preserved
loop-v-preserved c = let late_code : c.of.result.0 ≡ late (c.loop-v.v - 1) = omega (arith, c.of.ensures, c.requires.sound.ready.sizes.few, c.loop-v.invariant.recedes.high) in
    let before : c.from.result ≡ length_at c.loop-v.work.n c.loop-v.work.words (c.loop-v.v - 1) = c.from.ensures ∙ c.spare-before.ensures.is ∙ ap (spare c.loop-v.work.n c.loop-v.work.words) late_code in
    let n_is : c.undo_to.new.self.n ≡ c.args.work.now.n = c.undo_to.ensures.same.choices ∙ c.loop-v.invariant.same.choices in
    receding_turn (omega arith) c.loop-v.invariant before c.undo_to.ensures refl (subst (λ (m : ℕ). Lifts c.undo_to.new.self (take m c.args.rota.now) (c.loop-v.v - 1) c.lift.new.work false) n_is (rw c.if-lift.false at c.lift.ensures))
