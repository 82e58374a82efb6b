-- `lift` meets its contract: the choice is late already, or its late code is tried.
use mathlib.Core.Path.{◌≡◌, sym, ap, ◌∙◌}
use Prim.Native.Nat.{ℕ}
use native.Mathlib.Omega.{arith}
use lib.ListN.{get_or, take}
use Rattle.meaning.specs.Codes.{late}
use Rattle.replay.proofs.Replaying.{rota_at}
use Rattle.replay.proofs.Passing.{lifts_by}
use Rattle.replay.proofs.retreat.lift.Goals as goal

pub returns : goal.returns
returns c = let late_code : c.of.result.0 ≡ late c.args.v.0 = omega (arith, c.of.ensures, c.requires.sound.ready.sizes.few, c.requires.rota.1) in
    let value : get_or (take c.args.work.now.n c.args.rota.now) c.args.v.0 0 ≡ get_or c.args.rota.now c.from.result 0 = rota_at _ _ c.requires.rota.0 c.args.v.0 c.requires.rota.1 ∙ ap (λ (k : ℕ). get_or c.args.rota.now k 0) (sym c.from.ensures) in
    lifts_by _ _ c.join.result c.requires.stands late_code c.requires.rota.1 (value ∙ c.if-rota-from-ne0.false) c.join.ensures
