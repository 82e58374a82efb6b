-- `settle` meets its contract: one of the choice's codes is in the set already, or early is known to fail, or both are tried.
use mathlib.Core.Path.{◌≡◌, sym, ◌∙◌}
use Prim.Native.Nat.{◌<◌}
use native.Mathlib.Omega.{arith}
use Rattle.meaning.specs.Chains.{Reach}
use Rattle.meaning.specs.Codes.{late, early, opposite}
use Rattle.meaning.proofs.CodeLaws.{opposite_early}
use Rattle.moves.specs.Layout.{mark}
use Rattle.moves.proofs.Moving.{same_refl}
use Rattle.search.proofs.Searching.{settles_early, settles_late}
use Rattle.search.proofs.settle.settle.Goals as goal

pub returns-then-mark-ne0 : goal.returns-then-mark-ne0
returns-then-mark-ne0 c = let is_late : c.of.result.0 ≡ late c.args.v.0 = omega (arith, c.of.ensures, c.requires.state.ready.sizes.few, c.requires.v_lt_n) in
    let p : 0 < mark c.args.work.now.n c.args.work.now.words c.of.result.0 = omega (arith, c.mark.ensures.is, c.if-mark-ne0.true) in
    record { same = same_refl c.mark.ensures.sound; says = settles_late _ _ _ _ _ c.requires.state (record { is_code = omega (arith, c.requires.v_lt_n); is_marked = rw is_late at p }) }

pub returns-then-mark-ne0-2 : goal.returns-then-mark-ne0-2
returns-then-mark-ne0-2 c = let is_early : c.of-early.result.0 ≡ early c.args.v.0 = omega (arith, c.of-early.ensures, c.requires.state.ready.sizes.few, c.requires.v_lt_n) in
    let p : 0 < mark c.args.work.now.n c.args.work.now.words c.of-early.result.0 = omega (arith, c.mark-2.ensures.is, c.if-mark-ne0-2.true) in
    record { same = same_refl c.mark.ensures.sound; says = settles_early _ _ _ _ _ c.requires.state (record { is_code = omega (arith, c.requires.v_lt_n); is_marked = rw is_early at p }) }

pub turn_over-requires-clause-reach : goal.turn_over-requires-clause-reach
turn_over-requires-clause-reach c = let is_early : c.of-early.result.0 ≡ early c.args.v.0 = omega (arith, c.of-early.ensures, c.requires.state.ready.sizes.few, c.requires.v_lt_n) in
    let q : Reach c.args.work.now.rules c.of-early.result.0 (opposite c.of-early.result.0) =
    c.requires.state.known.turns _ (omega (arith, is_early, c.requires.v_lt_n)) (sym c.spare.ensures.is ∙ c.if-spare-eq-FAILS.true) in
    rw (is_early, opposite_early c.args.v.0) at q
