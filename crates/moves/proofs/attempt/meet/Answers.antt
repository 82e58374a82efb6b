-- `meet` meets its contract.
use mathlib.Core.Path.{◌≡◌, refl, sym, ap, ◌∙◌}
use native.Mathlib.Omega.{arith}
use Rattle.meaning.specs.Codes.{opposite}
use Rattle.meaning.proofs.CodeLaws.{opposite_below}
use Rattle.moves.specs.Layout.{mark}
use Rattle.moves.proofs.attempt.meet.Goals as goal

pub returns-then-mark_of-ne0 : goal.returns-then-mark_of-ne0
returns-then-mark_of-ne0 c = (record { old = λ p. (refl, refl); new = λ z. absurd (c.if-mark_of-ne0.true (c.mark_of.ensures ∙ z)) }, λ z. absurd (c.if-mark_of-ne0.true (c.mark_of.ensures ∙ z)))

pub mark_of-requires-2 : goal.mark_of-requires-2
mark_of-requires-2 c = (omega (arith, c.opposite-o.ensures, opposite_below c.args.n c.args.b.0 c.requires.0), c.requires.1)

pub returns-then-mark_of-ne0-2 : goal.returns-then-mark_of-ne0-2
returns-then-mark_of-ne0-2 c = let other : c.mark_of-2.result ≡ mark c.args.n c.args.work.now (opposite c.args.b.0) = c.mark_of-2.ensures ∙ ap (mark c.args.n c.args.work.now) c.opposite-o.ensures in
    (refl, refl, refl, omega (arith, other, c.if-mark_of-ne0-2.true))

pub returns : goal.returns
returns c = let other : c.mark_of-2.result ≡ mark c.args.n c.args.work.now (opposite c.args.b.0) = c.mark_of-2.ensures ∙ ap (mark c.args.n c.args.work.now) c.opposite-o.ensures in
    (c.touch.ensures, λ z. sym other ∙ c.if-mark_of-ne0-2.false)
