-- `some_clash` meets its contract. The invariant: the codes of the choices passed have two marks.
use mathlib.Core.Path.{◌≡◌, sym, ap, ◌∙◌}
use native.Mathlib.Omega.{arith}
use Rattle.meaning.specs.Codes.{late, early, opposite}
use Rattle.moves.specs.Layout.{mark}
use Rattle.components.specs.Leads.{Marked}
use Rattle.components.proofs.Answers.{marks_more, clash_found, clash_none}
use Rattle.meaning.proofs.CodeLaws.{opposite_late}
use Rattle.components.proofs.ties.Ranks.some_clash.Goals as goal

pub mark-requires-in-loop-v : goal.mark-requires-in-loop-v
mark-requires-in-loop-v c = let n_is : c.self.inside.n ≡ c.args.self.now.n = ap (λ (m : Marked). m.n) c.self.view_is in
    let named : c.of-late.result.0 ≡ late c.loop-v.v = omega (arith, c.of-late.ensures, c.self.invariant.0) in
    let facing : c.opposite.result.0 ≡ early c.loop-v.v = c.opposite.ensures ∙ ap opposite named ∙ opposite_late c.loop-v.v in
    omega (arith, facing, n_is)

pub returns-then-mark : goal.returns-then-mark
returns-then-mark c = let n_is : c.self.inside.n ≡ c.args.self.now.n = ap (λ (m : Marked). m.n) c.self.view_is in
    let named : c.of-late.result.0 ≡ late c.loop-v.v = omega (arith, c.of-late.ensures, c.self.invariant.0) in
    let first : c.mark.result ≡ mark c.args.self.now.n c.args.self.now.tables (late c.loop-v.v) = c.mark.ensures ∙ ap (mark c.args.self.now.n c.args.self.now.tables) named in
    let facing : c.opposite.result.0 ≡ early c.loop-v.v = c.opposite.ensures ∙ ap opposite named ∙ opposite_late c.loop-v.v in
    let second : c.mark-in-loop-v.result ≡ mark c.args.self.now.n c.args.self.now.tables (early c.loop-v.v) = c.mark-in-loop-v.ensures ∙ ap (mark c.args.self.now.n c.args.self.now.tables) facing in
    clash_found (omega (arith, n_is, c.loop-v-test.true)) (sym first ∙ c.if-mark.true ∙ second)

pub loop-v-preserved : goal.loop-v-preserved
loop-v-preserved c = let n_is : c.self.inside.n ≡ c.args.self.now.n = ap (λ (m : Marked). m.n) c.self.view_is in
    let named : c.of-late.result.0 ≡ late c.loop-v.v = omega (arith, c.of-late.ensures, c.self.invariant.0) in
    let first : c.mark.result ≡ mark c.args.self.now.n c.args.self.now.tables (late c.loop-v.v) = c.mark.ensures ∙ ap (mark c.args.self.now.n c.args.self.now.tables) named in
    let facing : c.opposite.result.0 ≡ early c.loop-v.v = c.opposite.ensures ∙ ap opposite named ∙ opposite_late c.loop-v.v in
    let second : c.mark-in-loop-v.result ≡ mark c.args.self.now.n c.args.self.now.tables (early c.loop-v.v) = c.mark-in-loop-v.ensures ∙ ap (mark c.args.self.now.n c.args.self.now.tables) facing in
    marks_more (omega (arith, n_is, c.loop-v-test.true)) c.loop-v.invariant (λ e. c.if-mark.false (first ∙ e ∙ sym second))

pub returns : goal.returns
returns c = let n_is : c.self.inside.n ≡ c.args.self.now.n = ap (λ (m : Marked). m.n) c.self.view_is in
    clash_none (omega (arith, n_is, c.loop-v-test.false)) c.loop-v.invariant
