-- `trace` meets its contract. The invariant: what is written, with any nearing rest, is a nearing chain.
use Prim.Native.Nat.{◌≤◌, ◌<◌}
use mathlib.Core.Path.{◌≡◌, refl, ap, ◌∙◌}
use native.Mathlib.Omega.{arith}
use lib.ListN.{length, take}
use Rattle.std.proofs.lemmas.List.{length-take-le}
use Rattle.meaning.specs.Codes.{opposite}
use Rattle.moves.specs.Layout.{mark}
use Rattle.chains.proofs.Distances.{goes_on}
use Rattle.chains.proofs.Tracing.{trace_length, trace_turn, trace_done}
use Rattle.meaning.proofs.CodeLaws.{opposite_below}
use Rattle.chains.proofs.trace.trace.Goals as goal

pub mark-requires : goal.mark-requires
mark-requires c = omega (arith, c.opposite.ensures, opposite_below c.args.work.now.n c.args.c.0 c.requires.c_bound.0)

pub lowest-rule-requires : goal.lowest-rule-requires
lowest-rule-requires c = let within : c.loop-i.i < c.from-len.result = let marks : c.mark.result ≡ mark c.args.work.now.n c.args.work.now.words (opposite c.args.c.0) = c.mark.ensures.is ∙ ap (mark c.args.work.now.n c.args.work.now.words) c.opposite.ensures in
    let len = trace_length c.requires.away c.requires.c_bound.0 c.requires.c_bound.1 marks c.from-len.ensures in
    omega (arith, c.loop-i-test.true, length-take-le c.from-len.result c.args.area.now (omega (arith, len, c.requires.c_bound.2))) in
    record { a_bound = (c.loop-i.invariant.code, goes_on c.mark.ensures.sound.ready.sizes c.requires.c_bound.0 c.requires.away c.loop-i.invariant.code (omega (arith, c.loop-i.invariant.left)) (omega (arith, within))) }

pub loop-i-preserved : goal.loop-i-preserved
loop-i-preserved c = let marks : c.mark.result ≡ mark c.args.work.now.n c.args.work.now.words (opposite c.args.c.0) = c.mark.ensures.is ∙ ap (mark c.args.work.now.n c.args.work.now.words) c.opposite.ensures in
    let len = trace_length c.requires.away c.requires.c_bound.0 c.requires.c_bound.1 marks c.from-len.ensures in
    let whole : length (take c.from-len.result c.args.area.now) ≡ c.from-len.result = length-take-le c.from-len.result c.args.area.now (omega (arith, len, c.requires.c_bound.2)) in
    trace_turn c.mark.ensures.sound.ready.sizes c.requires.c_bound.0 c.requires.away c.loop-i.invariant (omega (arith, c.loop-i-test.true, whole)) len.1 (omega (arith, whole)) refl c.lowest-rule.ensures
    (rw c.rules.ensures.is at c.follow-a.ensures)

pub returns : goal.returns
returns c = let marks : c.mark.result ≡ mark c.args.work.now.n c.args.work.now.words (opposite c.args.c.0) = c.mark.ensures.is ∙ ap (mark c.args.work.now.n c.args.work.now.words) c.opposite.ensures in
    let len = trace_length c.requires.away c.requires.c_bound.0 c.requires.c_bound.1 marks c.from-len.ensures in
    let room : c.from-len.result ≤ length c.args.area.now = omega (arith, len, c.requires.c_bound.2) in
    trace_done c.mark.ensures.sound.ready.sizes c.requires.c_bound.0 c.requires.away room c.loop-i.invariant (omega (arith, c.loop-i-test.false, length-take-le c.from-len.result c.args.area.now room))
