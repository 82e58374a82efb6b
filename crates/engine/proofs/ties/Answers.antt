-- `ties` keeps its promise: it walks the components and answers by them.
use mathlib.Core.Path.{refl, sym, ◌∙◌}
use mathlib.Core.List.{[]}
use Rattle.std.proofs.Common.{arith, true, false}
use Rattle.components.proofs.Answers.{possible_of}
use Rattle.components.specs.Leads.{Leads, SomeClash}
use Rattle.meaning.proofs.ChainLaws.{clash_impossible}
use Rattle.meaning.proofs.RefusalLaws.{accepted}
use Rattle.engine.proofs.Fronts.{front_sizes, answers}
use Rattle.engine.proofs.ties.Goals as goal
use Rattle.engine.proofs.ties.Goals.{then-some_clash, else-some_clash}

pub prepare-requires : goal.prepare-requires
prepare-requires c = front_sizes _ _ _ _ c.in_ok-used.ensures.used _ _ (accepted _ _ _ _ _ (sym c.in_ok-used.ensures.due))

pub new-ranks-requires : goal.new-ranks-requires
new-ranks-requires c = let sizes = c.prepare.ensures.fresh.ready.sizes in
    (sizes.few, omega (arith, sizes.room, c.components.ensures.side.long))

pub put_ties-requires : goal.put_ties-requires
put_ties-requires c = record {
  settled = rw c.new-ranks.ensures c.components.ensures.leads.settled;
  room = rw c.new-ranks.ensures (accepted _ _ _ _ _ (sym c.in_ok-used.ensures.due)).room;
}

pub returns : goal.returns
returns c =
    let long = (c.components.ensures.side.long ∙ c.prepare.auto.work) in
    let ranks = c.new-ranks.result in
    let leads : Leads ranks.n c.args.words.now ranks.tables = rw c.new-ranks.ensures c.components.ensures.leads in
    let some : SomeClash c.args.n c.args.words.now c.some_clash.result = rw c.new-ranks.ensures at (c.some_clash.ensures _ leads) in
    elim c.if-some_clash.branch [
      | then-some_clash w ↦
          let clash : SomeClash c.args.n c.args.words.now true = rw w.if-some_clash.true at some in
          rw (w.area-is, w.answer-is)
          (answers _ _ _ _ c.in_ok-used.ensures.used _ _ _ _ _ _ [] _ long c.finish.ensures c.in_ok-used.ensures.due
          (clash_impossible _ _ clash.0 clash.1, refl)
          refl)
      | else-some_clash w ↦
          let free : SomeClash c.args.n c.args.words.now false = rw w.if-some_clash.false at some in
          let put = w.put_ties.ensures in
          rw (w.area-is, w.answer-is)
          (answers _ _ _ _ c.in_ok-used.ensures.used _ _ _ _ _ _ put.items _ long c.finish.ensures c.in_ok-used.ensures.due
          (possible_of c.prepare.ensures.fresh.ready.sizes.codes free, rw c.new-ranks.ensures at (put.ties _ leads))
          put.written)
    ]
