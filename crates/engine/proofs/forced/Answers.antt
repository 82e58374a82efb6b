-- `forced` keeps its promise: it searches, finds out about all codes and answers by the notes.
use mathlib.Core.Path.{refl, sym, ◌∙◌}
use mathlib.Core.List.{[]}
use Rattle.std.proofs.Common.{arith}
use Rattle.meaning.proofs.ChainLaws.{clash_impossible}
use Rattle.meaning.proofs.RefusalLaws.{accepted}
use Rattle.rounds.specs.Rounds.{forced_of}
use Rattle.search.specs.State.{rota_of}
use Rattle.engine.proofs.Answering.{first_found, clash_found, forced_found}
use Rattle.engine.proofs.Fronts.{front_sizes, answers}
use Rattle.engine.proofs.forced.Goals as goal
use Rattle.engine.proofs.forced.Goals.{in-Ok, in-Err}

pub new-state-requires : goal.new-state-requires
new-state-requires c = front_sizes _ _ _ _ c.in_ok-used.ensures.used _ _ (accepted _ _ _ _ _ (sym c.in_ok-used.ensures.due))

pub put_forced-requires : goal.put_forced-requires
put_forced-requires c =
    let accepts = accepted _ _ _ _ _ (sym c.in_ok-used.ensures.due) in
    let same = c.view.ensures.choices ∙ c.sweep.ensures.same.choices ∙ c.search.ensures.same.choices ∙ c.new-state.ensures.begun.choices in
    (omega (arith, same, accepts.choices), omega (arith, same, accepts.room))

pub returns : goal.returns
returns c =
    let long = c.match-search.auto.front in
    elim c.match-search.branch [
      | in-Ok w ↦ rw (w.area-is, w.answer-is)
          (answers _ _ _ _ c.in_ok-used.ensures.used _ _ _ _ _ _ (forced_of c.args.n w.sweep.new.work.words) _ long c.finish.ensures c.in_ok-used.ensures.due
          ((rota_of c.args.n c.search.new.work.words, (first_found c.new-state.ensures.begun w.in-Ok.ensures).allowed), forced_found c.new-state.ensures.begun _ w.in-Ok.ensures w.sweep.ensures)
          (rw (w.view.ensures.choices ∙ w.sweep.ensures.same.choices ∙ c.search.ensures.same.choices ∙ c.new-state.ensures.begun.choices, w.view.ensures.words) at w.put_forced.ensures))
      | in-Err w ↦ rw (w.area-is, w.answer-is)
          (answers _ _ _ _ c.in_ok-used.ensures.used _ _ _ _ _ _ [] _ long c.finish.ensures c.in_ok-used.ensures.due
          (clash_impossible _ _ _ (clash_found c.new-state.ensures.begun w.in-Err.ensures).clash, refl)
          refl)
    ]
