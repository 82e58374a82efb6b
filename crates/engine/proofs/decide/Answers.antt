-- `decide` keeps its promise: it searches, and answers what the search found.
use mathlib.Core.Path.{refl, sym, ◌∙◌}
use mathlib.Core.List.{[]}
use Rattle.std.proofs.Common.{arith}
use Rattle.meaning.proofs.RefusalLaws.{accepted}
use Rattle.search.specs.State.{rota_of}
use Rattle.engine.proofs.Answering.{first_found, clash_found}
use Rattle.engine.proofs.Fronts.{front_sizes, answers}
use Rattle.engine.proofs.decide.Goals as goal
use Rattle.engine.proofs.decide.Goals.{in-Ok, in-Err}

pub new-state-requires : goal.new-state-requires
new-state-requires c = front_sizes _ _ _ _ c.in_ok-used.ensures.used _ _ (accepted _ _ _ _ _ (sym c.in_ok-used.ensures.due))

pub put_rota-requires : goal.put_rota-requires
put_rota-requires c =
    let accepts = accepted _ _ _ _ _ (sym c.in_ok-used.ensures.due) in
    let same = c.view.ensures.choices ∙ c.search.ensures.same.choices ∙ c.new-state.ensures.begun.choices in
    (omega (arith, same, accepts.choices), omega (arith, same, accepts.room))

pub returns : goal.returns
returns c =
    let long = c.match-search.auto.front in
    elim c.match-search.branch [
      | in-Ok w ↦ rw (w.rota-is, w.answer-is)
          (answers _ _ _ _ c.in_ok-used.ensures.used _ _ _ _ _ _ (rota_of c.args.n c.search.new.work.words) _ long c.finish.ensures c.in_ok-used.ensures.due
          (first_found c.new-state.ensures.begun w.in-Ok.ensures)
          (rw (w.view.ensures.choices ∙ c.search.ensures.same.choices ∙ c.new-state.ensures.begun.choices, w.view.ensures.words) at w.put_rota.ensures))
      | in-Err w ↦ rw (w.rota-is, w.answer-is)
          (answers _ _ _ _ c.in_ok-used.ensures.used _ _ _ _ _ _ [] _ long c.finish.ensures c.in_ok-used.ensures.due
          (clash_found c.new-state.ensures.begun w.in-Err.ensures, refl)
          refl)
    ]
