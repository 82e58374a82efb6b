-- `next` keeps its promise: it answers what was found from the given rota on.
use mathlib.Core.Path.{refl, sym, ◌∙◌}
use mathlib.Core.List.{[]}
use Rattle.std.proofs.Common.{arith}
use Rattle.meaning.proofs.RefusalLaws.{next_accepted}
use Rattle.search.specs.State.{rota_of}
use Rattle.engine.proofs.Answering.{next_rota, next_found, none_found}
use Rattle.engine.proofs.Fronts.{front_sizes, answers}
use Rattle.engine.proofs.next.Goals as goal
use Rattle.engine.proofs.next.Goals.{in-Moved, in_default}

pub new-state-requires : goal.new-state-requires
new-state-requires c = front_sizes _ _ _ _ c.in_ok-used.ensures.used _ _ (next_accepted _ _ _ _ (sym c.in_ok-used.ensures.due)).0

pub find_next-requires : goal.find_next-requires
find_next-requires c =
    record { by_index = rw c.new-state.ensures.begun.choices (c.new-state.ensures.begun.unmarked, next_rota _ _ _ _ c.in_ok-used.ensures.due) }

pub put_rota-requires : goal.put_rota-requires
put_rota-requires c =
    let accepts = (next_accepted _ _ _ _ (sym c.in_ok-used.ensures.due)).0 in
    let same = c.view.ensures.choices ∙ c.find_next.ensures.same.choices ∙ c.new-state.ensures.begun.choices in
    (omega (arith, same, accepts.choices), omega (arith, same, accepts.room))

pub returns : goal.returns
returns c =
    let long = c.match-find_next.auto.front in
    elim c.match-find_next.branch [
      | in-Moved w ↦ rw (w.rota-is, w.answer-is)
          (answers _ _ _ _ c.in_ok-used.ensures.used _ _ _ _ _ _ (rota_of c.args.n c.find_next.new.work.words) _ long c.finish.ensures c.in_ok-used.ensures.due
          (next_found c.new-state.ensures.begun _ w.in-Moved.ensures)
          (rw (w.view.ensures.choices ∙ c.find_next.ensures.same.choices ∙ c.new-state.ensures.begun.choices, w.view.ensures.words) at w.put_rota.ensures))
      | in_default w ↦ rw (w.rota-is, w.answer-is)
          (answers _ _ _ _ c.in_ok-used.ensures.used _ _ _ _ _ _ [] _ long c.finish.ensures c.in_ok-used.ensures.due
          (none_found c.new-state.ensures.begun _ _ c.find_next.ensures w.in_default.not-Moved)
          refl)
    ]
