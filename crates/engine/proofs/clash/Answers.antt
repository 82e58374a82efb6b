-- `clash` keeps its promise: it searches, and where a choice is stuck writes its two chains.
use mathlib.Core.Path.{refl, sym, ◌∙◌}
use mathlib.Core.List.{[]}
use Rattle.meaning.proofs.RefusalLaws.{accepted, due_needs}
use Rattle.search.specs.State.{rota_of}
use Rattle.engine.proofs.Answering.{refuses, first_found, is_late, is_early, late_chains, early_chains, chains_found}
use Rattle.engine.proofs.Fronts.{front_sizes, answers}
use Rattle.engine.proofs.clash.Goals as goal
use Rattle.engine.proofs.clash.Goals.{in-Ok, in-Err}

pub returns-in_err-used : goal.returns-in_err-used
returns-in_err-used c =
    refuses _ _ _ _ _ _ _ c.in_err-used.field-0.0 (c.in_err-used.ensures.due ∙ due_needs _ _ _ _ _ _ c.chains_need.ensures.need) c.from_residual.ensures.1

pub new-state-requires : goal.new-state-requires
new-state-requires c = front_sizes _ _ _ _ c.in_ok-used.ensures.used _ _ (accepted _ _ _ _ _ (sym c.in_ok-used.ensures.due))

pub chain-there-requires-clause-c_bound : goal.chain-there-requires-clause-c_bound
chain-there-requires-clause-c_bound c =
    let accepts = accepted _ _ _ _ _ (sym (c.in_ok-used.ensures.due ∙ due_needs _ _ _ _ _ _ c.chains_need.ensures.need)) in
    let few = accepts.choices in
    late_chains few c.new-state.ensures.begun c.in-Err.ensures c.undo_to.ensures _
    (is_late few c.new-state.ensures.begun c.in-Err.ensures c.undo_to.ensures _ c.of.ensures) accepts.room

pub chain-back-requires-clause-c_bound : goal.chain-back-requires-clause-c_bound
chain-back-requires-clause-c_bound c =
    let accepts = accepted _ _ _ _ _ (sym (c.in_ok-used.ensures.due ∙ due_needs _ _ _ _ _ _ c.chains_need.ensures.need)) in
    let few = accepts.choices in
    early_chains few c.new-state.ensures.begun c.in-Err.ensures c.undo_to.ensures _
    (is_late few c.new-state.ensures.begun c.in-Err.ensures c.undo_to.ensures _ c.of.ensures) accepts.room c.chain-there.ensures _
    (is_early few c.new-state.ensures.begun c.in-Err.ensures c.undo_to.ensures _ c.of-in-Err.ensures)

pub returns : goal.returns
returns c =
    let fine = c.in_ok-used.ensures.due ∙ due_needs _ _ _ _ _ _ c.chains_need.ensures.need in
    let accepts = accepted _ _ _ _ _ (sym fine) in
    let few = accepts.choices in
    let long = c.match-search.auto.front in
    elim c.match-search.branch [
      | in-Ok w ↦ rw (w.chains-is, w.answer-is)
          (answers _ _ _ _ c.in_ok-used.ensures.used _ _ _ _ _ _ [] _ long c.finish.ensures fine
          ((rota_of c.args.n c.search.new.work.words, (first_found c.new-state.ensures.begun w.in-Ok.ensures).allowed), refl)
          refl)
      | in-Err w ↦
          let both = chains_found few c.new-state.ensures.begun w.in-Err.ensures w.undo_to.ensures _
          (is_late few c.new-state.ensures.begun w.in-Err.ensures w.undo_to.ensures _ w.of.ensures) accepts.room w.chain-there.ensures
          (is_early few c.new-state.ensures.begun w.in-Err.ensures w.undo_to.ensures _ w.of-in-Err.ensures) w.chain-back.ensures in
          rw (w.chains-is, w.answer-is)
          (answers _ _ _ _ c.in_ok-used.ensures.used _ _ _ _ _ _ both.0 _ long c.finish.ensures fine
          both.1
          both.2)
    ]
