-- `lowest` meets its contract. The invariant: no end that is passed fits, or the rule is found.
use mathlib.Core.Path.{sym, ◌∙◌}
use native.Mathlib.Omega.{arith}
use Rattle.meaning.proofs.CodeLaws.{opposite_below}
use Rattle.chains.proofs.Picking.{pick_found, pick_pass, pick_first, pick_done, not_found, was_found}
use Rattle.chains.proofs.nearer.lowest.Goals as goal
use Rattle.chains.proofs.nearer.lowest.Goals.{then-is_none+then-mark_across-d, else-is_none, else-is_none-via-then-is_none+else-mark_across-d, else-is_none-via-else-is_none}

pub first_end-at-requires : goal.first_end-at-requires
first_end-at-requires c = omega (arith, c.opposite.ensures, opposite_below c.args.work.now.n c.args.a.0 c.requires.a_bound.0)

pub loop-at-preserved : goal.loop-at-preserved
loop-at-preserved c = let ready = c.first_end-at.ensures.sound.ready in
    let v = rw c.in-Some.is at c.loop-at.invariant in
    elim c.if-is_none.branch [
      | then-is_none+then-mark_across-d w ↦ (rw w.found-is (pick_first ready v c.next_end-at.ensures (not_found c.loop-at.found c.is_none.result c.is_none.ensures w.if-is_none.true) (sym w.mark_across.ensures ∙ w.if-mark_across-d.true) w.rule_of.ensures))
      | else-is_none w ↦ (rw w.found-is (elim w.else-is_none.branch [
        | else-is_none-via-then-is_none+else-mark_across-d u ↦ (pick_pass ready v c.next_end-at.ensures (λ h. u.if-mark_across-d.false (u.mark_across.ensures ∙ h)))
        | else-is_none-via-else-is_none u ↦ (pick_found ready v c.next_end-at.ensures (was_found c.loop-at.found c.is_none.result c.is_none.ensures u.if-is_none.false))
      ]))
    ]

pub returns : goal.returns
returns c = rw c.unwrap_or.ensures (pick_done c.first_end-at.ensures.sound.ready c.loop-at.found _ (rw c.in_default.is at c.loop-at.invariant) c.requires.a_bound.1)
