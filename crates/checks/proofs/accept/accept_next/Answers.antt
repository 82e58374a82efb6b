-- `accept_next` meets its contract: what every call refuses comes first, then a byte over 1.
use Rattle.std.proofs.lemmas.Result.{err_from_is_err_and}
use Rattle.checks.proofs.NextRefusing.{next_ahead, next_room, next_value, next_fine}
use Rattle.checks.proofs.accept.accept_next.Goals as goal

pub returns-in_err-used-clause-due : goal.returns-in_err-used-clause-due
returns-in_err-used-clause-due c =
    let p = err_from_is_err_and c.from_residual.result c.from_residual.ensures.1 in
    rw (p.1, p.2) (next_ahead _ _ _ _ c.in_err-used.field-0.0 c.in_err-used.ensures.due)

pub value_too_high-at-requires : goal.value_too_high-at-requires
value_too_high-at-requires c = next_room _ _ _ _ c.in_ok-used.ensures.due

pub returns-then-at-n-clause-due : goal.returns-then-at-n-clause-due
returns-then-at-n-clause-due c = next_value _ _ _ _ c.in_ok-used.ensures.due _ c.value_too_high-at.ensures c.if-at-n.true

pub returns-clause-due : goal.returns-clause-due
returns-clause-due c = next_fine _ _ _ _ c.in_ok-used.ensures.due _ c.value_too_high-at.ensures c.if-at-n.false
