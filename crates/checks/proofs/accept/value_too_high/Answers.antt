-- `value_too_high` meets its contract: every byte that was passed is a value.
use mathlib.Core.Path.{sym}
use lib.Seq.{length-take-le}
use Rattle.std.proofs.Common.{arith}
use Rattle.meaning.proofs.RefusalLaws.{first_over_lem}
use Rattle.checks.proofs.accept.value_too_high.Goals as goal

pub returns-then-value-gt-LATE : goal.returns-then-value-gt-LATE
returns-then-value-gt-LATE c = sym (first_over_lem _ _ c.loop-i.i (omega arith) c.loop-i.invariant (λ h. omega arith))

pub returns : goal.returns
returns c =
    let long = length-take-le c.args.n c.args.rota.now c.requires in
    sym (first_over_lem _ _ c.args.n (omega arith) (λ j h. c.loop-i.invariant j (omega arith)) (λ h. absurd (omega arith)))
