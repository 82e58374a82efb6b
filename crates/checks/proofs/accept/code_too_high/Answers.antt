-- `code_too_high` meets its contract: where the highest word is below the limit, every word is.
use mathlib.Core.Path.{sym}
use Rattle.std.proofs.Common.{arith, length}
use Rattle.meaning.proofs.RefusalLaws.{first_over_lem}
use Rattle.checks.proofs.accept.code_too_high.Goals as goal

pub returns-then-from-limit : goal.returns-then-from-limit
returns-then-from-limit c =
    sym (first_over_lem c.args.limit c.args.words.now (length c.args.words.now) (omega arith) (λ j h. omega (arith, c.highest.ensures.over j h, c.from.ensures)) (λ h. absurd (omega arith)))
