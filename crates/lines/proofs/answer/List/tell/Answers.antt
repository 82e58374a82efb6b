-- `tell` meets its contract: Decide is not refused, and what it answers is told.
use borrow.Author.Rules.{rules}
use Rattle.lines.proofs.Telling.{decide_not_refused, decide_impossible}
use Rattle.lines.proofs.answer.List.tell.Goals as goal

pub tell_impossible-requires : goal.tell_impossible-requires
tell_impossible-requires c = record { room = (search rules, c.requires); impossible = decide_impossible c.args.self.now.savable (rw (c.in-Ok-Impossible.is, c.in-Ok-Impossible.field-0-is) at c.decide.ensures) }

pub returns-in-Err : goal.returns-in-Err
returns-in-Err c = absurd (decide_not_refused c.args.self.now.savable c.in-Err.ensures (search rules) (search rules))
